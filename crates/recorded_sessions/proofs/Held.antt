-- What goes to the files that sessions write.
use Rattle.std.proofs.Common.{◌≡◌, ◌∙◌, ℕ, Bool, List, Option, Some, None, false, is_some, ap, inl, subst, sym, refl}
use Rattle.std.specs.Prelude.{option_map}
use Rattle.named_files.specs.Outputs.{IsLeftOfAny, stream_of}
use Rattle.clap.specs.Words.{Text}
use Rattle.command_words.specs.declared.jobs.RecordFile.{RecordFile}
use Rattle.named_files.specs.Outputs.{IsOpened}
use Rattle.named_files.specs.Streams.{Closed, closed}
use Rattle.recorded_sessions.specs.Records.{IsAsBegun}
use Rattle.named_files.specs.declared.outputs.NamedOutput.{NamedOutput}

-- a record has a name
pub has_name : (record_out : Option RecordFile) (b : Bool) → b ≡ is_some record_out → b ≡ is_some (option_map (λ (out : RecordFile). out.name) record_out)
has_name None b is = is
has_name (Some out) b is = is

-- the file of a record that was closed as it was opened
pub as_held : {F C : Type 0} (holds : List ℕ → List ℕ → Type 0) (contents : F → Option (List ℕ)) (received : C → Closed) (record_out : Option RecordFile)
    (names : List Text) (out : Option (NamedOutput F)) (receipt : Option C)
    → IsOpened contents holds (option_map (λ (r : RecordFile). r.name) record_out) out → IsLeftOfAny contents received (stream_of out) receipt
    → IsAsBegun holds received record_out names receipt
as_held {F} {C} holds contents received record_out names None receipt opened none = subst (IsAsBegun holds received record_out names) (sym none) tt
as_held holds contents received record_out names (Some o) None opened left = absurd left
as_held holds contents received None names (Some o) (Some r) opened left = absurd (let bad : None ≡ Some o.name.now = opened.0 in cc)
as_held holds contents received (Some file) names (Some o) (Some r) opened left =
    let name : o.name.now ≡ file.name = (let e : Some file.name ≡ Some o.name.now = opened.0 in cc) in (
      o.held.items,
      o.held.items,
      subst (λ (n : Text). holds n o.held.items) name opened.1,
      left o.name.now o.held.items opened.2
          ∙ ap (λ (n : Text). closed n (Some o.held.items) false) name,
      inl refl,
    )
