-- What goes to files.
use Rattle.std.proofs.Common.{◌≡◌, ◌∙◌, ◌++◌, ℕ, Bool, not, List, [], Option, Some, None, Result, Ok, Err, OnOk, OnErr, IsErrAnd, false, true, is_ok, is_some, append-nil, append_assoc, ap, subst, sym}
use Rattle.std.proofs.Common.{refl}
use Rattle.std.specs.Io.KnownBytes.{Appends}
use Rattle.byte_streams.specs.Writing.{IsCutShort}
use Rattle.clap.specs.Words.{Text}
use Rattle.named_files.specs.Outputs.{HasNothingGone, IsFileWritten, IsLeftOfAny, IsOpened, is_new, name_of, stream_of}
use Rattle.named_files.proofs.Named.{by_more, gone_front, one_name}
pub use Rattle.named_files.proofs.Named.{grown}
use Rattle.named_files.specs.Streams.{Closed, IsFrontOf, IsLeftOf, IsWrittenBy, closed, written_by, written_to, named_text}
use Rattle.named_files.specs.declared.write_failures.WriteFailure.{WriteFailure}
use Rattle.named_files.specs.declared.outputs.NamedOutput.{NamedOutput}

-- what was written after a text
pub written_behind : {E : Type 0} (r : Result Unit E) (name : Option Text) (old new : Option (List ℕ)) (text bytes : List ℕ) → written_by name old ≡ Some text
    → OnOk r (Appends old new bytes) → OnErr r (IsCutShort old new bytes) → IsWrittenBy r (text ++ bytes) (written_by name new)
written_behind (Ok u) name old new text bytes is went cut = by_more name old new text bytes is went
written_behind (Err e) name old new text bytes is went cut = (
  text ++ cut.front,
  cut.missing,
  ap (λ (x : List ℕ). text ++ x) cut.bytes_are ∙ sym (append_assoc text cut.front cut.missing),
  by_more name old new text cut.front is cut.appended,
)

-- nothing was written after it
pub left_behind : (old : Option (List ℕ)) (text bytes : List ℕ) → IsFrontOf text old → IsFrontOf (text ++ bytes) old
left_behind old text bytes t = (t.0, t.1 ++ bytes, ap (λ (x : List ℕ). x ++ bytes) t.2 ∙ append_assoc t.0 t.1 bytes, t.3)

-- of no file, nothing is lost
pub stands_where : {E : Type 0} (end : Result Unit E) (lost : Option WriteFailure) → is_some lost ≡ not (is_ok end) → is_ok end ≡ not (is_some lost)
stands_where (Ok u) None is = refl
stands_where (Ok u) (Some why) is = absurd (let bad : true ≡ false = is in cc)
stands_where (Err e) None is = absurd (let bad : false ≡ true = is in cc)
stands_where (Err e) (Some why) is = refl

-- what is left of a file that was written
left_is : {E : Type 0} (first : Result Unit E) (name : Text) (bytes : List ℕ) (contents : Option (List ℕ)) (durable : Bool) (left : Closed)
    → IsWrittenBy first bytes (written_to name contents) → IsLeftOf contents durable left → left ≡ closed name (written_to name contents) durable
left_is (Ok u) name bytes contents durable left wrote is = is name bytes wrote ∙ ap (λ (b : Option (List ℕ)). closed name b durable) (sym wrote)
left_is (Err e) name bytes contents durable left wrote is = is name wrote.0 wrote.3 ∙ ap (λ (b : Option (List ℕ)). closed name b durable) (sym wrote.3)

-- a file that was written and put in its place, or why not
file_written : {C E : Type 0} (received : C → Closed) (name : Text) (bytes : List ℕ) (receipt : C) (lost : Option WriteFailure) (first end : Result Unit E)
    (after : Option (List ℕ))
    → IsWrittenBy first bytes after → received receipt ≡ closed name after (is_ok end) → OnErr first (is_ok end ≡ false) → is_some lost ≡ not (is_ok end)
    → IsFileWritten received (Some name) bytes (Some receipt) lost
file_written received name bytes receipt None (Ok u) end after wrote is cut lost_is =
    (ap (λ (c : Closed). c.bytes) is ∙ wrote, ap (λ (c : Closed). c.durable) is ∙ stands_where end None lost_is, ap (λ (c : Closed). c.name) is)
file_written received name bytes receipt (Some why) (Ok u) end after wrote is cut lost_is = (
  (bytes, [], sym (append-nil bytes), ap (λ (c : Closed). c.bytes) is ∙ wrote),
  ap (λ (c : Closed). c.durable) is ∙ stands_where end (Some why) lost_is,
  ap (λ (c : Closed). c.name) is,
)
file_written received name bytes receipt None (Err e) end after wrote is cut lost_is =
    absurd (let one : is_ok end ≡ false = cut in let bad : false ≡ not (is_ok end) = lost_is in let no : false ≡ true = bad ∙ ap not one in cc)
file_written received name bytes receipt (Some why) (Err e) end after wrote is cut lost_is = (
  (wrote.0, wrote.1, wrote.2, ap (λ (c : Closed). c.bytes) is ∙ wrote.3),
  ap (λ (c : Closed). c.durable) is ∙ stands_where end (Some why) lost_is,
  ap (λ (c : Closed). c.name) is,
)

-- the same of a file that has a name
pub named_written : {C E : Type 0} (received : C → Closed) (name : Option Text) (bytes : List ℕ) (receipt : C) (lost : Option WriteFailure)
    (first end : Result Unit E) (contents : Option (List ℕ))
    → is_some name ≡ true → IsWrittenBy first bytes (written_by name contents) → IsLeftOf contents (is_ok end) (received receipt)
    → OnErr first (is_ok end ≡ false) → is_some lost ≡ not (is_ok end) → IsFileWritten received name bytes (Some receipt) lost
named_written received None bytes receipt lost first end contents has wrote is cut lost_is = absurd (let bad : false ≡ true = has in cc)
named_written received (Some name) bytes receipt lost first end contents has wrote is cut lost_is =
    file_written received name bytes receipt lost first end (written_to name contents) wrote
    (left_is first name bytes contents (is_ok end) (received receipt) wrote is) cut lost_is

-- a new file that was closed as it was opened
pub nothing_gone : {F C : Type 0} (contents : F → Option (List ℕ)) (received : C → Closed) (name : Option Text) (out : Option (NamedOutput F))
    (receipt : Option C)
    → IsOpened contents is_new name out → IsLeftOfAny contents received (stream_of out) receipt → HasNothingGone received name receipt
nothing_gone {F} {C} contents received name None receipt opened none = subst (HasNothingGone received name) (sym none) tt
nothing_gone contents received name (Some o) None opened left = absurd left
nothing_gone contents received None (Some o) (Some r) opened left = absurd (let bad : None ≡ Some o.name.now = opened.0 in cc)
nothing_gone contents received (Some name) (Some o) (Some r) opened left =
    let same : o.name.now ≡ name = (let e : Some name ≡ Some o.name.now = opened.0 in cc) in
    left o.name.now [] (opened.2 ∙ ap Some opened.1) ∙ ap (λ (n : Text). closed n (Some []) false) same

-- where something failed before, nothing was written
pub unwritten : {E : Type 0} (r : Result Unit E) (P : E → Type 0) (bytes : List ℕ) (after : Option (List ℕ)) → IsErrAnd r P → after ≡ Some []
    → IsWrittenBy r bytes after
unwritten (Ok u) P bytes after err is = absurd err
unwritten (Err e) P bytes after err is = ([], bytes, refl, is)

-- a new file that was closed as it was opened, since something is lost
pub left_new : {F C : Type 0} (contents : F → Option (List ℕ)) (received : C → Closed) (out : Option (NamedOutput F)) (o : NamedOutput F) (wanted : List ℕ)
    (receipt : C) (lost : WriteFailure)
    → out ≡ Some o → IsOpened contents is_new (name_of out) out → IsLeftOf (contents o.file) false (received receipt) → IsFileWritten received (name_of out)
    wanted (Some receipt) (Some lost)
left_new {F} {C} contents received None o wanted receipt lost is opened left = absurd cc
left_new {F} {C} contents received (Some x) o wanted receipt lost is opened left =
    let same : x ≡ o = cc in
    let begun : written_to x.name.now (contents o.file) ≡ Some [] = ap (λ (y : NamedOutput F). written_to x.name.now (contents y.file)) (sym same) ∙ opened.2
    ∙ ap Some opened.1 in
    let so = left x.name.now [] begun in
    (([], wanted, refl, ap (λ (c : Closed). c.bytes) so), ap (λ (c : Closed). c.durable) so, ap (λ (c : Closed). c.name) so)

-- ---- files of the real system

-- what contracts see of one says what has gone to it
pub opened_named : (name named sent held : List ℕ) → named ≡ name → sent ≡ held → written_to name (Some (named_text named sent)) ≡ Some held
opened_named name named sent held same are = rw (same, are) (gone_front name held)

pub left_named : (named sent after went : List ℕ) (durable is : Bool) → (went ≡ sent) × (after ≡ named) × (is ≡ durable)
    → IsLeftOf (Some (named_text named sent)) durable (closed after (Some went) is)
left_named named sent after went durable is same = λ name bytes gone.
    let one : named ≡ name = one_name named name sent bytes gone in
    let rest : Some sent ≡ Some bytes = sym (opened_named name named sent sent one refl) ∙ gone in
    let all : Some went ≡ Some bytes = ap Some same.0 ∙ rest in
    rw (same.1 ∙ one, all, same.2) refl
