-- The promise of `c004`.
use Rattle.std.proofs.Common.{◌≡◌, ◌∙◌, ◌++◌, ℕ, List, [], Option, Some, None, inl, inr, ◌⊎◌, refl, sym, ap, subst}
use Rattle.std.specs.Prelude.{IfSome, option_to_list}
use Rattle.std.specs.Io.KnownBytes.{Consumes, IsAtEnd}
use Rattle.std.proofs.lemmas.List.{append-nil}
use Rattle.clap.specs.Words.{Text}
use Rattle.command_words.specs.Jobs.{Files, files_of}
use Rattle.command_words.specs.declared.jobs.Job.TheVariants.{Ports as OverPorts}
use Rattle.command_words.specs.declared.jobs.PortJob.TheVariants.{C004}
use Rattle.drive_answers.specs.Ways.{Ways}
use Rattle.exchange.proofs.AskedJobs.{JobsCome, the_run}
use Rattle.exchange.proofs.EndStatuses.{gave_up, given_up, never_done}
use Rattle.exchange.proofs.HeldFiles.{held_files, pass}
use Rattle.exchange.specs.Promises.{AsksFor, Comes, HasGivenUp, HasReplied, Run}
use Rattle.exchange.specs.Responses.{Given, IsC004By, Named}
use Rattle.named_files.specs.Contents.{AreContents, Holding}
use Rattle.plan_answers.specs.Refusals.{Printed}
use Rattle.plan_answers.specs.declared.limits.TheConstants.{DONE, REFUSED}

-- no file was read
none_read : (holds : Holding) (input : Option (List ℕ)) (texts : Files (List ℕ)) (rest : Option (List ℕ)) → AreContents holds input (files_of (OverPorts C004))
    texts rest → rest ≡ input
none_read holds input texts rest r =
    pass holds r.3 [] texts.scripts rest tt r.8 ∙ (pass holds r.2 [] (option_to_list texts.wiring) r.3 tt r.7
    ∙ (pass holds r.1 [] (option_to_list texts.schedule) r.2 tt r.6
    ∙ (pass holds r.0 [] (option_to_list texts.list) r.1 tt r.5 ∙ pass holds input [] (option_to_list texts.image) r.0 tt r.4)))

-- what came is the first part of standard input; at its end it is all
came_of : (input after : Option (List ℕ)) (came : List ℕ) → Consumes input after came → (rest : List ℕ) × IfSome input (λ known. came ++ rest ≡ known)
    × (IsAtEnd after → rest ≡ [])
came_of None after came c = ([], tt, λ end. refl)
came_of (Some xs) None came c = absurd c
came_of (Some xs) (Some ys) came c = (ys, sym c, λ end. end)

module _ (named : Named) (given : Given) (ports : Ways) (words : List Text) (prints : List ℕ → Type 0) (status : ℕ) where
  abbrev The : Run
  The = the_run named given words prints status

  replied : (rest : Option (List ℕ)) (told : List ℕ) (end : Printed) → rest ≡ given.input → (status ≡ DONE → end.status ≡ DONE) → IsC004By rest told end
      → HasReplied The told
  replied rest told end same done (came, dropped, after, switch, consumed, ran, none, how) =
      let left = came_of rest after came consumed in
      record {
        came = came;
        rest = left.0;
        told = dropped;
        left = switch;
        held = (λ is. subst (λ (b : Option (List ℕ)). IfSome b (λ known. came ++ left.0 ≡ known)) same left.1, λ other. absurd (other refl));
        all = λ is. elim how [ inl at_end ↦ left.2 at_end.0 | inr refuses ↦ absurd (never_done end.status refuses (done is)) ];
        replied = ran;
      }

  none_after : (rest : Option (List ℕ)) (told : List ℕ) (end : Printed) → IsC004By rest told end → prints (told ++ end.text) → prints told
  none_after rest told end by = subst prints (ap (λ (t : List ℕ). told ++ t) by.6 ∙ append-nil told)

  pub replies : (asks : AsksFor The (OverPorts C004)) → JobsCome named given ports The → Comes The (OverPorts C004) (λ texts printed. HasReplied The printed)
      ⊎ (HasGivenUp The × (status ≡ REFUSED))
  replies asks come =
      elim (come (record { job = OverPorts C004; is_quiet = asks.0 }) asks.1) [
        | inl r ↦ elim r.is [
          | inl comes ↦
              let is = comes.1 in
              let by = is.3.2.0 in
              inl (
                is.0,
                r.response.told,
                held_files words (record { job = OverPorts C004; is_quiet = asks.0 }) named.holds given.input is.0 is.1 asks.1 is.2,
                none_after is.1 r.response.told r.response.end by r.prints,
                replied is.1 r.response.told r.response.end (none_read named.holds given.input is.0 is.1 is.2) (λ done. sym r.status ∙ done) by,
              )
          | inr none ↦
              let text = subst (λ (told : List ℕ). prints (told ++ r.response.end.text)) none.0 r.prints in
              inr (gave_up The r.response.end none.4 text, r.status ∙ given_up r.response.end none.4)
        ]
        | inr other ↦ elim other [
          | inl t ↦
              let is = t.cut in
              let by = is.4.0 in
              inl (
                is.1,
                t.told ++ by.0,
                held_files words (record { job = OverPorts C004; is_quiet = asks.0 }) named.holds given.input is.1 is.2 asks.1 is.3,
                t.prints by.0,
                replied is.2 (t.told ++ by.0) by.1 (none_read named.holds given.input is.1 is.2 is.3) (λ done. absurd (never_done status t.status done)) by.2,
              )
          | inr none ↦ inr (inl none.prints, none.status)
        ]
      ]
