-- Over a port and wires that never fail no run stops.
use Rattle.std.proofs.Common.{◌≡◌, ◌∙◌, ℕ, All, true≢false, sym, subst, arith}
use Rattle.std.specs.Prelude.{List, Option, IsTrue}
use Rattle.std.proofs.lemmas.List.Elements.{All-contains, All-push}
use Rattle.batch.specs.ShapeView.{ShapeView}
use Rattle.crossbar.specs.declared.port.ConfigPort.{Ghosts}
use Rattle.setting_runner.specs.declared.outcome.StopCause.{StopCause}
use Rattle.setting_runner.specs.declared.outcome.StopCause.TheVariants.{Port, SwitchDisagrees, Wire}
use Rattle.setting_runner.specs.declared.plant.Plant.{Plant}
use Rattle.setting_runner.specs.Plants.{LeavesPlant, RunSchedule}
use Rattle.setting_runner.specs.Runs.{RunConditions, IsStopCause}
use Rattle.batch_book.specs.declared.call.Call.{Call}
use Rattle.batch_book.specs.declared.reply.Reply.{Reply}
use Rattle.batch_book.specs.declared.reply.Reply.TheVariants.{Stopped}
use Rattle.batch_book.specs.History.{BookView, entry, AreUnstopped, IsGrown}
use Rattle.batch_book.specs.Replies.{outcome_of, IsUnstopped, NeverFail}
use Rattle.batch_book.specs.declared.entry.Entry.{Entry}

no_cause : (given : RunConditions) (cause : StopCause) (moved : List (ℕ × ℕ)) → given.after ≡ given.before → IsTrue given.honest
    → ((transfer : ℕ) → given.sure transfer) → IsStopCause given cause moved → ⊥
no_cause given Port moved unfailed honest sure is = let failed = is.failed in omega (arith, unfailed)
no_cause given (SwitchDisagrees output) moved unfailed honest sure is = true≢false (sym honest ∙ is.dishonest)
no_cause given (Wire transfer) moved unfailed honest sure is =
    let all : All (λ (m : ℕ × ℕ). m.1 ≡ given.shape.words) moved = λ k d below. is.others k d below (sure _) in
    let short = is.least.short in
    let whole = All-contains (λ (m : ℕ × ℕ). m.1 ≡ given.shape.words) moved (transfer, is.least.count) all is.least.stands in
    omega arith

unstopped : {P W G : Type 0} (seen : Ghosts P) (sure : W → ℕ → Type 0) (shape : ShapeView) (ran : Option RunSchedule) (r : Reply) (old new : Plant P W G)
    → NeverFail seen sure → LeavesPlant seen sure shape ran (outcome_of r) old new → IsUnstopped r
unstopped seen sure shape ran (Stopped run setting cause moved) old new never left =
    λ _ _ _ _ _. no_cause _ cause moved (never.unfailed old.port new.port) (never.honest old.port) (never.sure_wires old.wires) left.cause
unstopped seen sure shape ran r old new never left = λ run setting cause moved is. absurd (cc)

-- so none of a history that grows by a call
pub stay_unstopped : {P W G : Type 0} (seen : Ghosts P) (sure : W → ℕ → Type 0) (shape : ShapeView) (ran : Option RunSchedule) (plant next : Plant P W G)
    (old : BookView) (session : ℕ) (c : Call) (r : Reply) (new : BookView)
    → LeavesPlant seen sure shape ran (outcome_of r) plant next → IsGrown old session c r new → (NeverFail seen sure → AreUnstopped old.history)
    → NeverFail seen sure → AreUnstopped new.history
stay_unstopped seen sure shape ran plant next old session c r new left grown before never =
    subst AreUnstopped (sym grown.history) (All-push (λ (e : Entry). IsUnstopped e.reply) old.history (entry session c r) (before never)
    (unstopped seen sure shape ran r plant next never left))
