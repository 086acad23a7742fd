-- How a setting ends.
use Rattle.std.proofs.Common.{◌≡◌, ℕ, List, Result, Ok, Err, sym, subst}
use Rattle.std.specs.Prelude.{All, OnOk, IfErr, MatchResult}
use Rattle.batch.specs.ShapeView.{ShapeView}
use Rattle.batch.specs.declared.transfer.Transfer.{Transfer}
use Rattle.module_memory.specs.Lending.{RestView, BlockAt}
use Rattle.setting_runner.specs.declared.outcome.StopCause.{StopCause}
use Rattle.setting_runner.specs.declared.outcome.StopCause.TheVariants.{Port, SwitchDisagrees, Wire}
use Rattle.setting_runner.specs.declared.setting.Stop.{Stop}
use Rattle.setting_runner.specs.Moves.{HaveMoved, none_sure, all_moved, AllWhole}
use Rattle.setting_runner.specs.Runs.{RunConditions, IsStopCause, IsShortfall}
use Rattle.setting_runner.proofs.Causes.{sure_moved}
use Rattle.setting_runner.proofs.Moves.{HaveMoved-forget, whole_moves}

-- what its transfers have moved: all words, or as many as it stops with
pub ended : {T : Type 0} (result : Result T Stop) (sure : ℕ → Type 0) (rest : RestView) (batch : List Transfer) (ts : List ℕ) (os ns : List BlockAt)
    (ms : List (ℕ × ℕ)) → HaveMoved sure rest batch ts os ns ms → OnOk result (AllWhole rest.store.shape.words ms)
    → IfErr result (λ stop. stop.moved ≡ ms) → MatchResult result (λ _. HaveMoved none_sure rest batch ts os ns (all_moved ts rest.store.shape.words))
    (λ stop. HaveMoved none_sure rest batch ts os ns stop.moved)
ended (Ok x) sure rest batch ts os ns ms moves whole same =
    subst (λ (m : List (ℕ × ℕ)). HaveMoved none_sure rest batch ts os ns m) (whole_moves sure rest batch ts os ns ms moves whole)
    (HaveMoved-forget sure rest batch ts os ns ms moves)
ended (Err stop) sure rest batch ts os ns ms moves whole same =
    subst (λ (m : List (ℕ × ℕ)). HaveMoved none_sure rest batch ts os ns m) (sym same) (HaveMoved-forget sure rest batch ts os ns ms moves)

short_stops : (given : RunConditions) (cause : StopCause) (ms : List (ℕ × ℕ)) → All (λ (m : ℕ × ℕ). given.sure m.0 → m.1 ≡ given.shape.words) ms
    → IsShortfall given.shape.words ms cause → given.after ≡ given.before → IsStopCause given cause ms
short_stops given (Wire t) ms others least unfailed = record { least = least; others = others; unfailed = unfailed }
short_stops given Port ms others least unfailed = absurd least
short_stops given (SwitchDisagrees output) ms others least unfailed = absurd least

-- why it stops
pub ended_cause : {T : Type 0} (result : Result T Stop) (given : RunConditions) (rest : RestView) (batch : List Transfer) (ts : List ℕ) (os ns : List BlockAt)
    (ms : List (ℕ × ℕ)) → rest.store.shape ≡ given.shape → HaveMoved given.sure rest batch ts os ns ms → IfErr result (λ stop. stop.moved ≡ ms)
    → IfErr result (λ stop. IsShortfall rest.store.shape.words ms stop.cause) → given.after ≡ given.before
    → IfErr result (λ stop. IsStopCause given stop.cause stop.moved)
ended_cause (Ok x) given rest batch ts os ns ms e moves same short unfailed = tt
ended_cause (Err stop) given rest batch ts os ns ms e moves same short unfailed =
    subst (λ (m : List (ℕ × ℕ)). IsStopCause given stop.cause m) (sym same)
    (short_stops given stop.cause ms (subst (λ (x : ShapeView). All (λ (m : ℕ × ℕ). given.sure m.0 → m.1 ≡ x.words) ms) e
    (sure_moved given.sure rest batch ts os ns ms moves)) (subst (λ (x : ShapeView). IsShortfall x.words ms stop.cause) e short) unfailed)
