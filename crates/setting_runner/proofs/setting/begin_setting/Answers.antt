use Rattle.std.proofs.Common.{◌≡◌, ℕ, List, sym, ◌∙◌, subst, rules}
use Rattle.std.specs.Prelude.{All}
use Rattle.setting_runner.specs.declared.outcome.StopCause.{StopCause}
use Rattle.setting_runner.specs.Runs.{RunConditions, IsStopCause}
use Rattle.setting_runner.proofs.Causes.{all_zero, set_fault_stops, no_wire}
use Rattle.setting_runner.proofs.Passing.{fault_passes}
use Rattle.setting_runner.proofs.setting.begin_setting.Goals as goal

pub returns-in-Err-clause-cause : goal.returns-in-Err-clause-cause
returns-in-Err-clause-cause g c =
    let given : RunConditions = record {
      sure = g.W.WireMaker.is_sure c.args.plant.now.wires;
      shape = c.args.shape;
      before =
          g.P.ConfigPort.failures c.args.plant.now.port;
      after = g.P.ConfigPort.failures c.configure_switches.new.port;
      honest =
          g.P.ConfigPort.honest c.args.plant.now.port;
    } in
    let same : c.modules.result ≡ c.args.shape.modules = search rules in
    let passed = rw same at c.in-Err.ensures.vain in
    let unmoved = subst (λ (ms : List (ℕ × ℕ)). All (λ (m : ℕ × ℕ). m.1 ≡ 0) ms) (sym c.none_moved.ensures) (all_zero c.args.setting.now.numbers.now) in
    subst (λ (cause : StopCause). IsStopCause given cause c.none_moved.result) (sym c.into.ensures)
    (set_fault_stops given c.in-Err.fault c.none_moved.result _ _ _ _ c.in-Err.ensures.fault passed unmoved)

pub returns-in-Err-clause-no_wire : goal.returns-in-Err-clause-no_wire
returns-in-Err-clause-no_wire g c = λ t is. no_wire c.in-Err.fault t (sym c.into.ensures ∙ is)

pub returns-in-Err-clause-passed : goal.returns-in-Err-clause-passed
returns-in-Err-clause-passed g c =
    let same : c.modules.result ≡ c.args.shape.modules = search rules in
    let sliced = c.as_slice-pairs.ensures.pairs in
    rw c.into.ensures (fault_passes c.in-Err.fault _ _ _ _ _ (rw (same, sliced) at c.in-Err.ensures.vain))
