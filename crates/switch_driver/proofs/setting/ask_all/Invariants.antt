use Rattle.std.proofs.Common.{◌≡◌, ◌<◌, ℕ, List, length, get_or, IsTrue}
use Rattle.crossbar.specs.Chips.{switch_at}
use Rattle.crossbar.specs.Traffic.{Passes, conversed}
use Rattle.crossbar.specs.declared.chip.Chip.TheVariants.{A}
use Rattle.switch_settings.specs.Answers.{Agrees}
use Rattle.switch_settings.specs.Asking.{first_enquiries}
use Rattle.switch_driver.proofs.setting.ask_all.Given as goal

abbrev pub invariant-loop-number : goal.invariant-loop-number
invariant-loop-number g l = record {
  replies : List ℕ;
  many : length replies ≡ l.number;
  agree : (before : ℕ) → before < l.number → Agrees (switch_at A l.wanted) before (get_or replies before 0);
  passed : Passes (g.P.ConfigPort.passed l.initial.port) (g.P.ConfigPort.passed l.port) (conversed l.chip (first_enquiries l.number) replies);
  unmoved : IsTrue (g.P.ConfigPort.honest l.initial.port) → g.P.ConfigPort.switches l.port ≡ g.P.ConfigPort.switches l.initial.port;
  unfailed : g.P.ConfigPort.failures l.port ≡ g.P.ConfigPort.failures l.initial.port;
  honesty : g.P.ConfigPort.honest l.port ≡ g.P.ConfigPort.honest l.initial.port;
}
