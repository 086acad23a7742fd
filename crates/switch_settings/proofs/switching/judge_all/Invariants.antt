use Rattle.std.proofs.Common.{ℕ, ◌<◌, get_or}
use Rattle.crossbar.specs.Chips.{switch_at}
use Rattle.crossbar.specs.declared.chip.Chip.TheVariants.{A}
use Rattle.switch_settings.specs.Answers.{Agrees}
use Rattle.switch_settings.proofs.switching.judge_all.Given as goal

abbrev pub invariant-loop-number : goal.invariant-loop-number
invariant-loop-number l = (before : ℕ) → before < l.number → Agrees (switch_at A l.wanted) before (get_or l.replies before 0)
