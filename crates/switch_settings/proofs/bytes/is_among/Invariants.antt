use Rattle.std.proofs.Common.{◌≡◌, drop}
use Rattle.std.specs.List.{list_any}
use Rattle.crossbar.specs.Pairs.{is_pair}
use Rattle.switch_settings.proofs.bytes.is_among.Given as goal

abbrev pub invariant-loop-other : goal.invariant-loop-other
invariant-loop-other l = list_any (is_pair l.pair) (drop l.other-index l.others) ≡ list_any (is_pair l.pair) l.others
