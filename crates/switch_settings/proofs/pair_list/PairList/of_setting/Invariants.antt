use Rattle.std.proofs.Common.{◌≡◌, ◌≤◌, length, take}
use Rattle.switch_settings.specs.Tables.{table_pairs}
use Rattle.switch_settings.proofs.pair_list.PairList.of_setting.Given as goal

abbrev pub invariant-loop-initiator : goal.invariant-loop-initiator
invariant-loop-initiator l = record {
  room : length l.pairs ≤ l.initiator;
  built : l.pairs ≡ table_pairs 0 (take l.initiator l.responders);
}
