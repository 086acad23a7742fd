use Rattle.record_replay.proofs.Entries.{Going}
use Rattle.record_replay.proofs.replaying.replay.Given as goal

abbrev pub invariant-loop-entries : goal.invariant-loop-entries
invariant-loop-entries g l = Going l.fn.limit l.fn.text l.fn.rack l.entries l.book l.rest
