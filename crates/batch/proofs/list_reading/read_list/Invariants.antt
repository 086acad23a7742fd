use Rattle.std.proofs.Common.{◌≡◌, length}
use Rattle.batch.specs.ListFaults.{IsGoodUpTo}
use Rattle.batch.proofs.list_reading.read_list.Given as goal

abbrev pub invariant-loop-t : goal.invariant-loop-t
invariant-loop-t g l = record {
  counted : length l.things.items ≡ l.t;
  good : IsGoodUpTo g.T.Listed.form l.shape l.text l.count l.things.items l.rest;
}
