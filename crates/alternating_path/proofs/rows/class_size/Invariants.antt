use Rattle.std.proofs.Common.{◌≡◌, ◌+◌, ◌≤◌, take, count_by, is_some}
use Rattle.alternating_path.proofs.rows.class_size.Given as goal

abbrev pub invariant-loop-holder : goal.invariant-loop-holder
invariant-loop-holder l = record {
  counted : l.size ≡ count_by is_some (take l.holder-index l.starts);
  cost : l.steps ≡ l.fn.steps + l.holder-index;
  few : l.size ≤ l.holder-index;
}
