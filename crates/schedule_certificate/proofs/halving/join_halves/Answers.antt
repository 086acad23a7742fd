use Rattle.std.proofs.Common.{arith}
use Rattle.schedule_certificate.proofs.Parts.{apart, colours_few, joined_coloured, has_room, put_back_coloured, put_back_steps}
use Rattle.schedule_certificate.proofs.halving.join_halves.Goals as goal

pub join_in_steps-requires-clause-apart : goal.join_in_steps-requires-clause-apart
join_in_steps-requires-clause-apart c =
    let h = c.requires.2 in
    apart c.requires.0 c.requires.1 h.front h.back c.args.degree c.args.left c.args.right h.is_part h.is_degree h.high h.halves h.front_coloured h.back_coloured

pub returns-then-colours-degree-clause-coloured : goal.returns-then-colours-degree-clause-coloured
returns-then-colours-degree-clause-coloured c batch whole h =
    let j = c.in_ok-joined.ensures.joined in
    joined_coloured batch whole h.front h.back c.args.degree c.args.left c.args.right h.is_part h.is_degree h.high h.halves h.front_coloured h.back_coloured
    c.in_ok-joined.joined j.batch j.colours j.classes (omega (arith, j.inserted)) (omega arith)

pub put_back-requires : goal.put_back-requires
put_back-requires c =
    let h = c.requires.2 in
    let j = c.in_ok-joined.ensures.joined in
    rw c.deref.ensures.value (has_room c.requires.0 c.requires.1 h.front h.back c.args.degree c.args.left c.args.right h.is_part h.is_degree h.high h.halves
    h.front_coloured h.back_coloured
    c.in_ok-joined.joined j.batch j.colours j.classes (omega (arith, j.inserted)) c.in_ok-table.table c.in_ok-table.class.items (omega arith)
    c.in_ok-table.ensures.taken)

pub returns-clause-coloured : goal.returns-clause-coloured
returns-clause-coloured c batch whole h =
    let j = c.in_ok-joined.ensures.joined in
    let p = rw c.deref.ensures.value at c.put_back.ensures in
    put_back_coloured batch whole h.front h.back c.args.degree c.args.left c.args.right h.is_part h.is_degree h.high h.halves h.front_coloured h.back_coloured
    c.in_ok-joined.joined j.batch j.colours j.classes (omega (arith, j.inserted)) c.in_ok-table.table c.in_ok-table.class.items (omega arith)
    c.in_ok-table.ensures.taken c.put_back.new.table p.batch p.colours p.placed p.inserted

pub returns-in_err-joined-clause-cost : goal.returns-in_err-joined-clause-cost
returns-in_err-joined-clause-cost c batch whole h =
    omega (
      arith,
      c.join_in_steps.ensures.cost,
      colours_few batch whole h.front h.back c.args.degree c.args.left c.args.right h.is_part h.is_degree h.high
          h.halves h.front_coloured h.back_coloured,
    )

pub returns-then-colours-degree-clause-cost : goal.returns-then-colours-degree-clause-cost
returns-then-colours-degree-clause-cost c batch whole h =
    omega (
      arith,
      c.join_in_steps.ensures.cost,
      colours_few batch whole h.front h.back c.args.degree c.args.left c.args.right h.is_part h.is_degree h.high
          h.halves h.front_coloured h.back_coloured,
    )

pub returns-in_err-table-clause-cost : goal.returns-in_err-table-clause-cost
returns-in_err-table-clause-cost c batch whole h = omega (
  arith,
  c.join_in_steps.ensures.cost,
  c.take_back_in_steps.ensures.cost,
  c.in_ok-joined.ensures.joined.colours,
  colours_few batch whole h.front h.back c.args.degree c.args.left c.args.right h.is_part h.is_degree h.high h.halves
      h.front_coloured h.back_coloured,
)

pub returns-clause-cost : goal.returns-clause-cost
returns-clause-cost c batch whole h =
    let j = c.in_ok-joined.ensures.joined in
    let p = rw c.deref.ensures.value at c.put_back.ensures in
    put_back_steps batch whole h.front h.back c.args.degree c.args.left c.args.right h.is_part h.is_degree h.high h.halves h.front_coloured h.back_coloured
    c.in_ok-joined.joined j.batch j.colours j.classes (omega (arith, j.inserted)) c.in_ok-table.table c.in_ok-table.class.items (omega arith)
    c.in_ok-table.ensures.taken _ _ _ _ c.join_in_steps.ensures.cost c.take_back_in_steps.ensures.cost p.cost
