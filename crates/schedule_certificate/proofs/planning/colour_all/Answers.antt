use Rattle.std.proofs.Common.{◌+◌, ◌^◌, List, length, ap, sym, subst, arith}
use Rattle.std.proofs.lemmas.List.FromFn.{length-range_with_len}
use Rattle.link_graph.proofs.Users.{uses_few}
use Rattle.batch.specs.declared.transfer.Transfer.{Transfer}
use Rattle.schedule_certificate.specs.Parts.{IsDegree}
use Rattle.schedule_certificate.proofs.Levels.{one_at, degree_fits}
use Rattle.schedule_certificate.proofs.Whole.{all_part, all_members, all_coloured, colours_fit, all_share}
use Rattle.schedule_certificate.proofs.planning.colour_all.Goals as goal

pub colour_copy-requires-clause-part : goal.colour_copy-requires-clause-part
colour_copy-requires-clause-part g c κs within = (
  rw (c.deref.ensures.value, c.in_ok-all.ensures.all) (all_part c.args.graph.now),
  rw (c.deref.ensures.value, c.in_ok-all.ensures.all) (subst (λ (xs : List Transfer). IsDegree xs c.degree_of_all.result) (sym (all_members c.args.graph.now))
      c.degree_of_all.ensures),
)

pub returns-clause-coloured : goal.returns-clause-coloured
returns-clause-coloured g c = all_coloured c.args.graph.now c.in_ok-table.table c.in_ok-coloured.coloured (rw (c.deref.ensures.value, c.in_ok-all.ensures.all)
    at c.in_ok-table.ensures.coloured) c.in_ok-coloured.ensures.classes c.in_ok-coloured.ensures.inserted c.in_ok-coloured.ensures.count
    c.in_ok-coloured.ensures.schedule

pub returns-in_err-table-clause-cost : goal.returns-in_err-table-clause-cost
returns-in_err-table-clause-cost g c k low =
    let fits = degree_fits c.args.graph.now c.degree_of_all.result (2 ^ k) c.degree_of_all.ensures low in
    let took = rw (c.deref.ensures.value, c.in_ok-all.ensures.all, length-range_with_len 0 (length c.args.graph.now)) at (c.colour_copy.ensures.cost k fits) in
    omega (arith, c.all_transfers.ensures.cost, took)

pub returns-clause-cost : goal.returns-clause-cost
returns-clause-cost g c k low =
    let fits = degree_fits c.args.graph.now c.degree_of_all.result (2 ^ k) c.degree_of_all.ensures low in
    let took = rw (c.deref.ensures.value, c.in_ok-all.ensures.all, length-range_with_len 0 (length c.args.graph.now)) at (c.colour_copy.ensures.cost k fits) in
    let table = colours_fit c.args.graph.now c.in_ok-table.table (2 ^ k) (one_at k) low (rw (c.deref.ensures.value, c.in_ok-all.ensures.all)
    at c.in_ok-table.ensures.coloured) in
    omega (arith, c.all_transfers.ensures.cost, took, c.into_schedule_in_steps.ensures.cost, table.0, ap length table.1)

pub returns-in_err-coloured-clause-cost : goal.returns-in_err-coloured-clause-cost
returns-in_err-coloured-clause-cost g c k low =
    let fits = degree_fits c.args.graph.now c.degree_of_all.result (2 ^ k) c.degree_of_all.ensures low in
    let took = rw (c.deref.ensures.value, c.in_ok-all.ensures.all, length-range_with_len 0 (length c.args.graph.now)) at (c.colour_copy.ensures.cost k fits) in
    let table = colours_fit c.args.graph.now c.in_ok-table.table (2 ^ k) (one_at k) low (rw (c.deref.ensures.value, c.in_ok-all.ensures.all)
    at c.in_ok-table.ensures.coloured) in
    omega (arith, c.all_transfers.ensures.cost, took, c.into_schedule_in_steps.ensures.cost, table.0, ap length table.1)

pub returns-in_err-table-clause-shared : goal.returns-in_err-table-clause-shared
returns-in_err-table-clause-shared g c one =
    let took = rw (c.deref.ensures.value, c.in_ok-all.ensures.all, length-range_with_len 0 (length c.args.graph.now))
    at (c.colour_copy.ensures.shared (rw (c.deref.ensures.value, c.in_ok-all.ensures.all) (all_share c.args.graph.now one))) in
    omega (arith, c.all_transfers.ensures.cost, took)

pub returns-clause-shared : goal.returns-clause-shared
returns-clause-shared g c one =
    let took = rw (c.deref.ensures.value, c.in_ok-all.ensures.all, length-range_with_len 0 (length c.args.graph.now))
    at (c.colour_copy.ensures.shared (rw (c.deref.ensures.value, c.in_ok-all.ensures.all) (all_share c.args.graph.now one))) in
    let table = colours_fit c.args.graph.now c.in_ok-table.table (length c.args.graph.now + 1) (omega arith)
    (λ link. omega (arith, uses_few c.args.graph.now link)) (rw (c.deref.ensures.value, c.in_ok-all.ensures.all) at c.in_ok-table.ensures.coloured) in
    omega (arith, c.all_transfers.ensures.cost, took, c.into_schedule_in_steps.ensures.cost, table.0, ap length table.1)

pub returns-in_err-coloured-clause-shared : goal.returns-in_err-coloured-clause-shared
returns-in_err-coloured-clause-shared g c one =
    let took = rw (c.deref.ensures.value, c.in_ok-all.ensures.all, length-range_with_len 0 (length c.args.graph.now))
    at (c.colour_copy.ensures.shared (rw (c.deref.ensures.value, c.in_ok-all.ensures.all) (all_share c.args.graph.now one))) in
    let table = colours_fit c.args.graph.now c.in_ok-table.table (length c.args.graph.now + 1) (omega arith)
    (λ link. omega (arith, uses_few c.args.graph.now link)) (rw (c.deref.ensures.value, c.in_ok-all.ensures.all) at c.in_ok-table.ensures.coloured) in
    omega (arith, c.all_transfers.ensures.cost, took, c.into_schedule_in_steps.ensures.cost, table.0, ap length table.1)
