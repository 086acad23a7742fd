use Rattle.std.proofs.Common.{◌^◌, List, length, ap, ◌∙◌, sym, subst, arith}
use Rattle.std.proofs.lemmas.List.FromFn.{length-range_with_len}
use Rattle.batch.specs.declared.transfer.Transfer.{Transfer}
use Rattle.schedule_certificate.specs.Parts.{IsDegree}
use Rattle.schedule_certificate.proofs.Levels.{one_at, degree_fits}
use Rattle.schedule_certificate.proofs.Whole.{all_part, all_members, all_coloured, colours_fit}
use Rattle.schedule_certificate.proofs.planner.colour_all_alone.Goals as goal

pub returns-clause-coloured : goal.returns-clause-coloured
returns-clause-coloured c = all_coloured c.args.graph.now c.in_ok-table.table c.in_ok-coloured.coloured (rw (c.deref_mut.ensures.value, c.in_ok-all.ensures.all)
    at c.in_ok-table.ensures.coloured) c.in_ok-coloured.ensures.classes c.in_ok-coloured.ensures.inserted c.in_ok-coloured.ensures.count
    c.in_ok-coloured.ensures.schedule

pub colour_alone-requires-clause-part : goal.colour_alone-requires-clause-part
colour_alone-requires-clause-part c = (
  rw (c.deref_mut.ensures.value, c.in_ok-all.ensures.all) (all_part c.args.graph.now),
  rw (c.deref_mut.ensures.value, c.in_ok-all.ensures.all)
      (subst (λ (xs : List Transfer). IsDegree xs c.degree_of_all.result) (sym (all_members c.args.graph.now)) c.degree_of_all.ensures),
)

pub returns-in_err-table-clause-cost : goal.returns-in_err-table-clause-cost
returns-in_err-table-clause-cost c k low =
    let fits = degree_fits c.args.graph.now c.degree_of_all.result (2 ^ k) c.degree_of_all.ensures low in
    let took = rw (c.deref_mut.ensures.value, c.in_ok-all.ensures.all, length-range_with_len 0 (length c.args.graph.now))
    at (c.colour_alone.ensures.cost k fits) in
    omega (
      arith,
      c.all_transfers.ensures.cost,
      took,
      c.new.ensures.cost,
      c.len.ensures,
      ap length c.in_ok-all.ensures.all
          ∙ length-range_with_len 0 (length c.args.graph.now),
    )

pub returns-clause-cost : goal.returns-clause-cost
returns-clause-cost c k low =
    let fits = degree_fits c.args.graph.now c.degree_of_all.result (2 ^ k) c.degree_of_all.ensures low in
    let took = rw (c.deref_mut.ensures.value, c.in_ok-all.ensures.all, length-range_with_len 0 (length c.args.graph.now))
    at (c.colour_alone.ensures.cost k fits) in
    let table = colours_fit c.args.graph.now c.in_ok-table.table (2 ^ k) (one_at k) low (rw (c.deref_mut.ensures.value, c.in_ok-all.ensures.all)
    at c.in_ok-table.ensures.coloured) in
    omega (
      arith,
      c.all_transfers.ensures.cost,
      took,
      c.into_schedule_in_steps.ensures.cost,
      table.0,
      ap length table.1,
      c.new.ensures.cost,
      c.len.ensures,
      ap length c.in_ok-all.ensures.all ∙ length-range_with_len 0 (length c.args.graph.now),
    )

pub returns-in_err-coloured-clause-cost : goal.returns-in_err-coloured-clause-cost
returns-in_err-coloured-clause-cost c k low =
    let fits = degree_fits c.args.graph.now c.degree_of_all.result (2 ^ k) c.degree_of_all.ensures low in
    let took = rw (c.deref_mut.ensures.value, c.in_ok-all.ensures.all, length-range_with_len 0 (length c.args.graph.now))
    at (c.colour_alone.ensures.cost k fits) in
    let table = colours_fit c.args.graph.now c.in_ok-table.table (2 ^ k) (one_at k) low (rw (c.deref_mut.ensures.value, c.in_ok-all.ensures.all)
    at c.in_ok-table.ensures.coloured) in
    omega (
      arith,
      c.all_transfers.ensures.cost,
      took,
      c.into_schedule_in_steps.ensures.cost,
      table.0,
      ap length table.1,
      c.new.ensures.cost,
      c.len.ensures,
      ap length c.in_ok-all.ensures.all ∙ length-range_with_len 0 (length c.args.graph.now),
    )

pub returns-in_err-scratch-clause-cost : goal.returns-in_err-scratch-clause-cost
returns-in_err-scratch-clause-cost c k low = omega (
  arith,
  c.all_transfers.ensures.cost,
  c.new.ensures.cost,
  c.len.ensures,
  ap length c.in_ok-all.ensures.all
      ∙ length-range_with_len 0 (length c.args.graph.now),
)
