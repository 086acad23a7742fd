use Rattle.std.proofs.Common.{rules, ◌≡◌, ◌+◌, ◌<◌, nat_lt, true, length, nat_eq, None, refl, ap, ◌∙◌, arith}
use Rattle.std.specs.Map.{lookup}
use Rattle.std.specs.Option.{unwrap_or}
use Rattle.std.proofs.lemmas.Bool.Decides.{nat_tests}
use Rattle.batch_book.specs.BatchStore.{no_store}
use Rattle.batch_book.specs.declared.limits.TheConstants.{MAX_BATCHES}
use Rattle.batch_book.proofs.Entries.{on_ok, goes_last}
use Rattle.batch_book.proofs.batch_store.BatchStore.submit.Goals as goal

pub returns-clause-step : goal.returns-clause-step
returns-clause-step c =
    let id = c.self.inside.given + 1 in
    let es = c.self.inside.batches.entries in
    let fresh : lookup (nat_eq id) c.reserve.new.self.entries ≡ None = rw c.in_ok-reserve.ensures.entries (c.self.invariant.free id (omega arith)) in
    let last = on_ok _ _ _ c.unwrap.ensures c.insert.ensures.entries ∙ goes_last c.reserve.new.self es id _ c.in_ok-reserve.ensures.entries fresh in
    let few : length es < MAX_BATCHES = omega arith in
    let room : nat_lt (length es) MAX_BATCHES ≡ true = grind (arith, nat_tests) in
    rw (← c.self.view_is) (
      rw room refl,
      rw room (ap (λ l. record { batches = l; given = id; runs = c.self.inside.runs; store = unwrap_or c.self.inside.rack no_store }) last),
    )

pub returns-then-len-ge-MAX_BATCHES-clause-step : goal.returns-then-len-ge-MAX_BATCHES-clause-step
returns-then-len-ge-MAX_BATCHES-clause-step c = search rules

pub invariant_of-self-2 : goal.invariant_of-self-2
invariant_of-self-2 c = search rules
