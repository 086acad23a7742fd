use Rattle.std.proofs.Common.{◌≡◌, ◌<◌, ◌≤◌, get_or, arith, rules, bit_and}
use Rattle.steady_schedule.proofs.Matchings.{has_low}
use Rattle.steady_schedule.proofs.Searching.{both_bits, no_bit, x_less, goes_elsewhere, stays, one_stuck, found_here}
use Rattle.steady_schedule.proofs.matching.+augment.Goals as goal

pub augment-without_module-requires-clause-has : goal.augment-without_module-requires-clause-has
augment-without_module-requires-clause-has t c =
    (both_bits (get_or c.args.held.now.near c.args.x 0) c.search.unseen c.first_of-y.result c.first_of-y.ensures.has).1

pub augment-make_room-requires : goal.augment-make_room-requires
augment-make_room-requires t c =
    let less : c.without_module.result < c.search.unseen = c.without_module.ensures.less in
    let few : c.search.unseen ≤ c.args.unseen.now = c.search.invariant.fewer in
    (first_of (omega arith, search rules), (c.first_of-y.ensures.within, (c.without_module.ensures.out, c.search.invariant.matched)))

pub augment-returns-then-make_room-clause-found : goal.augment-returns-then-make_room-clause-found
augment-returns-then-make_room-clause-found t c = λ _.
    let bits = both_bits (get_or c.args.held.now.near c.args.x 0) c.search.unseen c.first_of-y.result c.first_of-y.ensures.has in
    rw (c.join.ensures.of, c.join.ensures.back)
    (found_here c.args.held.now.near c.args.held.now.needed c.args.unseen.now c.search.unseen c.args.x c.first_of-y.result c.args.of.now c.search.of
    c.args.back.now c.search.back c.search.invariant.vain bits.0 bits.1 c.without_module.result c.without_module.ensures.out c.without_module.ensures.others
    c.make_room.new.of c.make_room.new.back c.make_room.ensures.matched c.requires.x_in c.first_of-y.ensures.within c.requires.free
    (c.make_room.ensures.freed c.if-make_room.true))

pub augment-returns-then-make_room-clause-fewer : goal.augment-returns-then-make_room-clause-fewer
augment-returns-then-make_room-clause-fewer t c = omega (arith, c.make_room.ensures.fewer, c.without_module.ensures.less, c.search.invariant.fewer)

pub augment-search-smaller : goal.augment-search-smaller
augment-search-smaller t c = omega (arith, c.make_room.ensures.fewer, c.without_module.ensures.less)

pub augment-search-preserved : goal.augment-search-preserved
augment-search-preserved t c =
    let bits = both_bits (get_or c.args.held.now.near c.args.x 0) c.search.unseen c.first_of-y.result c.first_of-y.ensures.has in
    record {
      matched = c.make_room.ensures.matched;
      vain = one_stuck c.args.held.now.near c.args.held.now.needed c.args.unseen.now c.search.unseen c.args.x c.first_of-y.result c.args.of.now c.search.of
          c.args.back.now c.search.back c.search.invariant.vain bits.0 bits.1 c.without_module.result c.without_module.ensures.out
          c.without_module.ensures.others c.make_room.new.unseen c.make_room.new.of c.make_room.new.back (c.make_room.ensures.vain c.if-make_room.false)
          (c.make_room.ensures.stuck c.if-make_room.false);
      fewer = omega (arith, c.make_room.ensures.fewer, c.without_module.ensures.less, c.search.invariant.fewer);
    }

pub augment-returns-clause-seen : goal.augment-returns-clause-seen
augment-returns-clause-seen t c = λ _ y n.
    let none : bit_and (get_or c.args.held.now.near c.args.x 0) c.search.unseen ≡ 0 = omega (arith, c.search-test.false) in
    no_bit (get_or c.args.held.now.near c.args.x 0) c.search.unseen y none n

pub make_room-has_module-requires : goal.make_room-has_module-requires
make_room-has_module-requires t c = has_low c.args.of.now c.in-Some.x c.args.y c.requires.matched.sized
    ((c.requires.matched.each_other c.in-Some.x c.args.y).1 c.in-Some.is)

pub make_room-augment-requires : goal.make_room-augment-requires
make_room-augment-requires t c =
    let low = has_low c.args.of.now c.in-Some.x c.args.y c.requires.matched.sized ((c.requires.matched.each_other c.in-Some.x c.args.y).1 c.in-Some.is) in
    let free = x_less c.args.held.now.near c.args.held.now.needed c.args.unseen.now c.args.y c.args.of.now c.args.back.now c.requires.matched c.in-Some.x
    c.in-Some.is in
    (first_of (omega arith, search rules), (low, (rw c.part.ensures.of free, c.part.ensures.matched)))

pub make_room-returns-then-augment-clause-freed : goal.make_room-returns-then-augment-clause-freed
make_room-returns-then-augment-clause-freed t c = λ _.
    goes_elsewhere c.args.held.now.near c.args.held.now.needed c.args.unseen.now c.args.y c.args.of.now c.args.back.now c.requires.matched c.in-Some.x
    c.in-Some.is c.augment.new.of c.augment.new.back c.requires.y_seen (rw (c.part.ensures.of, c.part.ensures.back)
    at (c.augment.ensures.found c.if-augment.true))

pub make_room-join-requires-clause-x_in : goal.make_room-join-requires-clause-x_in
make_room-join-requires-clause-x_in t c = has_low c.args.of.now c.in-Some.x c.args.y c.requires.matched.sized
    ((c.requires.matched.each_other c.in-Some.x c.args.y).1 c.in-Some.is)

pub make_room-returns-clause-vain : goal.make_room-returns-clause-vain
make_room-returns-clause-vain t c = λ _.
    rw (c.join.ensures.of, c.join.ensures.back)
    (stays c.args.held.now.near c.args.held.now.needed c.args.unseen.now c.args.y c.args.of.now c.args.back.now c.requires.matched c.in-Some.x c.in-Some.is
    c.augment.new.of c.augment.new.back c.augment.new.unseen c.augment.ensures.matched (rw (c.part.ensures.of, c.part.ensures.back)
    at (c.augment.ensures.vain c.if-augment.false)))
