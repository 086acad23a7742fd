use Rattle.std.proofs.Common.{◌<◌, ◌+◌, ◌*◌, List, ℕ, max, length, arith, rules}
use Rattle.batch.specs.declared.limits.TheConstants.{MAX_MODULES}
use Rattle.link_graph.specs.Marks.{members}
use Rattle.schedule_certificate.specs.Parts.{IsPart, IsDegreeKnown, AreHalves}
use Rattle.schedule_certificate.proofs.Levels.{one_at, leaf}
use Rattle.schedule_certificate.proofs.Parts.{same_degree, halves_of_split, cut, both_steps, single_matching, left_part, right_part, both_less, both_lengths, known_halves}
use Rattle.schedule_certificate.proofs.colouring.+halves.Goals as goal

pub colour_part-one_with_room-requires-clause-matching : goal.colour_part-one_with_room-requires-clause-matching
colour_part-one_with_room-requires-clause-matching g t c = single_matching c.args.graph.now c.args.part.now c.degree_of-degree.result
    c.degree_of-degree.ensures.degree (omega arith)

pub colour_part-colour_both-requires : goal.colour_part-colour_both-requires
colour_part-colour_both-requires g t c κs within =
    let batch = c.args.graph.now in
    let whole : List ℕ = c.args.part.now in
    let front : List ℕ = c.split_at_mut-left.result.0.now in
    let back : List ℕ = c.split_at_mut-left.result.1.now in
    let d : ℕ = c.degree_of-degree.result in
    let high : 1 < d = omega arith in
    let halves : AreHalves batch whole front back = rw (c.split_at_mut-left.ensures.front, c.split_at_mut-left.ensures.back)
    (halves_of_split _ _ _ _ c.split_in_place-middle.ensures.split) in
    let less = both_less batch whole front back c.requires.part.0 halves d c.degree_of-degree.ensures.degree high in
    let front_less : length front < length whole = less.0 in
    let back_less : length back < length whole = less.1 in
    let left : IsPart batch front = left_part batch whole front back c.requires.part.0 halves in
    let right : IsPart batch back = right_part batch whole front back c.requires.part.0 halves in
    let known = known_halves batch whole front back c.requires.part.0 halves d c.half_of-half.result c.degree_of-degree.ensures.degree c.half_of-half.ensures in
    let left_known : IsDegreeKnown (members batch front) c.half_of-half.result = known.0 in
    let right_known : IsDegreeKnown (members batch back) c.half_of-half.result = known.1 in
    let falls : 4 * max (length front) (length back) + 3 < 4 * length whole = omega arith in
    search rules

pub colour_part-join_halves-requires : goal.colour_part-join_halves-requires
colour_part-join_halves-requires g t c =
    let halves = cut _ _ _ _ _ _ c.split_at_mut-left.ensures.front c.split_at_mut-left.ensures.back (halves_of_split _ _ _ _ c.split_in_place-middle.ensures.split) in (
      c.args.graph.now,
      c.args.part.now,
      record {
        front = _;
        back = _;
        is_part = c.requires.part.0;
        is_degree = c.degree_of-degree.ensures.degree;
        high =
            omega arith;
        halves = halves;
        front_coloured = c.in_ok-left.ensures.left;
        back_coloured = c.in_ok-left.ensures.right;
      },
    )

pub colour_part-returns-clause-coloured : goal.colour_part-returns-clause-coloured
colour_part-returns-clause-coloured g t c =
    let halves = cut _ _ _ _ _ _ c.split_at_mut-left.ensures.front c.split_at_mut-left.ensures.back (halves_of_split _ _ _ _ c.split_in_place-middle.ensures.split) in
    c.join_halves.ensures.coloured c.args.graph.now c.args.part.now
    (record {
      front = _;
      back = _;
      is_part = c.requires.part.0;
      is_degree = c.degree_of-degree.ensures.degree;
      high = omega arith;
      halves =
          halves;
      front_coloured = c.in_ok-left.ensures.left;
      back_coloured = c.in_ok-left.ensures.right;
    })

pub colour_part-returns-then-degree-le1-clause-cost : goal.colour_part-returns-then-degree-le1-clause-cost
colour_part-returns-then-degree-le1-clause-cost g t c k few = omega (
  arith,
  c.degree_of-degree.ensures.cost,
  c.one_with_room.ensures.cost,
  leaf (length c.args.part.now) k,
  one_at k,
)

pub colour_part-returns-in_err-left-clause-cost : goal.colour_part-returns-in_err-left-clause-cost
colour_part-returns-in_err-left-clause-cost g t c k few =
    let halves = cut _ _ _ _ _ _ c.split_at_mut-left.ensures.front c.split_at_mut-left.ensures.back (halves_of_split _ _ _ _ c.split_in_place-middle.ensures.split) in
    both_steps _ _ _ _ c.requires.part.0 halves c.degree_of-degree.result k c.half_of-half.result (7 * length c.args.part.now + MAX_MODULES) c.args.steps.now
    c.colour_both.new.steps (omega arith) c.half_of-half.ensures (omega (arith, few, c.degree_of-degree.ensures.most)) (omega arith)
    (λ j fits. omega (
      arith,
      both_lengths _ _ _ _ c.requires.part.0 halves,
      c.colour_both.ensures.cost j fits,
      c.degree_of-degree.ensures.cost,
      c.split_in_place-middle.ensures.cost,
    ))

pub colour_part-returns-clause-cost : goal.colour_part-returns-clause-cost
colour_part-returns-clause-cost g t c k few =
    let halves = cut _ _ _ _ _ _ c.split_at_mut-left.ensures.front c.split_at_mut-left.ensures.back (halves_of_split _ _ _ _ c.split_in_place-middle.ensures.split) in
    let joined = c.join_halves.ensures.cost c.args.graph.now c.args.part.now
    (record {
      front = _;
      back = _;
      is_part = c.requires.part.0;
      is_degree = c.degree_of-degree.ensures.degree;
      high = omega arith;
      halves =
          halves;
      front_coloured = c.in_ok-left.ensures.left;
      back_coloured = c.in_ok-left.ensures.right;
    }) in
    both_steps _ _ _ _ c.requires.part.0 halves c.degree_of-degree.result k c.half_of-half.result
    (32 * length c.args.part.now + 7 * MAX_MODULES * (c.degree_of-degree.result + 1) + 2 * MAX_MODULES) c.args.steps.now c.join_halves.new.steps
    (omega arith) c.half_of-half.ensures (omega (arith, few, c.degree_of-degree.ensures.most)) (omega arith)
    (λ j fits. omega (
      arith,
      both_lengths _ _ _ _ c.requires.part.0 halves,
      joined,
      c.colour_both.ensures.cost j fits,
      c.degree_of-degree.ensures.cost,
      c.split_in_place-middle.ensures.cost,
    ))

pub colour_part-returns-then-degree-part-clause-cost : goal.colour_part-returns-then-degree-part-clause-cost
colour_part-returns-then-degree-part-clause-cost g t c k few = omega (
  arith,
  few,
  c.degree_of-degree.ensures.most,
  c.degree_of-degree.ensures.cost,
  c.each_with_room.ensures.cost,
  leaf (length c.args.part.now) k,
)

pub colour_part-returns-in_err-left-clause-shared : goal.colour_part-returns-in_err-left-clause-shared
colour_part-returns-in_err-left-clause-shared g t c one = absurd (omega (arith, c.if-degree-part.false, same_degree _ _ _ c.degree_of-degree.ensures.degree one))

pub colour_part-returns-clause-shared : goal.colour_part-returns-clause-shared
colour_part-returns-clause-shared g t c one = absurd (omega (arith, c.if-degree-part.false, same_degree _ _ _ c.degree_of-degree.ensures.degree one))
