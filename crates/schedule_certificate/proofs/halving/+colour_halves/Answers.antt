use Rattle.std.proofs.Common.{◌≡◌, zero, suc, ◌+◌, ◌-◌, ◌*◌, ◌≤◌, ◌<◌, List, ℕ, length, arith, rules, mul-suc}
use Rattle.batch.specs.declared.limits.TheConstants.{MAX_MODULES}
use Rattle.link_graph.specs.Marks.{members}
use Rattle.euler_split.specs.Evenness.{CanBeHalved}
use Rattle.schedule_certificate.specs.Parts.{IsPart, IsDegreeKnown, AreHalves}
use Rattle.schedule_certificate.proofs.Levels.{one_at, leaf}
use Rattle.schedule_certificate.proofs.Parts.{same_degree, cut, both_steps, single_matching, left_part, right_part, both_less, both_lengths, known_halves}
use Rattle.schedule_certificate.proofs.halving.+colour_halves.Goals as goal

pub one_with_room-requires-clause-matching : goal.one_with_room-requires-clause-matching
one_with_room-requires-clause-matching t c = single_matching c.args.graph.now c.args.part.now c.degree_of-degree.result c.degree_of-degree.ensures.degree
    (omega arith)

pub colour_halves-requires : goal.colour_halves-requires
colour_halves-requires t c =
    let batch = c.args.graph.now in
    let whole : List ℕ = c.args.part.now in
    let front : List ℕ = c.split_at_mut-left.result.0.now in
    let back : List ℕ = c.split_at_mut-left.result.1.now in
    let d : ℕ = c.degree_of-degree.result in
    let high : 1 < d = omega arith in
    let halves : AreHalves batch whole front back = rw (c.split_at_mut-left.ensures.front, c.split_at_mut-left.ensures.back)
    c.halve_known-middle.ensures.halves in
    let less = both_less batch whole front back c.requires.part.0 halves d c.degree_of-degree.ensures.degree high in
    let front_less : length front < length whole = less.0 in
    let left : IsPart batch front = left_part batch whole front back c.requires.part.0 halves in
    let known = known_halves batch whole front back c.requires.part.0 halves d c.half_of-half.result c.degree_of-degree.ensures.degree c.half_of-half.ensures in
    let left_known : IsDegreeKnown (members batch front) c.half_of-half.result = known.0 in
    let room : c.halve_known-middle.new.scratch ≡ c.args.scratch.now = c.halve_known-middle.ensures.places in
    let less : c.saturating_sub-times.result ≡ c.args.times - 1 = omega (arith, c.saturating_sub-times.ensures) in
    let even : CanBeHalved batch front c.saturating_sub-times.result = rw (less, c.split_at_mut-left.ensures.front) c.halve_known-middle.ensures.left_times in
    let left_places : length front ≤ c.halve_known-middle.new.scratch = omega (arith, room, front_less, c.requires.places) in
    search rules

pub colour_halves-requires-2 : goal.colour_halves-requires-2
colour_halves-requires-2 t c =
    let batch = c.args.graph.now in
    let whole : List ℕ = c.args.part.now in
    let front : List ℕ = c.split_at_mut-left.result.0.now in
    let back : List ℕ = c.split_at_mut-left.result.1.now in
    let d : ℕ = c.degree_of-degree.result in
    let high : 1 < d = omega arith in
    let halves : AreHalves batch whole front back = rw (c.split_at_mut-left.ensures.front, c.split_at_mut-left.ensures.back)
    c.halve_known-middle.ensures.halves in
    let less = both_less batch whole front back c.requires.part.0 halves d c.degree_of-degree.ensures.degree high in
    let back_less : length back < length whole = less.1 in
    let right : IsPart batch back = right_part batch whole front back c.requires.part.0 halves in
    let known = known_halves batch whole front back c.requires.part.0 halves d c.half_of-half.result c.degree_of-degree.ensures.degree c.half_of-half.ensures in
    let right_known : IsDegreeKnown (members batch back) c.half_of-half.result = known.1 in
    let room : c.halve_known-middle.new.scratch ≡ c.args.scratch.now = c.halve_known-middle.ensures.places in
    let kept : c.colour_halves.new.scratch ≡ c.halve_known-middle.new.scratch = c.colour_halves.ensures.places in
    let less : c.saturating_sub-times.result ≡ c.args.times - 1 = omega (arith, c.saturating_sub-times.ensures) in
    let even : CanBeHalved batch back c.saturating_sub-times.result = rw (less, c.split_at_mut-left.ensures.back) c.halve_known-middle.ensures.right_times in
    let right_places : length back ≤ c.colour_halves.new.scratch = omega (arith, room, kept, back_less, c.requires.places) in
    search rules

pub join_halves-requires : goal.join_halves-requires
join_halves-requires t c =
    let halves = cut _ _ _ _ _ _ c.split_at_mut-left.ensures.front c.split_at_mut-left.ensures.back c.halve_known-middle.ensures.halves in (
      c.args.graph.now,
      c.args.part.now,
      record {
        front = _;
        back = _;
        is_part = c.requires.part.0;
        is_degree = c.degree_of-degree.ensures.degree;
        high =
            omega arith;
        halves = halves;
        front_coloured = c.in_ok-left.ensures.coloured;
        back_coloured = c.in_ok-right.ensures.coloured;
      },
    )

pub returns-clause-coloured : goal.returns-clause-coloured
returns-clause-coloured t c =
    let halves = cut _ _ _ _ _ _ c.split_at_mut-left.ensures.front c.split_at_mut-left.ensures.back c.halve_known-middle.ensures.halves in
    c.join_halves.ensures.coloured c.args.graph.now c.args.part.now
    (record {
      front = _;
      back = _;
      is_part = c.requires.part.0;
      is_degree = c.degree_of-degree.ensures.degree;
      high = omega arith;
      halves =
          halves;
      front_coloured = c.in_ok-left.ensures.coloured;
      back_coloured = c.in_ok-right.ensures.coloured;
    })

pub returns-then-degree-le1-clause-cost : goal.returns-then-degree-le1-clause-cost
returns-then-degree-le1-clause-cost t c k few = omega (
  arith,
  c.degree_of-degree.ensures.cost,
  c.one_with_room.ensures.cost,
  leaf (length c.args.part.now) k,
  one_at k,
)

pub returns-then-degree-part-clause-cost : goal.returns-then-degree-part-clause-cost
returns-then-degree-part-clause-cost t c k few = omega (
  arith,
  few,
  c.degree_of-degree.ensures.most,
  c.degree_of-degree.ensures.cost,
  c.each_with_room.ensures.cost,
  leaf (length c.args.part.now) k,
)

pub returns-then-degree-eq2-clause-cost : goal.returns-then-degree-eq2-clause-cost
returns-then-degree-eq2-clause-cost t c zero few = absurd (omega (arith, few, c.degree_of-degree.ensures.most))
returns-then-degree-eq2-clause-cost t c (suc k) few =
    let halves = cut _ _ _ _ _ _ c.split_at_mut-left.ensures.front c.split_at_mut-left.ensures.back c.halve_known-middle.ensures.halves in
    omega (
      arith,
      both_lengths _ _ _ _ c.requires.part.0 halves,
      c.degree_of-degree.ensures.cost,
      c.halve_known-middle.ensures.cost,
      c.colour_two.ensures.cost,
      leaf (length c.args.part.now) (suc k),
      one_at (suc k),
      mul-suc (length c.args.part.now) k,
    )

pub returns-in_err-left-clause-cost : goal.returns-in_err-left-clause-cost
returns-in_err-left-clause-cost t c k few =
    let halves = cut _ _ _ _ _ _ c.split_at_mut-left.ensures.front c.split_at_mut-left.ensures.back c.halve_known-middle.ensures.halves in
    both_steps _ _ _ _ c.requires.part.0 halves c.degree_of-degree.result k c.half_of-half.result (5 * length c.args.part.now + MAX_MODULES) _ _ (omega arith)
    c.half_of-half.ensures (omega (arith, few, c.degree_of-degree.ensures.most)) (omega arith)
    (λ j fits. omega (
      arith,
      both_lengths _ _ _ _ c.requires.part.0 halves,
      c.colour_halves.ensures.cost j fits,
      c.degree_of-degree.ensures.cost,
      c.halve_known-middle.ensures.cost,
    ))

pub returns-in_err-right-clause-cost : goal.returns-in_err-right-clause-cost
returns-in_err-right-clause-cost t c k few =
    let halves = cut _ _ _ _ _ _ c.split_at_mut-left.ensures.front c.split_at_mut-left.ensures.back c.halve_known-middle.ensures.halves in
    both_steps _ _ _ _ c.requires.part.0 halves c.degree_of-degree.result k c.half_of-half.result (5 * length c.args.part.now + MAX_MODULES) _ _ (omega arith)
    c.half_of-half.ensures (omega (arith, few, c.degree_of-degree.ensures.most)) (omega arith)
    (λ j fits. omega (
      arith,
      both_lengths _ _ _ _ c.requires.part.0 halves,
      c.colour_halves.ensures.cost j fits,
      c.colour_halves-2.ensures.cost j fits,
      c.degree_of-degree.ensures.cost,
      c.halve_known-middle.ensures.cost,
    ))

pub returns-clause-cost : goal.returns-clause-cost
returns-clause-cost t c k few =
    let halves = cut _ _ _ _ _ _ c.split_at_mut-left.ensures.front c.split_at_mut-left.ensures.back c.halve_known-middle.ensures.halves in
    let joined = c.join_halves.ensures.cost c.args.graph.now c.args.part.now
    (record {
      front = _;
      back = _;
      is_part = c.requires.part.0;
      is_degree = c.degree_of-degree.ensures.degree;
      high = omega arith;
      halves =
          halves;
      front_coloured = c.in_ok-left.ensures.coloured;
      back_coloured = c.in_ok-right.ensures.coloured;
    }) in
    both_steps _ _ _ _ c.requires.part.0 halves c.degree_of-degree.result k c.half_of-half.result
    (30 * length c.args.part.now + 7 * MAX_MODULES * (c.degree_of-degree.result + 1) + 2 * MAX_MODULES) _ _ (omega arith) c.half_of-half.ensures
    (omega (arith, few, c.degree_of-degree.ensures.most)) (omega arith)
    (λ j fits. omega (
      arith,
      both_lengths _ _ _ _ c.requires.part.0 halves,
      joined,
      c.colour_halves.ensures.cost j fits,
      c.colour_halves-2.ensures.cost j fits,
      c.degree_of-degree.ensures.cost,
      c.halve_known-middle.ensures.cost,
    ))

pub returns-then-degree-eq2-clause-shared : goal.returns-then-degree-eq2-clause-shared
returns-then-degree-eq2-clause-shared t c one = absurd (omega (arith, c.if-degree-part.false, same_degree _ _ _ c.degree_of-degree.ensures.degree one))

pub returns-in_err-left-clause-shared : goal.returns-in_err-left-clause-shared
returns-in_err-left-clause-shared t c one = absurd (omega (arith, c.if-degree-part.false, same_degree _ _ _ c.degree_of-degree.ensures.degree one))

pub returns-in_err-right-clause-shared : goal.returns-in_err-right-clause-shared
returns-in_err-right-clause-shared t c one = absurd (omega (arith, c.if-degree-part.false, same_degree _ _ _ c.degree_of-degree.ensures.degree one))

pub returns-clause-shared : goal.returns-clause-shared
returns-clause-shared t c one = absurd (omega (arith, c.if-degree-part.false, same_degree _ _ _ c.degree_of-degree.ensures.degree one))
