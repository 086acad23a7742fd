use Rattle.std.proofs.Common.{◌≡◌, ℕ, None, sym, ◌∙◌, subst, IsSome, length-set, get_or-set_same, arith}
use Rattle.std.proofs.lemmas.Option.{same_Some, none-some}
use Rattle.euler_split.specs.Walks.{half_at}
use Rattle.euler_split.proofs.Left.{left_over-set}
use Rattle.euler_split.proofs.Turns.{walk_on, walk_closed, walk_keeps, keeps_then, none_of}
use Rattle.euler_split.proofs.walking.walk.Goals as goal

pub returns-then-is_some-clause-closed : goal.returns-then-is_some-clause-closed
returns-then-is_some-clause-closed c =
    walk_closed c.args.zero.now c.args.three.now c.requires.zero_pairs c.requires.three_pairs c.args.start c.args.first c.places.halves c.places.place
    c.places.end c.places.invariant.walk (λ v p.
    let same : v ≡ c.in-Some.next = same_Some v c.in-Some.next (sym p ∙ sym c.in-Some.ensures.partner) in
    subst (λ (x : ℕ). IsSome (half_at c.places.halves x)) (sym same) (sym c.if-is_some.ensures))

pub returns-clause-closed : goal.returns-clause-closed
returns-clause-closed c =
    walk_closed c.args.zero.now c.args.three.now c.requires.zero_pairs c.requires.three_pairs c.args.start c.args.first c.places.halves c.places.place
    c.places.end c.places.invariant.walk (λ v p. absurd (none-some v (c.in_default.ensures.partner ∙ p)))

pub places-smaller : goal.places-smaller
places-smaller c =
    left_over-set c.places.halves c.in-Some.next _ (omega (arith, c.in-Some.ensures.within))
    (none_of (half_at c.places.halves c.in-Some.next) (sym c.if-is_some.ensures))

pub places-preserved : goal.places-preserved
places-preserved c =
    let i = c.places.invariant in
    let out : half_at c.places.halves c.in-Some.next ≡ None = none_of (half_at c.places.halves c.in-Some.next) (sym c.if-is_some.ensures) in
    let on = walk_on c.args.zero.now c.args.three.now c.requires.zero_pairs c.requires.three_pairs c.args.start c.args.first c.places.halves c.places.place
    c.in-Some.next c.places.end c.places.half i.walk (sym c.in-Some.ensures.partner) (omega (arith, c.in-Some.ensures.within)) out i.half_is in
    record {
      sized = length-set _ _ _ ∙ i.sized;
      place_in = rw length-set (omega (arith, c.in-Some.ensures.within));
      half_is = get_or-set_same c.places.halves c.in-Some.next _ None (omega (arith, c.in-Some.ensures.within));
      walk = rw c.other-end.ensures on;
      keeps = keeps_then _ _ _ i.keeps (walk_keeps c.args.zero.now c.args.three.now c.requires.zero_pairs c.requires.three_pairs c.args.start c.args.first
          c.places.halves c.in-Some.next _ out);
    }
