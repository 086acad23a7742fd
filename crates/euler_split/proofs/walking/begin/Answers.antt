use Rattle.std.proofs.Common.{◌≡◌, List, Option, None, Some, Bool, true, refl, sym, subst, IsSome, set, length-set, get_or-set_same, arith}
use Rattle.link_graph.specs.declared.link.End.TheVariants.{Three}
use Rattle.euler_split.specs.Walks.{half_at, Keeps}
use Rattle.euler_split.proofs.Turns.{first_walk, second_walk, one_more, walk_keeps, keeps_then, none_of}
use Rattle.euler_split.proofs.walking.begin.Goals as goal

pub walk-requires-clause-begun : goal.walk-requires-clause-begun
walk-requires-clause-begun c =
    first_walk c.args.zero.now c.args.three.now c.args.halves.now c.args.start c.args.start c.requires.so_far c.requires.start_in
    (none_of _ (sym c.if-is_some.ensures))

pub walk-requires-2-clause-begun : goal.walk-requires-2-clause-begun
walk-requires-2-clause-begun c =
    second_walk c.args.zero.now c.args.three.now c.walk.new.halves c.args.start c.walk.ensures.closed
    (c.walk.ensures.keeps.kept c.args.start true (get_or-set_same c.args.halves.now c.args.start _ None c.requires.start_in))

pub returns : goal.returns
returns c =
    let h = c.args.halves.now in
    let begun : List (Option Bool) = set h c.args.start (Some true) in
    let out : half_at h c.args.start ≡ None = none_of _ (sym c.if-is_some.ensures) in
    let first : Keeps h begun = walk_keeps c.args.zero.now c.args.three.now c.requires.zero_pairs c.requires.three_pairs c.args.start Three h c.args.start true
    out in
    let both : Keeps begun c.walk-2.new.halves = keeps_then begun c.walk.new.halves c.walk-2.new.halves c.walk.ensures.keeps c.walk-2.ensures.keeps in
    let start : half_at c.walk-2.new.halves c.args.start ≡ Some true =
    both.kept c.args.start true (get_or-set_same h c.args.start _ None c.requires.start_in) in
    one_more c.args.zero.now c.args.three.now h c.walk-2.new.halves c.args.start c.requires.so_far (keeps_then h begun c.walk-2.new.halves first both)
    (subst IsSome (sym start) refl) (omega (arith, length-set h c.args.start (Some true))) c.walk-2.ensures.closed
