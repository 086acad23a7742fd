use Rattle.std.proofs.Common.{◌≡◌, take, ap, arith}
use Rattle.std.proofs.lemmas.List.{take_all}
use Rattle.link_graph.specs.declared.link.End.TheVariants.{Zero, Three}
use Rattle.alternating_path.specs.Colouring.{Colouring}
use Rattle.alternating_path.proofs.MoreClasses.{none_given, class_out, class_free, class_next}
use Rattle.alternating_path.proofs.table.Table.with_class.Goals as goal

pub loop-t-init : goal.loop-t-init
loop-t-init c = (
  rw c.in_ok-table.ensures.more (none_given c.args.self c.args.members.now),
  c.in_ok-table.ensures.proper,
  omega (arith, c.with_free_colour.ensures.cost),
)

pub put_in-requires-clause-out : goal.put_in-requires-clause-out
put_in-requires-clause-out c = class_out c.args.self c.args.members.now c.loop-t.t-index c.loop-t.table c.requires.known c.requires.matching c.requires.out
    c.loop-t-test.true c.in_ok-table.ensures.before c.loop-t.invariant.1 c.loop-t.invariant.0

pub put_in-requires-clause-zero_free : goal.put_in-requires-clause-zero_free
put_in-requires-clause-zero_free c = rw (ap (λ (s : Colouring). s.colours) c.self.view_is)
    (class_free c.args.self c.args.members.now c.loop-t.t-index c.loop-t.table c.requires.known c.requires.matching c.requires.out c.loop-t-test.true
    c.in_ok-table.ensures.before c.loop-t.invariant.1 c.loop-t.invariant.0 Zero)

pub put_in-requires-clause-three_free : goal.put_in-requires-clause-three_free
put_in-requires-clause-three_free c = rw (ap (λ (s : Colouring). s.colours) c.self.view_is)
    (class_free c.args.self c.args.members.now c.loop-t.t-index c.loop-t.table c.requires.known c.requires.matching c.requires.out c.loop-t-test.true
    c.in_ok-table.ensures.before c.loop-t.invariant.1 c.loop-t.invariant.0 Three)

pub loop-t-preserved : goal.loop-t-preserved
loop-t-preserved c = (
  class_next c.args.self c.args.members.now c.loop-t.t-index c.loop-t.table c.requires.known c.requires.matching c.requires.out
      c.loop-t-test.true c.in_ok-table.ensures.before c.loop-t.invariant.1 c.loop-t.invariant.0 c.put_in.new.self
      (rw (ap (λ (s : Colouring). s.colours) c.self.view_is) at c.put_in.ensures.written),
  c.put_in.ensures.proper,
  omega (arith, c.loop-t.invariant.2, c.tick.ensures),
)

pub returns-clause-more : goal.returns-clause-more
returns-clause-more c =
    let all : take c.loop-t.t-index c.args.members.now ≡ c.args.members.now = take_all _ _ (omega arith) in
    rw all at c.loop-t.invariant.0
