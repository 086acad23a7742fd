use Rattle.std.proofs.Common.{refl, ap, arith}
use Rattle.std.proofs.lemmas.Grind.{common_steps}
use Rattle.link_graph.specs.Links.{other_end}
use Rattle.alternating_path.specs.Colouring.{Colouring}
use Rattle.alternating_path.proofs.AlternatingPath.{path_begins, path_ends}
use Rattle.link_graph.specs.declared.link.End.TheVariants.{Zero, Three}
use Rattle.alternating_path.proofs.Path.{still_few}
use Rattle.alternating_path.proofs.Step.{free_next, step}
use Rattle.alternating_path.proofs.table.Table.place.Goals as goal

pub take_out-requires-clause-known : goal.take_out-requires-clause-known
take_out-requires-clause-known c = grind (arith, common_steps)

pub put_in-requires-clause-zero_free : goal.put_in-requires-clause-zero_free
put_in-requires-clause-zero_free c = free_next c.args.self.now c.path.self c.take_out.new.self c.args.t c.path.hand c.in-Some.next c.path.colour c.path.other
    c.path.end Zero c.path.invariant.on_path c.path.invariant.rest c.in-Some.ensures c.take_out.ensures.written

pub put_in-requires-clause-three_free : goal.put_in-requires-clause-three_free
put_in-requires-clause-three_free c = free_next c.args.self.now c.path.self c.take_out.new.self c.args.t c.path.hand c.in-Some.next c.path.colour c.path.other
    c.path.end Three c.path.invariant.on_path c.path.invariant.rest c.in-Some.ensures c.take_out.ensures.written

pub path-smaller : goal.path-smaller
path-smaller c =
    let i = c.path.invariant in
    let k = step c.args.self.now c.path.self c.take_out.new.self c.put_in.new.self c.args.t c.path.hand c.in-Some.next c.path.colour c.path.other c.path.end
    c.other-end.result c.requires.proper c.requires.out i.on_path i.rest c.in-Some.ensures c.take_out.ensures.written c.put_in.ensures.written
    c.put_in.ensures.proper c.other-end.ensures in
    omega (arith, k.one)

pub path-preserved : goal.path-preserved
path-preserved c =
    let i = c.path.invariant in
    let k = step c.args.self.now c.path.self c.take_out.new.self c.put_in.new.self c.args.t c.path.hand c.in-Some.next c.path.colour c.path.other c.path.end
    c.other-end.result c.requires.proper c.requires.out i.on_path i.rest c.in-Some.ensures c.take_out.ensures.written c.put_in.ensures.written
    c.put_in.ensures.proper c.other-end.ensures in
    record { on_path = k.on_path; rest = k.rest; colour_in = i.other_in; other_in = i.colour_in; few = omega (arith, i.few, k.one, c.tick.ensures) }

pub path-init : goal.path-init
path-init c = record {
  on_path = path_begins c.args.self.now.batch c.args.self.now.colours c.args.self.now.colour c.args.t c.requires.proper c.requires.out c.args.first
      c.args.second Three Zero c.requires.known c.requires.first_free c.requires.second_free;
  rest = refl;
  colour_in = c.requires.first_in;
  other_in = c.requires.second_in;
  few = omega (arith, still_few c.args.first c.args.second c.args.self.now.colour c.args.self.now.colour, c.is_narrow.ensures, c.is_narrow-2.ensures);
}

pub returns-clause-placed : goal.returns-clause-placed
returns-clause-placed c =
    let i = c.path.invariant in
    let colour = ap (λ (s : Colouring). s.colour) c.put_in-2.ensures.written in
    rw colour (path_ends c.args.self.now.batch c.args.self.now.colours c.args.self.now.colour c.args.t c.requires.proper c.requires.out c.path.self.colour
    c.path.hand c.path.end (other_end c.path.end) c.path.colour c.path.other i.on_path)
