use Rattle.std.proofs.Common.{◌≡◌, ◌<◌, Some, None, is_some, length, get_or, sym, ◌∙◌, arith, length-set}
use Rattle.std.proofs.lemmas.Grind.{common_steps}
use Rattle.std.proofs.lemmas.List.{get_or_read, length-map}
use Rattle.std.proofs.lemmas.List.Sums.{count_by-le-length}
use Rattle.link_graph.specs.Schedules.{lists_of}
use Rattle.alternating_path.specs.Colouring.{colour_at}
use Rattle.alternating_path.proofs.FirstSeen.{some_is, passed_over, goes_into, goes_alone, all_classes}
use Rattle.alternating_path.proofs.Writes.{some_within}
use Rattle.alternating_path.proofs.classes.classes.Goals as goal

pub loop-t-init : goal.loop-t-init
loop-t-init c = grind (arith, common_steps)

pub loop-t-preserved-in_default : goal.loop-t-preserved-in_default
loop-t-preserved-in_default c = record {
  partial = passed_over _ _ _ _ c.loop-t.invariant.partial c.in_default.is;
  cost =
      omega (arith, c.loop-t.invariant.cost, c.tick.ensures);
  sized = c.loop-t.invariant.sized;
}

pub push_into-requires : goal.push_into-requires
push_into-requires c =
    let colour : colour_at c.args.colour.now c.loop-t.t ≡ Some c.in-Some.c = c.in-Some.is in
    let in_range : c.in-Some.c < c.args.colours = c.requires c.loop-t.t c.in-Some.c colour in
    let within : c.in-Some.c < length c.loop-t.list_of_colour.items = omega (arith, c.loop-t.invariant.sized) in
    c.loop-t.invariant.partial.known c.in-Some.c _ (sym (get_or_read c.loop-t.list_of_colour.items c.in-Some.c c.index.result.now within c.index.ensures None)
    ∙ c.in-Some-index.is)

pub loop-t-preserved-in-Some-index : goal.loop-t-preserved-in-Some-index
loop-t-preserved-in-Some-index c =
    let colour : colour_at c.args.colour.now c.loop-t.t ≡ Some c.in-Some.c = c.in-Some.is in
    let in_range : c.in-Some.c < c.args.colours = c.requires c.loop-t.t c.in-Some.c colour in
    let within : c.in-Some.c < length c.loop-t.list_of_colour.items = omega (arith, c.loop-t.invariant.sized) in
    let list : get_or c.loop-t.list_of_colour.items c.in-Some.c None ≡ Some c.in-Some-index.k =
    sym (get_or_read c.loop-t.list_of_colour.items c.in-Some.c c.index.result.now within c.index.ensures None) ∙ c.in-Some-index.is in
    record {
      partial = rw c.in_ok-push_into.ensures (goes_into _ _ _ _ _ c.loop-t.invariant.partial colour c.in-Some-index.k list);
      cost =
          omega (arith, c.loop-t.invariant.cost, c.tick.ensures);
      sized = c.loop-t.invariant.sized;
    }

pub loop-t-preserved : goal.loop-t-preserved
loop-t-preserved c =
    let colour : colour_at c.args.colour.now c.loop-t.t ≡ Some c.in-Some.c = c.in-Some.is in
    let in_range : c.in-Some.c < c.args.colours = c.requires c.loop-t.t c.in-Some.c colour in
    let within : c.in-Some.c < length c.loop-t.list_of_colour.items = omega (arith, c.loop-t.invariant.sized) in
    let none : get_or c.loop-t.list_of_colour.items c.in-Some.c None ≡ None =
    sym (get_or_read c.loop-t.list_of_colour.items c.in-Some.c c.index.result.now within c.index.ensures None) ∙ c.in_default-index.is in
    let count : c.len.result ≡ length (lists_of c.loop-t.lists.items) = omega (
      arith,
      length-map c.loop-t.lists.items (λ v. v.items),
      c.len.ensures,
      c.loop-t.lists.ok.0,
    ) in
    record {
      partial = rw (c.in_ok-push_alone.ensures, count) (goes_alone _ _ _ _ _ c.loop-t.invariant.partial colour none within);
      cost = omega (arith, c.loop-t.invariant.cost, c.tick.ensures);
      sized = length-set c.loop-t.list_of_colour.items c.in-Some.c (Some c.len.result) ∙ c.loop-t.invariant.sized;
    }

pub returns-clause-classes : goal.returns-clause-classes
returns-clause-classes c =
    let end : c.loop-t.t ≡ length c.args.colour.now = omega arith in
    all_classes _ _ _ (rw end at c.loop-t.invariant.partial)

pub returns-clause-once : goal.returns-clause-once
returns-clause-once c t placed =
    let end : c.loop-t.t ≡ length c.args.colour.now = omega arith in
    let is = some_is _ placed in
    let within : t < length c.args.colour.now = some_within c.args.colour.now t is.0 is.1 in
    c.loop-t.invariant.partial.once t (omega arith) placed

pub returns-clause-count : goal.returns-clause-count
returns-clause-count c =
    let kept = c.loop-t.invariant in
    omega (arith, kept.partial.count, kept.sized, count_by-le-length is_some c.loop-t.list_of_colour.items)
