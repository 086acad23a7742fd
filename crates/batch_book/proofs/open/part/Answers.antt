use Rattle.std.proofs.Common.{◌∙◌, ◌++◌, ap, append-nil, length, sym, subst, arith}
use Rattle.batch_book.specs.History.{AreUnstopped}
use Rattle.batch_book.specs.Recording.{made_in}
use Rattle.batch_book.specs.Sides.{side_lists}
use Rattle.batch_book.proofs.Sides.{none_known}
use Rattle.batch_book.proofs.open.part.Goals as goal

pub invariant_of-new : goal.invariant_of-new
invariant_of-new g c =
    let back = c.in-Err.ensures.back in
    let earlier = g.L.ExchangeName.earlier in
    let none = c.requires.history in
    record {
      sure = c.in-Err.ensures.sure;
      counted = ap (λ ns. length (made_in ns)) none ∙ sym c.requires.none;
      kept = ap (λ a. a.history) back ∙ c.requires.earlier ∙ sym (ap (λ ns. earlier ++ made_in ns) none ∙ append-nil earlier);
      opened = ap (λ a. a.opening) back ∙ c.requires.opening;
      unstopped = λ never. subst (λ a. AreUnstopped a.history) (sym back) (c.requires.unstopped never);
    }

pub invariant_of-new-2 : goal.invariant_of-new-2
invariant_of-new-2 g c =
    let lent = c.in-Ok.ensures in
    let dealt = c.deal_sides-own.ensures in
    let earlier = g.L.ExchangeName.earlier in
    let history = ap (λ a. a.history) lent.book ∙ c.requires.earlier in
    let durable = ap (λ a. a.durable) lent.book ∙ c.requires.stand in
    let many = ap length history in
    record {
      its = dealt.sides.0;
      lists = ap (side_lists earlier) dealt.lists.0 ∙ (λ i. (sym history i, sym durable i));
      many = omega (arith, many);
      waits = lent.loses.1;
      opened = ap (λ a. a.opening) lent.book ∙ c.requires.opening;
      unstopped = λ never. subst (λ a. AreUnstopped a.history) (sym lent.book) (c.requires.unstopped never);
    }

pub invariant_of-new-3 : goal.invariant_of-new-3
invariant_of-new-3 g c =
    let lent = c.in-Ok.ensures in
    let none = c.deal_sides-own.ensures.history in
    let earlier = g.L.ExchangeName.earlier in
    let texts = g.H.Pending.PendingEntries.texts in
    let queued = c.past-queued.ensures ∙ ap (λ a. a.history) lent.book ∙ c.requires.earlier in
    let text = c.new-3.ensures.items ∙ sym (lent.texts earlier earlier ∙ c.is_whole.ensures.none earlier) ∙ ap (texts earlier) (sym queued) in
    let k = none_known texts earlier _ _ _ none queued text in
    record {
      counted = ap (λ ns. length (made_in ns)) none ∙ sym c.requires.none;
      placed = k.placed;
      known = k.known;
      first = k.first;
      many = k.many;
      taken = k.taken;
      waits = k.waits;
      stood = k.stood;
      told = k.told;
    }
