use Rattle.std.proofs.Common.{◌++◌, ◌∷◌, [], ◌∙◌, ap, ap₂, length, sym, arith}
use Rattle.batch_book.specs.Places.{are_up_to}
use Rattle.batch_book.specs.Recording.{made_in, mark, marked_in}
use Rattle.batch_book.specs.Seats.{raised_for}
use Rattle.batch_book.specs.Values.{greatest}
use Rattle.batch_book.proofs.Noting.{made_mark, told_mark}
use Rattle.batch_book.proofs.Places.{up_to_more}
use Rattle.batch_book.proofs.seat.mark.Goals as goal

pub invariant_of-result : goal.invariant_of-result
invariant_of-result g c =
    let t = c.args.place in
    let list = c.add-own.ensures.list ∙ ap (λ n. t.own.list ++ n ∷ []) c.mark.ensures in
    let same = ap made_in list ∙ made_mark t.own.list c.args.session in
    record {
      counted = t.counted ∙ ap length (sym same);
      highest = t.highest ∙ ap₂ (λ s es. greatest (raised_for g.L.ExchangeName.earlier s es)) (sym c.add-own.ensures.session) (sym same);
      low = ap (are_up_to t.last) list ∙ up_to_more t.last t.last t.own.list (mark c.args.session) t.low (omega arith) (omega arith);
      settled = λ _. (ap marked_in list ∙ told_mark t.own.list c.args.session) ∙ sym same;
    }
