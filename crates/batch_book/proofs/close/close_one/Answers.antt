use Rattle.std.proofs.Common.{◌≡◌, ◌∙◌, All, ap, sym, subst, arith}
use Rattle.batch_book.specs.Recording.{made_in}
use Rattle.batch_book.specs.Seats.{IsRecorded}
use Rattle.batch_book.specs.Values.{greatest}
use Rattle.batch_book.proofs.Noting.{all_recorded, greatest_append, told_front}
use Rattle.batch_book.proofs.close.close_one.Goals as goal

pub returns : goal.returns
returns g c =
    let locked = c.args.locked in
    let e = c.gather-all.ensures in
    let all = c.gather-all.result in
    let earlier = g.L.ExchangeName.earlier in
    let notes = locked.keeper.history in
    let parts : all.share.parts ≡ g.L.Ledger.parts = omega (arith, all.of_ledger, e.parts, c.requires.parts) in
    let amount = c.audit.ensures.whole parts in
    let read = c.load.ensures.whole (all.of_word ∙ e.parts) in
    let later = c.load.ensures.later in
    let behind = greatest_append earlier (made_in notes) in
    let kept = ap greatest locked.kept in
    let stand = c.log.ensures.all locked.sure in
    let f = told_front notes in
    record {
      made = made_in notes;
      standing = made_in notes;
      all_parts = e.total;
      opened = locked.opened;
      are = locked.kept;
      stand = stand ∙ locked.kept;
      asked = e.asked;
      recorded = subst (λ es. All (IsRecorded es) c.args.seats.items) (sym f.1) (all_recorded notes f.0 c.args.seats.items e.told);
      counted = omega (arith, locked.counted, amount, e.amount);
      none_ahead = λ k d less. let seen = e.seen k d less in omega (arith, seen, later, read, e.raised, behind, kept);
      unstopped = locked.unstopped;
      all = λ _. stand;
    }
