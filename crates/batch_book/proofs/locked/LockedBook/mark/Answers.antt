use Rattle.std.proofs.Common.{◌++◌, ◌∙◌, ap, length, sym}
use Rattle.batch_book.specs.Recording.{made_in}
use Rattle.batch_book.proofs.Noting.{made_mark}
use Rattle.batch_book.proofs.locked.LockedBook.mark.Goals as goal

pub invariant_of-self : goal.invariant_of-self
invariant_of-self g c =
    let old = c.args.self.now in
    let made = ap made_in c.mark.ensures.history ∙ made_mark old.keeper.history _ in
    record {
      sure = old.sure;
      counted = ap length made ∙ old.counted;
      kept = old.kept ∙ ap (λ es. g.L.ExchangeName.earlier ++ es) (sym made);
      opened = old.opened;
      unstopped = old.unstopped;
    }
