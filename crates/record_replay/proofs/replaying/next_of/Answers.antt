use Rattle.std.proofs.Common.{◌≡◌, ◌∙◌, ◌++◌, List, ℕ, ap, refl, sym, arith, rules}
use Rattle.std.proofs.lemmas.Bool.{false≢true}
use Rattle.book_record.specs.Sums.{numbered, summed}
use Rattle.record_replay.specs.Replays.{damaged, more_after}
use Rattle.record_replay.proofs.replaying.next_of.Goals as goal

pub returns-then-not-is_end-clause-next : goal.returns-then-not-is_end-clause-next
returns-then-not-is_end-clause-next c =
    let number : c.args.entries ≡ numbered c.args.entries = omega arith in
    (rw c.in-Whole.is at c.read_prefix.ensures, λ same. false≢true (sym c.if-not-is_end.true ∙ (c.is_end.ensures c.args.entries number).1 same))

pub returns-in-Damaged-clause-wrong : goal.returns-in-Damaged-clause-wrong
returns-in-Damaged-clause-wrong c limit m = damaged (rw c.in-Damaged.is at c.read_prefix.ensures) refl refl refl

pub returns-else-is_empty-clause-wrong : goal.returns-else-is_empty-clause-wrong
returns-else-is_empty-clause-wrong c limit m =
    let number : c.args.entries ≡ numbered c.args.entries = omega arith in
    let front = rw c.in-Whole.is at c.read_prefix.ensures in
    let same = (c.is_end.ensures c.args.entries number).0 c.if-not-is_end.false in
    more_after (front.front ∙ ap (λ (l : List ℕ). summed c.args.entries l ++ c.in-Whole.more.now) same) (search rules) refl refl
