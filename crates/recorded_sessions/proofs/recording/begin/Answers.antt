use Rattle.std.proofs.Common.{◌∙◌, ap, ℕ, List, [], append-nil, drop, inl, length, refl, subst, sym, take}
use Rattle.std.proofs.lemmas.Slice.Eq.{starts_is}
use Rattle.std.proofs.lemmas.Bool.Decides.{Decides-eqb}
use Rattle.batch_book.specs.History.{BookView}
use Rattle.book_record.specs.Sums.{numbered}
use Rattle.recorded_sessions.specs.Records.{IsBookOn}
use Rattle.recorded_sessions.proofs.Begun.{cut_from, cut_none, resumed_front}
use Rattle.recorded_sessions.proofs.recording.begin.Goals as goal

pub returns-then-starts_with-clause-begins : goal.returns-then-starts_with-clause-begins
returns-then-starts_with-clause-begins g c =
    let held = c.args.held.now in
    let head : List ℕ = c.as_slice.result.now in
    let is = (starts_is Decides-eqb head held c.starts_with.result c.starts_with.ensures.value).0 c.if-starts_with.true in
    inl (drop (length held) head, sym c.in_ok-head.ensures ∙ sym c.as_slice.ensures.value ∙ is, ap (λ (a : BookView). a.history) c.in_ok-new_book.ensures)

pub returns-then-starts_with-clause-on : goal.returns-then-starts_with-clause-on
returns-then-starts_with-clause-on g c = subst (IsBookOn c.args.rack) (sym c.in_ok-new_book.ensures) (refl, refl)

pub returns-clause-front : goal.returns-clause-front
returns-clause-front g c =
    let t = c.in_ok-book.ensures.resumed in
    resumed_front c.session_limit-limit.result c.args.held.now c.in_ok-head.head.items c.args.rack c.args.names.now c.in_ok-book.book c.in_ok-book.kept
    c.new.result.items c.in_ok-head.ensures c.in_ok-book.ensures.on.0 t.0 t.1 c.new.ensures.items

pub returns-then-starts_with-clause-cut : goal.returns-then-starts_with-clause-cut
returns-then-starts_with-clause-cut g c =
    let held = c.args.held.now in
    let head : List ℕ = c.as_slice.result.now in
    let is = (starts_is Decides-eqb head held c.starts_with.result c.starts_with.ensures.value).0 c.if-starts_with.true in
    cut_none held head (drop (length held) head) c.args.rack c.args.names.now c.in_ok-new_book.field-0 (c.as_slice.ensures.value ∙ c.in_ok-head.ensures) is
    c.in_ok-new_book.ensures

pub returns-clause-cut : goal.returns-clause-cut
returns-clause-cut g c =
    let held = c.args.held.now in
    let t = c.in_ok-book.ensures.resumed in
    let kept = c.in_ok-book.kept in
    let front = resumed_front c.session_limit-limit.result held c.in_ok-head.head.items c.args.rack c.args.names.now c.in_ok-book.book kept []
    c.in_ok-head.ensures c.in_ok-book.ensures.on.0 t.0 t.1 refl in
    cut_from (length c.in_ok-book.book.history) held _ kept c.cut_of.result (sym (append-nil (take kept held)) ∙ front)
    (c.cut_of.ensures (length c.in_ok-book.book.history) c.in_ok-book.ensures.entries)

pub returns-then-starts_with-clause-entries : goal.returns-then-starts_with-clause-entries
returns-then-starts_with-clause-entries g c = ap (λ a. numbered (length a.history)) (sym c.in_ok-new_book.ensures)
