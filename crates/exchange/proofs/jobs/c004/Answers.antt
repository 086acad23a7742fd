use Rattle.std.proofs.Common.{◌≡◌, ◌∙◌, ◌++◌, ◌∷◌, [], ℕ, List, ap, append_assoc, inl, inr, refl, subst, sym}
use Rattle.std.proofs.KnownBytes.{Appends-trans, Consumes-trans}
use Rattle.plan_answers.specs.Refusals.{Printed}
use Rattle.plan_answers.specs.declared.limits.TheConstants.{REFUSED}
use Rattle.link_devices.specs.Answering.{HasAnsweredAll, HasAnsweredButLast, HasRun, goes_on}
use Rattle.link_devices.specs.End.{EndState}
use Rattle.exchange.specs.Responses.{IsC004By}
use Rattle.exchange.proofs.Told.{told_more}
use Rattle.exchange.proofs.jobs.c004.Goals as goal

pub returns-in-Ok-clause-answer : goal.returns-in-Ok-clause-answer
returns-in-Ok-clause-answer g c =
    let a = c.in-Ok.ensures.0 in
    let ran = subst (λ (e : EndState). HasRun e a.came a.replies a.told c.answer_commands.new.end) c.new-end.ensures a.ran in
    let P : Printed → Type 0 = IsC004By (g.I.Read.remaining c.args.input.now) a.replies in (
      a.replies,
      a.written,
      subst P (sym c.alone.ensures) (
        a.came,
        a.told,
        _,
        c.answer_commands.new.end,
        a.read,
        ran,
        c.done.ensures.text ∙ c.new.ensures.items,
        inl (c.in-Ok.ensures.1, c.done.ensures.status),
      ),
      tt,
    )

pub returns-in-Err-Read-clause-answer : goal.returns-in-Err-Read-clause-answer
returns-in-Err-Read-clause-answer g c =
    let a : HasAnsweredAll (g.I.Read.remaining c.args.input.now) (g.I.Read.remaining c.answer_commands.new.reader) (g.O.Write.contents c.args.out.now)
    (g.O.Write.contents c.answer_commands.new.writer) (g.E.Write.contents c.args.err.now) (g.E.Write.contents c.answer_commands.new.err) c.new-end.result
    c.answer_commands.new.end = rw c.in-Err-Read.field-0-is at c.in-Err-Read.ensures in
    let ran = subst (λ (e : EndState). HasRun e a.came a.replies a.told c.answer_commands.new.end) c.new-end.ensures a.ran in
    let P : Printed → Type 0 = IsC004By (g.I.Read.remaining c.args.input.now) a.replies in (
      a.replies,
      a.written,
      subst P (sym c.alone-in-Err-Read.ensures) (
        a.came,
        a.told,
        _,
        c.answer_commands.new.end,
        a.read,
        ran,
        c.failed.ensures.text
            ∙ c.new-in-Err-Read.ensures.items,
        inr c.failed.ensures.status,
      ),
      tt,
    )

pub returns-in-Err-Read-clause-beside : goal.returns-in-Err-Read-clause-beside
returns-in-Err-Read-clause-beside g c =
    let a : HasAnsweredAll (g.I.Read.remaining c.args.input.now) (g.I.Read.remaining c.answer_commands.new.reader) (g.O.Write.contents c.args.out.now)
    (g.O.Write.contents c.answer_commands.new.writer) (g.E.Write.contents c.args.err.now) (g.E.Write.contents c.answer_commands.new.err) c.new-end.result
    c.answer_commands.new.end = rw c.in-Err-Read.field-0-is at c.in-Err-Read.ensures in
    told_more _ _ _ _ _ _ a.beside c.tell_note.ensures

pub returns-in-Err-Write-clause-answer : goal.returns-in-Err-Write-clause-answer
returns-in-Err-Write-clause-answer g c =
    let w : HasAnsweredButLast (g.I.Read.remaining c.args.input.now) (g.I.Read.remaining c.answer_commands.new.reader) (g.O.Write.contents c.args.out.now)
    (g.O.Write.contents c.answer_commands.new.writer) (g.E.Write.contents c.args.err.now) (g.E.Write.contents c.answer_commands.new.err) c.new-end.result
    c.answer_commands.new.end = rw c.in-Err-Write.field-0-is at c.in-Err-Write.ensures in
    let a = w.answered in
    let old = g.I.Read.remaining c.args.input.now in
    let came = a.came ++ w.byte ∷ [] in
    let replies = a.replies ++ w.cut.reply in
    let ran = goes_on a.came a.replies a.told w.byte w.cut.reply [] w.before _ a.ran w.cut.handles in
    let began = subst (λ (e : EndState). HasRun e came replies (a.told ++ []) c.answer_commands.new.end) c.new-end.ensures ran in
    let whole : replies ≡ (a.replies ++ w.cut.cut.front) ++ w.cut.cut.missing = ap (λ (x : List ℕ). a.replies ++ x) w.cut.cut.bytes_are
    ∙ sym (append_assoc a.replies w.cut.cut.front w.cut.cut.missing) in
    let end : Printed = record { text = []; status = REFUSED } in
    let by : IsC004By old replies end = (
      came,
      a.told ++ [],
      _,
      c.answer_commands.new.end,
      Consumes-trans _ _ _ a.came (w.byte ∷ []) a.read w.read,
      began,
      refl,
      inr refl,
    ) in (
      a.replies ++ w.cut.cut.front,
      Appends-trans _ _ _ _ _ a.written w.cut.cut.appended,
      tt,
      (w.cut.cut.missing, end, subst (λ (x : List ℕ). IsC004By old x end) whole by),
    )
