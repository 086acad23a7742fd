use Rattle.std.proofs.Common.{◌∙◌, ap, rules}
use Rattle.std.proofs.lemmas.Result.{IfErr-weaker, IfOk-weaker}
use Rattle.drive_answers.proofs.ToldBeside.{end_so}
use Rattle.switch_driver.specs.declared.lines.LineObserver.{LineObserver}
use Rattle.exchange.proofs.Forewarned.{may_have, tells_beside}
use Rattle.exchange.proofs.Lines.{cut_by, driven_by, missed_by}
use Rattle.exchange.proofs.driving.answer_lines.Goals as goal

pub returns-clause-told : goal.returns-clause-told
returns-clause-told g c =
    let answers = rw (c.text_of-list.ensures, c.slice_of-wiring.ensures, c.source_with-source.ensures, c.text_of.ensures)
    at c.answer_drive-end.ensures.answer in
    let fails = rw (c.text_of-list.ensures, c.slice_of-wiring.ensures, c.source_with-source.ensures, c.text_of.ensures) at c.answer_drive-end.ensures.fault in
    let told = c.new-stage.result in
    let left = g.I.Read.remaining c.answer_drive-end.new.stage.lines.input.now in
    let end = end_so g.I.Read.remaining g.O.Write.contents _ _ _ (tells_beside g.I.Read.remaining g.O.Write.contents g.E.Write.contents) _ _ _ told _ _ _ _ _
    c.answer_drive-end.result answers fails in
    let loan = end.3.loan in
    let appended = end.3.appended in
    let waits = ap (λ (l : LineObserver _ _). l.waits) c.new-stage.ensures.lines ∙ c.new.ensures.waits in
    let input = ap (λ (l : LineObserver _ _). g.I.Read.remaining l.input.now) c.new-stage.ensures.lines ∙ ap g.I.Read.remaining c.new.ensures.input.1 in
    let result = c.answer_drive-end.result in
    let driven = driven_by result _ _ _ _ c.args.goes_on told.lines.waits _ _ _ _ _ end.0 waits input (IfOk-weaker result _ _ (λ one is. (left, is)) end.1) in
    let cut = cut_by result _ _ _ _ c.args.goes_on told.lines.waits _ _ _ _ _ end.0 waits input
    (IfErr-weaker result _ _ (λ fault failed. let so = missed_by _ _ _ _ _ _ _ _ _ _ fault failed in (so.0, λ cut. (left, so.1 cut))) end.2) in
    (end.0, search rules, driven, cut)

pub returns-clause-beside : goal.returns-clause-beside
returns-clause-beside g c =
    let told = c.new-stage.result in
    let tells = c.answer_drive-end.new.stage in
    let end = end_so g.I.Read.remaining g.O.Write.contents _ _ _ (tells_beside g.I.Read.remaining g.O.Write.contents g.E.Write.contents) _ _ _ told tells _ _ _
    _ c.answer_drive-end.result c.answer_drive-end.ensures.answer c.answer_drive-end.ensures.fault in
    let once = end.3.beside in
    let loan = once.0 in
    may_have g.E.Write.contents told tells c.args.warning _ _ c.new-stage.ensures.warning (ap g.E.Write.contents c.new-stage.ensures.err.1) (search rules) once
