use Rattle.std.proofs.Common.{◌≡◌, ◌∙◌, IsTrue, false, refl, sym, rules}
use Rattle.std.proofs.lemmas.Bool.{false≢true}
use Rattle.std.proofs.lemmas.Result.{IfErr-weaker, IfOk-weaker}
use Rattle.batch.specs.ShapeView.{widest}
use Rattle.board_wiring.specs.Boards.{IsBoardOf, IsMiswired}
use Rattle.board_wiring.specs.Sources.{of_wiring}
use Rattle.board_wiring.proofs.ReadBoards.{joins_all}
use Rattle.plan_answers.proofs.OneSource.{denoted}
use Rattle.plan_answers.specs.Lent.{bytes_of}
use Rattle.plan_answers.specs.Schedules.{said_by}
use Rattle.refusals.specs.declared.refusal.Refusal.TheVariants.{NoSetting}
use Rattle.drive_answers.specs.Answers.{lacking, no_setting, tried, wiring_wrong, texts_wrong}
use Rattle.drive_answers.specs.Ways.{names_of}
use Rattle.drive_answers.proofs.Over.{failed, refused_so}
use Rattle.drive_answers.proofs.Wirings.{of_bytes}
use Rattle.drive_answers.proofs.driving.answer_drive.Goals as goal

pub rack_of-rack-requires : goal.rack_of-rack-requires
rack_of-rack-requires g c =
    let its = c.in-Ok-read.scheduled in
    let has = (rw c.in_default.is at c.in_ok-lack.ensures.none) its.batch (denoted (said_by c.args.source) widest c.args.batch.now its.batch its.settings
    c.in-Ok-read.ensures.schedule) in
    rw c.batch-batch.ensures (joins_all c.in-Ok.board c.wiring_of.result its.batch c.wiring_of.ensures has)

pub returns-in-Err-clause-answer : goal.returns-in-Err-clause-answer
returns-in-Err-clause-answer g c =
    let fault = c.in-Err.fault in
    refused_so _ _ _ _ _ _ _ _ c.refused.result (of_wiring fault)
    (λ other. wiring_wrong fault (of_bytes (λ t. IsMiswired t fault) c.args.wiring c.in-Err.ensures.fault) refl)
    (rw c.into.ensures at c.refused.ensures.refused)

pub returns-in-Some-clause-answer : goal.returns-in-Some-clause-answer
returns-in-Some-clause-answer g c =
    let board = c.in-Ok.board in
    let found = rw c.in-Some.is at c.in_ok-lack.ensures.some in
    refused_so _ _ _ _ _ _ _ _ c.refused-in-Some.result c.in-Some.lack
    (λ other. lacking board (of_bytes (λ t. IsBoardOf t board) c.args.wiring c.in-Ok.ensures.board) found) c.refused-in-Some.ensures.refused

pub returns-then-not-is_start-clause-answer : goal.returns-then-not-is_start-clause-answer
returns-then-not-is_start-clause-answer g c =
    let its = c.in-Ok-read.scheduled in
    let board = c.in-Ok.board in
    let from = c.in-Ok-read.ensures.schedule in
    let has = (rw c.in_default.is at c.in_ok-lack.ensures.none) its.batch (denoted (said_by c.args.source) widest c.args.batch.now its.batch its.settings
    from) in
    let starts = rw c.schedule-schedule.ensures.schedule at c.is_start.ensures in
    let stopped : c.is_start.result ≡ false = search rules in
    refused_so _ _ _ _ _ _ _ _ c.no_setting.result (NoSetting c.args.first)
    (λ other. no_setting board its.batch its.settings (of_bytes (λ t. IsBoardOf t board) c.args.wiring c.in-Ok.ensures.board) from has
    (λ start. false≢true (sym stopped ∙ starts.1 start)) refl)
    c.no_setting.ensures.refused

pub returns-else-not-is_start-clause-answer : goal.returns-else-not-is_start-clause-answer
returns-else-not-is_start-clause-answer g c =
    let its = c.in-Ok-read.scheduled in
    let board = c.in-Ok.board in
    let from = c.in-Ok-read.ensures.schedule in
    let has = (rw c.in_default.is at c.in_ok-lack.ensures.none) its.batch (denoted (said_by c.args.source) widest c.args.batch.now its.batch its.settings
    from) in
    let starts = rw c.schedule-schedule.ensures.schedule at c.is_start.ensures in
    let started : IsTrue c.is_start.result = search rules in
    let is = rw (c.rack_of-rack.ensures.rack, c.batch-batch.ensures, c.schedule-schedule.ensures.schedule) at c.drive_over.ensures.answer in
    IfOk-weaker c.drive_over.result _ _
    (λ end driven. tried board c.wiring_of.result its.batch its.settings (of_bytes (λ t. IsBoardOf t board) c.args.wiring c.in-Ok.ensures.board) from has
    c.wiring_of.ensures (starts.0 started) driven) is

pub returns-else-not-is_start-clause-fault : goal.returns-else-not-is_start-clause-fault
returns-else-not-is_start-clause-fault g c =
    let its = c.in-Ok-read.scheduled in
    let board = c.in-Ok.board in
    let from = c.in-Ok-read.ensures.schedule in
    let has = (rw c.in_default.is at c.in_ok-lack.ensures.none) its.batch (denoted (said_by c.args.source) widest c.args.batch.now its.batch its.settings
    from) in
    let is = rw (c.rack_of-rack.ensures.rack, c.batch-batch.ensures, c.schedule-schedule.ensures.schedule) at c.drive_over.ensures.fault in
    IfErr-weaker c.drive_over.result _ _
    (failed g.S.DriveObserver.hears (said_by c.args.source) c.args.batch.now (bytes_of c.args.wiring) c.args.first (names_of c.args.names)
    (g.Q.Ports.ways c.args.ports.now) (g.Q.Ports.ways c.drive_over.new.ports) c.args.stage.now c.drive_over.new.stage board c.wiring_of.result its.batch
    its.settings (of_bytes (λ t. IsBoardOf t board) c.args.wiring c.in-Ok.ensures.board) from has c.wiring_of.ensures) is

pub returns-in-Err-read-clause-answer : goal.returns-in-Err-read-clause-answer
returns-in-Err-read-clause-answer g c =
    let board = c.in-Ok.board in
    refused_so _ _ _ _ _ _ _ _ c.refused-in-Err-read.result c.in-Err-read.refusal
    (λ other. texts_wrong board (of_bytes (λ t. IsBoardOf t board) c.args.wiring c.in-Ok.ensures.board) (c.in-Err-read.ensures.wrong other)
    (rw c.in_default.is at c.in_ok-lack.ensures.none))
    c.refused-in-Err-read.ensures.refused
