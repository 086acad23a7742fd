use Rattle.std.proofs.Common.{◌≡◌, ◌≢◌, ℕ, length, string_bytes}
use Rattle.std.proofs.lemmas.Result.{err_from_is_err_and, IfErr-weaker, IfOk-weaker}
use Rattle.batch.specs.ShapeView.{widest}
use Rattle.refusals.specs.declared.refusal.Refusal.TheVariants.{NoSetting, NoMemory}
use Rattle.schedule_picture.specs.declared.shown.ShownSettings.{ShownSettings}
use Rattle.schedule_picture.specs.declared.verdict.Verdict.{Verdict}
use Rattle.schedule_picture.specs.Picture.{picture_of}
use Rattle.schedule_picture.specs.Verdicts.{IsVerdict}
use Rattle.plan_answers.specs.Drawings.{AreShown, IsOutside, IsDrawing, IsFirstUndrawn, invalid, no_setting}
use Rattle.plan_answers.specs.Lent.{bytes_of}
use Rattle.plan_answers.proofs.drawing.picture.Goals as goal

pub returns-in_err-texts-clause-wrong : goal.returns-in_err-texts-clause-wrong
returns-in_err-texts-clause-wrong c =
    let p = err_from_is_err_and c.from_residual-in_err-texts.result c.from_residual-in_err-texts.ensures.1 in
    rw (p.1, p.2) (λ real. invalid c.in_ok-range.range c.in_ok-range.ensures.some (c.in_err-texts.ensures.invalid real))

pub returns-clause-drawn : goal.returns-clause-drawn
returns-clause-drawn c =
    let read = c.in_ok-texts.texts in
    let range = c.in_ok-range.range in
    let its = c.in_ok-texts.ensures in
    IfOk-weaker c.draw_range.result (λ text. (verdict : Verdict) × (shown : ShownSettings) × IsVerdict read.batch read.schedule read.certificate verdict
    × AreShown range (length read.schedule) shown × (string_bytes text ≡ picture_of read.batch read.schedule verdict shown))
    (λ text. IsDrawing widest c.args.batch.now c.args.schedule.now (bytes_of c.args.settings) (string_bytes text))
    (λ text d. record {
      transfers = read.batch;
      settings = read.schedule;
      verdict = d.0;
      range = range;
      shown = d.1;
      wanted = c.in_ok-range.ensures.some;
      valid = record { read = record { certificate = read.certificate; texts = its.texts; valid = its.valid }; known = d.2 };
      are_shown = d.3;
      drawing = d.4;
    }) c.draw_range.ensures.drawn

pub returns-clause-wrong : goal.returns-clause-wrong
returns-clause-wrong c =
    let read = c.in_ok-texts.texts in
    let range = c.in_ok-range.range in
    let its = c.in_ok-texts.ensures in
    IfErr-weaker c.draw_range.result (λ e. e ≢ NoMemory → (k : ℕ) × (e ≡ NoSetting k) × IsOutside range (length read.schedule) k)
    (λ e. e ≢ NoMemory → IsFirstUndrawn widest c.args.batch.now c.args.schedule.now (bytes_of c.args.settings) e)
    (λ e wrong real. no_setting range read.batch read.schedule (wrong real).0 c.in_ok-range.ensures.some
    (record { certificate = read.certificate; texts = its.texts; valid = its.valid }) (wrong real).2 (wrong real).1) c.draw_range.ensures.outside
