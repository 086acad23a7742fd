use Rattle.std.proofs.Common.{refl}
use Rattle.std.proofs.lemmas.Result.{on_ok_weaker, IfErr-weaker}
use Rattle.crossbar.specs.Pairs.{switch_of}
use Rattle.crossbar.specs.declared.chip.Chip.TheVariants.{A}
use Rattle.crossbar.specs.declared.chip.Wiring.TheVariants.{Both}
use Rattle.switch_settings.proofs.Replies.{disagreed}
use Rattle.switch_settings.proofs.switching.configure_one.Goals as goal

pub returns-clause-replied : goal.returns-clause-replied
returns-clause-replied g c =
    let heard = c.in_ok-replies.ensures in
    on_ok_weaker c.judge_all.result
    (λ agrees. (
      _,
      c.in_ok-send_setting.ensures.passed,
      (
        _,
        record { replies = c.in_ok-replies.replies; all = heard.all; are = agrees; passed = heard.passed },
        refl,
      ),
    )) c.judge_all.ensures.agreed

pub returns-clause-vain : goal.returns-clause-vain
returns-clause-vain g c =
    let heard = c.in_ok-replies.ensures in
    IfErr-weaker c.judge_all.result _ _
    (λ fault misses.
    let d = disagreed fault A (switch_of Both c.args.pairs.now) c.in_ok-replies.replies misses in
    rw d.1 (_, c.in_ok-send_setting.ensures.passed, (_, record { replies = c.in_ok-replies.replies; all = heard.all; are = d.2; passed = heard.passed }, refl)))
    c.judge_all.ensures.fault
