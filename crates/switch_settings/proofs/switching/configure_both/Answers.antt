use Rattle.std.proofs.Common.{inl, inr, refl}
use Rattle.std.proofs.lemmas.Result.{err_from_is_err_and, on_ok_weaker, IfErr-weaker}
use Rattle.crossbar.specs.Pairs.{switch_of}
use Rattle.crossbar.specs.declared.chip.Chip.TheVariants.{A, B}
use Rattle.crossbar.specs.declared.chip.Wiring.TheVariants.{Forth, Back}
use Rattle.switch_settings.proofs.Replies.{disagreed}
use Rattle.switch_settings.proofs.switching.configure_both.Goals as goal

pub returns-clause-replied : goal.returns-clause-replied
returns-clause-replied g c =
    let a = c.in_ok-of_a.ensures in
    let b = c.in_ok-of_b.ensures in
    on_ok_weaker c.judge_all-2.result
    (λ agrees. (
      _,
      c.in_ok-send_setting.ensures.passed,
      (
        _,
        c.in_ok-send_setting-2.ensures.passed,
        (
          _,
          record { replies = c.in_ok-of_a.of_a; all = a.all; are = c.in_ok-judge_all.ensures.agreed; passed = a.passed },
          (_, record { replies = c.in_ok-of_b.of_b; all = b.all; are = agrees; passed = b.passed }, refl),
        ),
      ),
    ))
    c.judge_all-2.ensures.agreed

pub returns-clause-vain : goal.returns-clause-vain
returns-clause-vain g c =
    let a = c.in_ok-of_a.ensures in
    let b = c.in_ok-of_b.ensures in
    IfErr-weaker c.judge_all-2.result _ _
    (λ fault misses.
    let d = disagreed fault B (switch_of Back c.args.pairs.now) c.in_ok-of_b.of_b misses in
    rw d.1 (inr (
      _,
      c.in_ok-send_setting.ensures.passed,
      (
        _,
        c.in_ok-send_setting-2.ensures.passed,
        (
          _,
          record { replies = c.in_ok-of_a.of_a; all = a.all; are = c.in_ok-judge_all.ensures.agreed; passed = a.passed },
          (_, record { replies = c.in_ok-of_b.of_b; all = b.all; are = d.2; passed = b.passed }, refl),
        ),
      ),
    )))
    c.judge_all-2.ensures.fault

pub returns-in_err-judge_all-clause-vain : goal.returns-in_err-judge_all-clause-vain
returns-in_err-judge_all-clause-vain g c =
    let a = c.in_ok-of_a.ensures in
    let b = c.in_ok-of_b.ensures in
    let p = err_from_is_err_and c.from_residual-in_err-judge_all.result c.from_residual-in_err-judge_all.ensures.1 in
    let d = disagreed _ A (switch_of Forth c.args.pairs.now) c.in_ok-of_a.of_a c.in_err-judge_all.ensures.fault in
    rw (p.1, p.2, d.1) (inl (
      _,
      c.in_ok-send_setting.ensures.passed,
      (
        _,
        c.in_ok-send_setting-2.ensures.passed,
        (
          _,
          record { replies = c.in_ok-of_a.of_a; all = a.all; are = d.2; passed = a.passed },
          (_, record { replies = c.in_ok-of_b.of_b; all = b.all; are = tt; passed = b.passed }, refl),
        ),
      ),
    ))

pub returns-in_err-of_b-clause-vain : goal.returns-in_err-of_b-clause-vain
returns-in_err-of_b-clause-vain g c =
    let a = c.in_ok-of_a.ensures in
    let p = err_from_is_err_and c.from_residual-in_err-of_b.result c.from_residual-in_err-of_b.ensures.1 in
    rw (p.1, p.2) (inr (
      _,
      c.in_ok-send_setting.ensures.passed,
      inr (
        _,
        c.in_ok-send_setting-2.ensures.passed,
        inr (_, record { replies = c.in_ok-of_a.of_a; all = a.all; are = tt; passed = a.passed }, inl c.in_err-of_b.ensures.broken),
      ),
    ))
