use Rattle.std.proofs.Common.{inl, inr, refl}
use Rattle.std.proofs.lemmas.Result.{err_from_is_err_and}
use Rattle.switch_driver.proofs.setting.set_both.Goals as goal

pub returns-clause-done : goal.returns-clause-done
returns-clause-done g c = (
  _,
  c.in_ok-send_setting.ensures.passed,
  (
    _,
    c.in_ok-send_setting-2.ensures.passed,
    (
      _,
      c.in_ok-ask_all.ensures.replied,
      (
        _,
        c.in_ok-ask_all-2.ensures.replied,
        (_, c.in_ok-send.ensures.passed, (_, c.in_ok-send-2.ensures.passed, refl)),
      ),
    ),
  ),
)

pub returns-in_err-ask_all-2-clause-vain : goal.returns-in_err-ask_all-2-clause-vain
returns-in_err-ask_all-2-clause-vain g c =
    let p = err_from_is_err_and c.from_residual-in_err-ask_all-2.result c.from_residual-in_err-ask_all-2.ensures.1 in
    rw (p.1, p.2)
    (inr (
      _,
      c.in_ok-send_setting.ensures.passed,
      inr (_, c.in_ok-send_setting-2.ensures.passed, inr (_, c.in_ok-ask_all.ensures.replied, inl c.in_err-ask_all-2.ensures.vain)),
    ))

pub returns-in_err-send-clause-vain : goal.returns-in_err-send-clause-vain
returns-in_err-send-clause-vain g c =
    let p = err_from_is_err_and c.from_residual-in_err-send.result c.from_residual-in_err-send.ensures.1 in
    rw (p.1, p.2)
    (inr (
      _,
      c.in_ok-send_setting.ensures.passed,
      inr (
        _,
        c.in_ok-send_setting-2.ensures.passed,
        inr (_, c.in_ok-ask_all.ensures.replied, inr (_, c.in_ok-ask_all-2.ensures.replied, inl c.in_err-send.ensures.broken)),
      ),
    ))

pub returns-in_err-send-2-clause-vain : goal.returns-in_err-send-2-clause-vain
returns-in_err-send-2-clause-vain g c =
    let p = err_from_is_err_and c.from_residual-in_err-send-2.result c.from_residual-in_err-send-2.ensures.1 in
    rw (p.1, p.2)
    (inr (
      _,
      c.in_ok-send_setting.ensures.passed,
      inr (
        _,
        c.in_ok-send_setting-2.ensures.passed,
        inr (
          _,
          c.in_ok-ask_all.ensures.replied,
          inr (_, c.in_ok-ask_all-2.ensures.replied, inr (_, c.in_ok-send.ensures.passed, inl c.in_err-send-2.ensures.broken)),
        ),
      ),
    ))
