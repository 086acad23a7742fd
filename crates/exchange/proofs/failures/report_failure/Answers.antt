use Rattle.std.proofs.Common.{◌∷◌, [], inr, refl}
use Rattle.std.specs.Prelude.{string_bytes}
use Rattle.exchange.proofs.failures.report_failure.Goals as goal

pub returns-in-Some-failure_line : goal.returns-in-Some-failure_line
returns-in-Some-failure_line g c =
    inr (
      c.if-is_quiet.false,
      (
        string_bytes c.in-Some-failure_line.line ∷ [],
        (
          _,
          c.in-Some-failure_line.ensures,
          rw (c.as_bytes.ensures.value, c.as_str.ensures.value)
              at c.tell_line.ensures,
          refl,
        ),
      ),
    )
