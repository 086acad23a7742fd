use Rattle.std.proofs.Common.{◌+◌, ◌/◌, ◌%◌, ◌++◌, [], ◌∷◌, ◌∙◌, ap, sym, refl, arith, append_assoc}
use Rattle.std.proofs.lemmas.Result.{on_ok_weaker}
use Rattle.link_graph.specs.ScheduleText.{spaced}
use Rattle.link_graph.proofs.Digits.{put, spaced_step}
use Rattle.link_graph.proofs.numbers.+push_long.Goals as goal

pub returns : goal.returns
returns t c =
    on_ok_weaker c.extend_from_slice.result
    (λ p. p ∙ ap (λ l. l ++ (48 + c.args.n % 10) ∷ []) c.in_ok-push_long.ensures ∙ append_assoc c.args.text.now.items (spaced (c.args.n / 10)) _
    ∙ ap (λ l. c.args.text.now.items ++ l) (sym (spaced_step c.args.n (omega (arith, c.if-n-lt1000.false)) c.ranges.n.fits)))
    (put c.extend_from_slice.result _ c.push_long.new.text.items _ ((48 + c.args.n % 10) ∷ []) c.extend_from_slice.ensures.items (rw c.digit.ensures refl))
