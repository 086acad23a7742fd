use Rattle.std.proofs.Common.{◌∷◌, [], ◌++◌, ◌∙◌, ℕ, List, ap, sym, subst, get_or, ◌+◌}
use Rattle.std.proofs.lemmas.List.{take_more}
use Rattle.peek_poke.specs.Messages.{IsPartial}
use Rattle.link_devices.proofs.Fronts.{partial_front, waits, taken_there}
use Rattle.link_devices.proofs.boot_state.answerer_of.Goals as goal

pub loop-byte-preserved : goal.loop-byte-preserved
loop-byte-preserved c =
    let bytes = c.args.begun.now in
    let k = c.loop-byte.byte-index in
    let w = waits _ _ c.loop-byte.end c.feed.new.self (get_or bytes k 0) _ c.in-Ok-None.ensures.step in
    record {
      alive = w.0;
      come = w.1 ∙ ap (λ (t : List ℕ). t ++ get_or bytes k 0 ∷ []) c.loop-byte.invariant.come ∙ sym (take_more bytes k 0 c.loop-byte-test.true);
      partial = c.feed.ensures.partial.1;
    }

pub returns-in-Err : goal.returns-in-Err
returns-in-Err c = λ whole.
    let bytes = c.args.begun.now in
    let k = c.loop-byte.byte-index in
    let here = take_more bytes k 0 c.loop-byte-test.true ∙ ap (λ (t : List ℕ). t ++ get_or bytes k 0 ∷ []) (sym c.loop-byte.invariant.come) in
    taken_there _ c.loop-byte.end (get_or bytes k 0) _ c.loop-byte.invariant.alive (subst IsPartial here (partial_front bytes (k + 1) whole))
    c.in-Err.ensures.step.2
