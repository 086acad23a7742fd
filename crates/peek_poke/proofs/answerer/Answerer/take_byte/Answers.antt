use Rattle.std.proofs.lemmas.Grind.{common_steps}
use Rattle.std.proofs.Common.{rules, ◌≡◌, [], ◌∷◌, ◌++◌, arith, ap, ◌∙◌, sym, subst, inl, inr, refl, get_or, set, ◌⊎◌}
use Rattle.peek_poke.specs.declared.message.TheConstants.{POKE, POKE_BYTES, PEEK_BYTES}
use Rattle.peek_poke.specs.Messages.{Pending}
use Rattle.peek_poke.proofs.WholeText.{text_whole, cause_of}
use Rattle.peek_poke.specs.Effects.{IsCause}
use Rattle.peek_poke.proofs.answerer.Answerer.take_byte.Goals.{then-self-eq-POKE, else-self-eq-POKE}
use Rattle.peek_poke.proofs.answerer.Answerer.take_byte.Goals as goal

pub returns-in-Ok-clause-step : goal.returns-in-Ok-clause-step
returns-in-Ok-clause-step g c =
    let bs = c.self.inside.bytes in
    let n = c.self.inside.len in
    let b = c.args.byte in
    let whole : ((get_or (set bs n b) 0 0 ≡ POKE) × (c.if-self-eq-POKE.whole ≡ POKE_BYTES))
    ⊎ ((get_or (set bs n b) 0 0 ≡ POKE → ⊥) × (c.if-self-eq-POKE.whole ≡ PEEK_BYTES)) =
    elim c.if-self-eq-POKE.branch [
      | then-self-eq-POKE w ↦ inl (w.if-self-eq-POKE.true, w.whole-is)
      | else-self-eq-POKE w ↦
          inr (w.if-self-eq-POKE.false, w.whole-is)
    ] in
    let text = text_whole bs n b c.if-self-eq-POKE.whole c.message_in-message.result (search rules) (omega arith) c.self.invariant.0 (omega arith) whole
    c.message_in-message.ensures.poke c.message_in-message.ensures.peek in (
      ap (λ (p : Pending). p.failed) (sym c.self.view_is) ∙ c.if-self.false,
      c.if-self.false,
      inr (record {
        message = c.message_in-message.result;
        fits = c.message_in-message.ensures.fits;
        whole = ap (λ (p : Pending). p.bytes ++ b ∷ []) (sym c.self.view_is) ∙ text;
        rest = refl;
        does = c.in-Ok.ensures;
      }),
    )

pub returns-in-Err-clause-step : goal.returns-in-Err-clause-step
returns-in-Err-clause-step g c =
    let bs = c.self.inside.bytes in
    let n = c.self.inside.len in
    let b = c.args.byte in
    let whole : ((get_or (set bs n b) 0 0 ≡ POKE) × (c.if-self-eq-POKE.whole ≡ POKE_BYTES))
    ⊎ ((get_or (set bs n b) 0 0 ≡ POKE → ⊥) × (c.if-self-eq-POKE.whole ≡ PEEK_BYTES)) =
    elim c.if-self-eq-POKE.branch [
      | then-self-eq-POKE w ↦ inl (w.if-self-eq-POKE.true, w.whole-is)
      | else-self-eq-POKE w ↦
          inr (w.if-self-eq-POKE.false, w.whole-is)
    ] in
    let text = text_whole bs n b c.if-self-eq-POKE.whole c.message_in-message.result (search rules) (omega arith) c.self.invariant.0 (omega arith) whole
    c.message_in-message.ensures.poke c.message_in-message.ensures.peek in (
      refl,
      c.in-Err.ensures.1,
      subst (IsCause g.S.WordStore.read_gives g.S.WordStore.write_gives c.args.self.now c.args.store.now b) (sym c.from.ensures)
          (cause_of g.S.WordStore.read_gives g.S.WordStore.write_gives c.args.self.now c.args.store.now b c.in-Err.fault
          (ap (λ (p : Pending). p.failed) (sym c.self.view_is) ∙ c.if-self.false) (
            c.message_in-message.result,
            c.message_in-message.ensures.fits,
            ap (λ (p : Pending). p.bytes ++ b ∷ []) (sym c.self.view_is) ∙ text,
            c.in-Err.ensures.0,
          )),
    )

pub returns-then-self-clause-step : goal.returns-then-self-clause-step
returns-then-self-clause-step g c = search rules

pub returns-then-self-whole-clause-step : goal.returns-then-self-whole-clause-step
returns-then-self-whole-clause-step g c = grind (arith, common_steps)

pub returns-in-Ok-clause-taken : goal.returns-in-Ok-clause-taken
returns-in-Ok-clause-taken g c = search rules

pub returns-in-Err-clause-taken : goal.returns-in-Err-clause-taken
returns-in-Err-clause-taken g c = search rules

pub returns-then-byte-gt-PEEK-clause-taken : goal.returns-then-byte-gt-PEEK-clause-taken
returns-then-byte-gt-PEEK-clause-taken g c = search rules

pub returns-then-self-clause-taken : goal.returns-then-self-clause-taken
returns-then-self-clause-taken g c = search rules

pub returns-then-self-whole-clause-taken : goal.returns-then-self-whole-clause-taken
returns-then-self-whole-clause-taken g c = search rules
