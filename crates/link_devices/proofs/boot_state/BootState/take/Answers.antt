use Rattle.std.proofs.Common.{◌≡◌, ◌==◌, ◌∙◌, ℕ, true, false, refl, sym, arith, eq-eqb, ne_eqb, inl, inr, ◌⊎◌}
use Rattle.link_devices.specs.Memory.{memory_read, memory_write}
use Rattle.link_devices.specs.declared.boot_state.BootState.{BootState}
use Rattle.link_devices.specs.BootStates.{IsBootState, pending_of}
use Rattle.link_devices.proofs.Feeding.{same_taken, same_refused}
use Rattle.link_devices.proofs.boot_state.BootState.take.Goals as goal

-- a state to which nothing has come of a message
empty : (s : BootState) (failed : ℕ) → IsBootState s → (failed ≡ 1) ⊎ (failed ≡ s.failed)
    → IsBootState (record { begun = s.begun; begun_count = 0; failed = failed })
empty s failed h f = record {
  room = h.room;
  most = omega arith;
  partial = tt;
  failed = elim f [ inl one ↦ omega arith | inr same ↦ omega (arith, h.failed) ];
}

pub returns-then-self-eq1 : goal.returns-then-self-eq1
returns-then-self-eq1 c =
    let failed : (c.args.self.now.failed == 1) ≡ true = eq-eqb c.args.self.now.failed 1 c.if-self-eq1.true in
    (c.in-Some.ensures.0, c.in-Some.ensures.0, (failed, refl, failed))

pub returns-in-Ok : goal.returns-in-Ok
returns-in-Ok c =
    let alive : (c.args.self.now.failed == 1) ≡ false = ne_eqb c.args.self.now.failed 1 c.if-self-eq1.false in
    let rest = c.at_rest.ensures.0 c.if-at_rest.true in
    let left : BootState = record { begun = c.args.self.now.begun; begun_count = 0; failed = c.args.self.now.failed } in (
      c.in-Some.ensures.0,
      empty c.args.self.now c.args.self.now.failed c.in-Some.ensures.0 (inr refl),
      same_taken (memory_read c.args.base) (memory_write c.args.base) c.in-Some.end (pending_of c.args.self.now) c.hand.new.end (pending_of left)
          c.args.memory.now c.hand.new.memory c.args.byte
          (c.in-Some.ensures.1 ∙ sym alive) c.in-Some.ensures.2 c.in-Ok.reply (rest.0 ∙ sym alive) rest.1 c.in-Ok.ensures,
    )

pub returns : goal.returns
returns c =
    let alive : (c.args.self.now.failed == 1) ≡ false = ne_eqb c.args.self.now.failed 1 c.if-self-eq1.false in
    let left : BootState = record { begun = c.args.self.now.begun; begun_count = 0; failed = 1 } in (
      c.in-Some.ensures.0,
      empty c.args.self.now 1 c.in-Some.ensures.0 (inl refl),
      same_refused (memory_read c.args.base) (memory_write c.args.base) c.in-Some.end (pending_of c.args.self.now) c.hand.new.end (pending_of left)
          c.args.memory.now c.hand.new.memory c.args.byte
          (c.in-Some.ensures.1 ∙ sym alive) c.in-Some.ensures.2 c.in-Err.fault refl c.in-Err.ensures,
    )
