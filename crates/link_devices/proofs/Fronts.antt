-- Less than a whole message, and its front.
use Rattle.std.proofs.Common.{◌≡◌, ◌<◌, ℕ, zero, suc, List, [], ◌∷◌, ◌++◌, get_or, length, take, refl, sym, ap, ◌∙◌, subst, arith, inl, inr, append-nil, length-take, Option, None, Ok, false}
use Rattle.peek_poke.specs.declared.fault.AnswerFault.{AnswerFault}
use Rattle.peek_poke.specs.declared.fault.AnswerFault.TheVariants.{Boot, Misaligned, Outside, Failed}
use Rattle.peek_poke.specs.declared.message.Message.{Message}
use Rattle.peek_poke.specs.declared.message.Message.TheVariants.{Poke, Peek}
use Rattle.peek_poke.specs.declared.message.TheConstants.{PEEK}
use Rattle.peek_poke.specs.Effects.{HasEffect, Feeds, IsCause}
use Rattle.peek_poke.specs.Messages.{IsMessage, IsPartial, Pending, spell}
use Rattle.peek_poke.proofs.OneText.{one_reading}
use Rattle.link_devices.specs.declared.memory.NoMemory.{NoMemory}
use Rattle.link_devices.specs.Memory.{none_read, none_written}

-- a front of less than a message is less than a message
pub partial_front : (bytes : List ℕ) (n : ℕ) → IsPartial bytes → IsPartial (take n bytes)
partial_front [] n p = subst IsPartial (sym (none n)) tt
  where
    none : (n : ℕ) → take {A = ℕ} n [] ≡ []
    none zero = refl
    none (suc n) = refl
partial_front (c ∷ bytes) zero p = tt
partial_front (c ∷ bytes) (suc n) (inl p) = inl (p.0, omega (arith, p.1, length-take n bytes))
partial_front (c ∷ bytes) (suc n) (inr p) = inr (p.0, omega (arith, p.1, length-take n bytes))

one : (m : Message) → IsMessage m → (k : ℕ) (d : Message) → k < 1 → IsMessage (get_or (m ∷ []) k d)
one m h zero d l = h
one m h (suc k) d l = absurd (omega arith)

none : (k : ℕ) (d : Message) → k < 0 → IsMessage (get_or [] k d)
none k d l = absurd (omega arith)

some_is_none : (m : Message) → ◌≡◌ {A = List Message} (m ∷ []) [] → ⊥
some_is_none m e = cc

-- less than a message is no message
pub no_message : (bytes : List ℕ) (m : Message) → IsMessage m → IsPartial bytes → bytes ≡ spell m → ⊥
no_message bytes m h p e =
    some_is_none m (one_reading (m ∷ []) [] [] bytes (one m h) none tt p (append-nil (spell m ++ []) ∙ append-nil (spell m) ∙ sym e)).0

-- no message takes effect where there is no memory
does_nothing : (s t : NoMemory) (m : Message) (answer : Option (List ℕ)) → HasEffect none_read none_written s m answer t → ⊥
does_nothing s t (Poke address word) answer d = let e = d.1 in cc
does_nothing s t (Peek address) answer d = let e = d.1.2 in cc

-- a byte that is taken there is kept, and nothing is answered
pub waits : (s t : NoMemory) (old new : Pending) (byte : ℕ) (answer : Option (List ℕ)) → Feeds none_read none_written old s byte (Ok answer) new t
    → (new.failed ≡ false) × (new.bytes ≡ old.bytes ++ byte ∷ []) × (answer ≡ None)
waits s t old new byte answer f =
    elim f.2 [
      | inl w ↦ (f.1, w.kept, w.silent)
      | inr e ↦ absurd (does_nothing s t e.message answer e.does)
    ]

high_control : (byte : ℕ) (bytes : List ℕ) → PEEK < byte → IsPartial (byte ∷ bytes) → ⊥
high_control byte bytes h (inl p) = omega (arith, p.0)
high_control byte bytes h (inr p) = omega (arith, p.0)

-- no byte of less than a message is refused
pub taken_there : (s : NoMemory) (old : Pending) (byte : ℕ) (fault : AnswerFault) → old.failed ≡ false → IsPartial (old.bytes ++ byte ∷ [])
    → IsCause none_read none_written old s byte fault → ⊥
taken_there s old byte (Boot control) alive p c = high_control byte [] c.3 (subst IsPartial (ap (λ (t : List ℕ). t ++ byte ∷ []) c.1) p)
taken_there s old byte Misaligned alive p c = no_message (old.bytes ++ byte ∷ []) c.1.0 c.1.1 p c.1.2
taken_there s old byte Outside alive p c = no_message (old.bytes ++ byte ∷ []) c.1.0 c.1.1 p c.1.2
taken_there s old byte Failed alive p c = let both = sym alive ∙ c in cc
