-- A text is that of one list of messages.
use Rattle.std.proofs.Common.{ℕ, ◌≡◌, ◌<◌, ◌^◌, List, [], ◌∷◌, ◌++◌, length, take, drop, get_or, refl, sym, ap, ap₂, ◌∙◌, arith, inl, inr, append_assoc, length-append}
use Rattle.std.specs.List.{flat_map}
use Rattle.std.proofs.lemmas.List.{append_cancel_left}
use Rattle.std.proofs.lemmas.List.Elements.{All-head, All-tail}
use Rattle.std.proofs.Math.Seq.{take-append_seam}
use Rattle.peek_poke.specs.declared.message.TheConstants.{POKE, PEEK, REPLY_BYTES}
use Rattle.peek_poke.specs.declared.message.Message.{Message}
use Rattle.peek_poke.specs.declared.message.Message.TheVariants.{Poke, Peek}
use Rattle.peek_poke.specs.Messages.{word_bytes, spell, IsMessage, IsPartial}
use Rattle.peek_poke.specs.Laws.{OneReading}
use Rattle.peek_poke.proofs.WholeText.{same_words}

-- the bytes of two words at the front of a list
same_front : (a b : ℕ) (x y : List ℕ) → a < 2 ^ 32 → b < 2 ^ 32 → word_bytes a ++ x ≡ word_bytes b ++ y → (a ≡ b) × (x ≡ y)
same_front a b x y h k e =
    let bytes : word_bytes a ≡ word_bytes b = sym (take-append_seam (word_bytes a) x) ∙ ap (take REPLY_BYTES) e ∙ take-append_seam (word_bytes b) y in
    (same_words a b h k bytes, append_cancel_left (word_bytes b) x y (ap (λ (z : List ℕ). z ++ x) (sym bytes) ∙ e))

two_words : (a v : ℕ) (x : List ℕ) → (word_bytes a ++ word_bytes v) ++ x ≡ word_bytes a ++ (word_bytes v ++ x)
two_words a v x = append_assoc (word_bytes a) (word_bytes v) x

head_of : (xs ys : List ℕ) → xs ≡ ys → get_or xs 0 0 ≡ get_or ys 0 0
head_of xs ys e = ap (λ (z : List ℕ). get_or z 0 0) e

poke_is_no_peek : ◌≡◌ {A = ℕ} POKE PEEK → ⊥
poke_is_no_peek e = omega arith

made_poke : (a b v w : ℕ) → a ≡ b → v ≡ w → Poke a v ≡ Poke b w
made_poke a b v w e f = cc

-- no message begins another
same_message : (m n : Message) (x y : List ℕ) → IsMessage m → IsMessage n → spell m ++ x ≡ spell n ++ y → (m ≡ n) × (x ≡ y)
same_message (Poke a v) (Poke b w) x y h k e =
    let behind : (word_bytes a ++ word_bytes v) ++ x ≡ (word_bytes b ++ word_bytes w) ++ y = ap (drop 1) e in
    let first = same_front a b (word_bytes v ++ x) (word_bytes w ++ y) h.0 k.0 (sym (two_words a v x) ∙ behind ∙ two_words b w y) in
    let second = same_front v w x y h.1 k.1 first.1 in
    (made_poke a b v w first.0 second.0, second.1)
same_message (Poke a v) (Peek b) x y h k e = absurd (poke_is_no_peek (head_of _ _ e))
same_message (Peek a) (Poke b w) x y h k e = absurd (poke_is_no_peek (sym (head_of _ _ e)))
same_message (Peek a) (Peek b) x y h k e =
    let behind : word_bytes a ++ x ≡ word_bytes b ++ y = ap (drop 1) e in
    let first = same_front a b x y h k behind in
    (ap (λ (z : ℕ). Peek z) first.0, first.1)

-- less than a message is none
partial_no_message : (rest : List ℕ) (m : Message) (x : List ℕ) → IsPartial rest → rest ≡ spell m ++ x → ⊥
partial_no_message [] (Poke a v) x p e = cc
partial_no_message [] (Peek a) x p e = cc
partial_no_message (c ∷ bytes) (Poke a v) x (inl p) e =
    let long : length bytes ≡ length ((word_bytes a ++ word_bytes v) ++ x) = ap (λ (z : List ℕ). length (drop 1 z)) e in
    omega (arith, long, p.1, length-append (word_bytes a ++ word_bytes v) x)
partial_no_message (c ∷ bytes) (Poke a v) x (inr p) e = poke_is_no_peek (sym (head_of (c ∷ bytes) _ e) ∙ p.0)
partial_no_message (c ∷ bytes) (Peek a) x (inl p) e = poke_is_no_peek (sym p.0 ∙ head_of (c ∷ bytes) _ e)
partial_no_message (c ∷ bytes) (Peek a) x (inr p) e =
    let long : length bytes ≡ length (word_bytes a ++ x) = ap (λ (z : List ℕ). length (drop 1 z)) e in
    omega (arith, long, p.1, length-append (word_bytes a) x)

pub one_reading : OneReading
one_reading [] [] rest left p q r l e = (refl, e)
one_reading [] (n ∷ ns) rest left p q r l e =
    absurd (partial_no_message rest n (flat_map spell ns ++ left) r (e ∙ append_assoc (spell n) (flat_map spell ns) left))
one_reading (m ∷ ms) [] rest left p q r l e =
    absurd (partial_no_message left m (flat_map spell ms ++ rest) l (sym e ∙ append_assoc (spell m) (flat_map spell ms) rest))
one_reading (m ∷ ms) (n ∷ ns) rest left p q r l e =
    let first = same_message m n (flat_map spell ms ++ rest) (flat_map spell ns ++ left) (All-head IsMessage m ms p) (All-head IsMessage n ns q)
    (sym (append_assoc (spell m) (flat_map spell ms) rest) ∙ e ∙ append_assoc (spell n) (flat_map spell ns) left) in
    let more = one_reading ms ns rest left (All-tail IsMessage m ms p) (All-tail IsMessage n ns q) r l first.1 in
    (ap₂ (λ (z : Message) (zs : List Message). z ∷ zs) first.0 more.0, more.1)
