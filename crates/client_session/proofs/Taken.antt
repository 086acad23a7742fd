-- How lines are taken one by one from what was read.
use Rattle.std.proofs.Common.{◌≡◌, ℕ, ◌+◌, ◌≤◌, List, [], ◌∷◌, ◌++◌, length, take, drop, flat_map, Option, sym, ap, ◌∙◌, append_assoc, append-nil, refl, arith}
use Rattle.std.proofs.Math.Seq.{length-take-le}
use Rattle.std.proofs.lemmas.List.{take_more, take-append-drop, length_push, length-append}
use Rattle.std.proofs.lemmas.Grind.{flat_map-append}
use Rattle.byte_streams.proofs.Carrying.{consumes_none, consumes_then}
use Rattle.client_session.specs.Bytes.{PendingInput, HasLine, IsSessionLine, TakesIn}
use Rattle.client_session.specs.Faults.{IsFaultAt}
use Rattle.client_session.specs.declared.input.InputFault.{InputFault}
use Rattle.client_session.specs.declared.input.InputFault.TheVariants as input
use Rattle.client_session.specs.declared.limits.TheConstants.{LINE_BYTES}
use Rattle.client_session.specs.Replies.{with_feed}
use Rattle.client_session.specs.Steps.{LinesTaken, PendingAt, of_input}
use Rattle.client_session.proofs.Lists.{every-push}

-- a line with its line feed is the first n + 1 bytes
pub line_front : (bytes : List ℕ) (n : ℕ) → HasLine bytes n → with_feed (take n bytes) ≡ take (n + 1) bytes
line_front bytes n has = sym (take_more bytes n 0 has.0 ∙ ap (λ b. take n bytes ++ b ∷ []) has.1)

pub line_is : (bytes : List ℕ) (n : ℕ) → HasLine bytes n → n ≤ LINE_BYTES → IsSessionLine (take n bytes)
line_is bytes n has short = (has.2, omega (arith, length-take-le n bytes (omega (arith, has.0))))

pub LinesTaken-none : (a : Option (List ℕ)) (h : PendingInput) (text : List ℕ) → LinesTaken a a h h text text 0
LinesTaken-none a h text = record {
  bytes = [];
  consumed = consumes_none a;
  lines = [];
  each = tt;
  count = refl;
  text = sym (append-nil text);
  kept = append-nil h.pending;
}

pub LinesTaken-read : (a b c : Option (List ℕ)) (old mid new : PendingInput) (before after : List ℕ) (n : ℕ) → LinesTaken a b old mid before after n
    → TakesIn b c mid new → LinesTaken a c old new before after n
LinesTaken-read a b c old mid new before after n t more = record {
  bytes = t.bytes ++ more.bytes;
  consumed = consumes_then a b c t.bytes more.bytes t.consumed more.consumed;
  lines = t.lines;
  each = t.each;
  count = t.count;
  text = t.text;
  kept = sym (append_assoc old.pending t.bytes more.bytes) ∙ ap (λ l. l ++ more.bytes) t.kept
      ∙ append_assoc (flat_map with_feed t.lines) mid.pending more.bytes ∙ ap (λ l. flat_map with_feed t.lines ++ l) more.kept;
}

pub LinesTaken-line : (a b : Option (List ℕ)) (old mid new : PendingInput) (before after text : List ℕ) (n k : ℕ) → LinesTaken a b old mid before after n
    → HasLine mid.pending k → k ≤ LINE_BYTES → text ≡ after ++ take (k + 1) mid.pending → new.pending ≡ drop (k + 1) mid.pending
    → LinesTaken a b old new before text (n + 1)
LinesTaken-line a b old mid new before after text n k t has short grows rest =
    let line : List ℕ = take k mid.pending in
    let front = line_front mid.pending k has in
    let flat : flat_map with_feed (t.lines ++ line ∷ []) ≡ flat_map with_feed t.lines ++ take (k + 1) mid.pending =
    flat_map-append with_feed t.lines (line ∷ []) ∙ ap (λ l. flat_map with_feed t.lines ++ l) (append-nil _ ∙ front) in
    record {
      bytes = t.bytes;
      consumed = t.consumed;
      lines = t.lines ++ line ∷ [];
      each = every-push IsSessionLine t.lines line t.each (line_is mid.pending k has short);
      count = omega (arith, length_push t.lines line, t.count);
      text = grows ∙ ap (λ l. l ++ take (k + 1) mid.pending) t.text ∙ append_assoc before _ _ ∙ ap (λ l. before ++ l) (sym flat);
      kept = t.kept ∙ ap (λ l. flat_map with_feed t.lines ++ l) (sym (take-append-drop (k + 1) mid.pending))
          ∙ sym (append_assoc (flat_map with_feed t.lines) _ _) ∙ ap (λ l. l ++ drop (k + 1) mid.pending) (sym flat)
          ∙ ap (λ l. flat_map with_feed (t.lines ++ line ∷ []) ++ l) (sym rest);
    }

pub pending_at : (e : InputFault) (known : Option (List ℕ)) (h : PendingInput) → IsFaultAt e known h → PendingAt (of_input e) known h
pending_at input.Cut known h at = (at.0, at.2)
pending_at e known h at = at
