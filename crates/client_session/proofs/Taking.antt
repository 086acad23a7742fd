-- How one read follows another.
use Rattle.std.proofs.Common.{◌≡◌, ◌+◌, ◌<◌, ◌≤◌, ℕ, zero, suc, List, [], ◌++◌, length, Option, Some, None, Result, Ok, Err, IfOk, IfErr, IfSome, MatchOption, subst, refl, sym, ap, ◌∙◌, append_assoc}
use Rattle.std.proofs.Common.{append-nil, arith}
use Rattle.byte_streams.proofs.Carrying.{consumes_none, consumes_then}
use Rattle.client_session.specs.declared.limits.TheConstants.{INPUT_BYTES, LINE_BYTES, MAX_READS}
use Rattle.std.specs.Io.KnownBytes.{IsAtEnd}
use Rattle.client_session.specs.declared.input.InputFault.{InputFault}
use Rattle.client_session.specs.declared.input.InputFault.TheVariants.{Read, Cut, Turns}
use Rattle.client_session.specs.Bytes.{PendingInput, TakesIn, HasLine, IsSessionLine, fuel}
use Rattle.client_session.specs.Faults.{HasBroughtNothing, IsFaultAt}
use Rattle.client_session.specs.declared.pending_line.PendingLine.{PendingLine}
use Rattle.client_session.specs.Steps.{IsFront}

pub TakesIn-none : (a : Option (List ℕ)) (h : PendingInput) → TakesIn a a h h
TakesIn-none a h = record { bytes = []; consumed = consumes_none a; kept = append-nil h.pending }

pub TakesIn-more : (a b c : Option (List ℕ)) (old mid new : PendingInput) → TakesIn a b old mid → TakesIn b c mid new → TakesIn a c old new
TakesIn-more a b c old mid new t u = record {
  bytes = t.bytes ++ u.bytes;
  consumed = consumes_then a b c t.bytes u.bytes t.consumed u.consumed;
  kept = sym (append_assoc old.pending t.bytes u.bytes) ∙ ap (λ l. l ++ u.bytes) t.kept ∙ u.kept;
}

-- what is left falls with each read
pub fuel_read : (old new : PendingInput) → length new.pending ≤ INPUT_BYTES → new.reads ≤ MAX_READS → new.reads ≡ old.reads + 1 → fuel new ≤ fuel old
fuel_read old new room limit counted = omega arith

-- no line is there
pub none_of : (o : Option ℕ) → ((x : ℕ) → o ≡ Some x → ⊥) → o ≡ None
none_of None h = refl
none_of (Some x) h = absurd (h x refl)

-- where no more bytes come, and none are pending
pub found_at_end : (r : Result (Option ℕ) InputFault) (known : Option (List ℕ)) (h : PendingInput) → IsAtEnd known
    → IfOk r (λ found. (found ≡ None) × (h.pending ≡ []))
    → IfOk r (λ found. MatchOption found ((h.pending ≡ []) × IsAtEnd known) (λ n. HasLine h.pending n × (n ≤ LINE_BYTES)))
found_at_end (Ok found) known h end is = rw is.0 (is.1, end)
found_at_end (Err e) known h end is = tt

-- and so a line that is pending is cut
pub cut_at_end : (b : Option (List ℕ)) (r : Result (Option ℕ) InputFault) (old new : PendingInput) → new.pending ≡ old.pending → IsAtEnd b
    → IsSessionLine old.pending → IfErr r (λ e. (e ≡ Cut) × (0 < length new.pending)) → IfErr r (λ e. IsFaultAt e b new)
cut_at_end b (Ok found) old new same end line err = tt
cut_at_end b (Err e) old new same end line err = rw err.0 (subst IsSessionLine (sym same) line, err.1, end)

-- the reader failed, or was asked as often as it may be, before a line was there
pub fault_before : (e : InputFault) (known : Option (List ℕ)) (old new : PendingInput) → IsSessionLine old.pending → HasBroughtNothing e old new
    → IsFaultAt e known new
fault_before Read known old new line none = subst IsSessionLine (sym none.0) line
fault_before Turns known old new line none = subst IsSessionLine (sym none.0) line
fault_before e known old new line none = absurd none.1

-- the line in front stands where it was
pub front_still : (found : Option PendingLine) (old new : PendingInput) → IfSome found (IsFront old.pending) → IfSome found (λ _. new ≡ old)
    → IfSome found (IsFront new.pending)
front_still None old new is same = tt
front_still (Some front) old new is same = rw same is
