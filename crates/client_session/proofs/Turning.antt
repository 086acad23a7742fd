-- One command taken from the input, and what a fault leaves.
use Rattle.std.proofs.Common.{◌≡◌, ℕ, ◌+◌, ◌<◌, ◌≤◌, List, [], ◌∷◌, ◌++◌, length, take, drop, flat_map, Option, Some, Result, Ok, Err, IfErr, OnOk, Bool, false, MatchBool, sym, ap, ◌∙◌, append_assoc}
use Rattle.std.proofs.Common.{append-nil, refl, subst, arith, inr}
use Rattle.std.proofs.lemmas.List.{take-append-drop, length-append, length-drop}
use Rattle.std.proofs.lemmas.Bool.{lt-ltb, le-ltb}
use Rattle.batch.specs.declared.limits.TheConstants.{MAX_TRANSFERS}
use Rattle.byte_streams.proofs.Carrying.{consumes_none}
use Rattle.client_session.specs.declared.limits.TheConstants.{INPUT_BYTES, LINE_BYTES}
use Rattle.client_session.specs.declared.command.SessionCommand.{SessionCommand}
use Rattle.client_session.specs.declared.command.SessionCommand.TheVariants.{Batch, Bye}
use Rattle.client_session.specs.declared.fault.ServeFault.{ServeFault}
use Rattle.client_session.specs.declared.fault.ServeFault.TheVariants.{Read, LineTooLong, Cut, Turns, NoMemory, Record}
use Rattle.client_session.specs.Bytes.{PendingInput, HasLine, fuel}
use Rattle.client_session.specs.Commands.{Means}
use Rattle.client_session.specs.Seats.{SeatView}
use Rattle.client_session.specs.Replies.{with_feed}
use Rattle.batch_book.specs.declared.entry.Entry.{Entry}
use Rattle.client_session.specs.Turns.{CommandOutcome, Submits, DoesCommand, MayHaveAdded, SessionGoesOn, lines_after}
use Rattle.client_session.specs.Sessions.{BeginsBatch, IsPartialCommand, RestAt}
use Rattle.client_session.specs.Steps.{Acts, Breaks, IsDoneOrFailed, LinesTaken, LinesStopped, PendingAt, StandsAlone, TurnFails, TurnLost, TurnTaken, TurnStopped}
use Rattle.client_session.specs.Asking.{GivesEachTime, GivesOrStops}
use Rattle.client_session.proofs.Asking.{stops_here}
use Rattle.client_session.proofs.Taken.{line_front, line_is}

pub fuel_skip : (old new : PendingInput) (k : ℕ) → new.pending ≡ drop (k + 1) old.pending → new.reads ≡ old.reads → k < length old.pending → fuel new < fuel old
fuel_skip old new k e r h = omega (arith, ap length e, length-drop (k + 1) old.pending, r)

-- the line in front, and what stands after it
pub front_is : (bytes : List ℕ) (n : ℕ) → HasLine bytes n → bytes ≡ with_feed (take n bytes) ++ drop (n + 1) bytes
front_is bytes n has = sym (take-append-drop (n + 1) bytes) ∙ ap (λ l. l ++ drop (n + 1) bytes) (sym (line_front bytes n has))

-- there was no memory for the first line of a batch
pub stopped_at_once : (a : Option (List ℕ)) (old : PendingInput) (seat : SeatView) (n count : ℕ) → HasLine old.pending n → n ≤ LINE_BYTES
    → length old.pending ≤ INPUT_BYTES → BeginsBatch (take n old.pending) count → TurnStopped NoMemory a a old seat seat
stopped_at_once a old seat n count has short room begins = record {
  bytes = [];
  consumed = consumes_none a;
  same = refl;
  rest = record {
    head = take n old.pending;
    body = [];
    part = drop (n + 1) old.pending;
    count = count;
    each = (line_is old.pending n has short, tt);
    begins = begins;
    belong = omega arith;
    room = omega (arith, room, length-drop (n + 1) old.pending);
    whole = append-nil old.pending ∙ front_is old.pending n has ∙ ap (λ l. l ++ drop (n + 1) old.pending) (sym (append-nil (with_feed (take n old.pending))));
  };
}

-- all that is left after the first lines of a batch
lines_are : (a b : Option (List ℕ)) (old mid new : PendingInput) (n k : ℕ) (before after : List ℕ) → HasLine old.pending n → mid.pending
    ≡ drop (n + 1) old.pending → (t : LinesTaken a b mid new before after k)
    → old.pending ++ t.bytes ≡ (with_feed (take n old.pending) ++ flat_map with_feed t.lines) ++ new.pending
lines_are a b old mid new n k before after has rest t =
    ap (λ l. l ++ t.bytes) (front_is old.pending n has) ∙ append_assoc (with_feed (take n old.pending)) _ _
    ∙ ap (λ l. with_feed (take n old.pending) ++ l) (ap (λ l. l ++ t.bytes) (sym rest) ∙ t.kept)
    ∙ sym (append_assoc (with_feed (take n old.pending)) _ _)

-- a fault came in the lines of a batch
pub stopped_in_lines : (e : ServeFault) (a b : Option (List ℕ)) (old mid new : PendingInput) (seat : SeatView) (n count : ℕ) (before after : List ℕ)
    → HasLine old.pending n → n ≤ LINE_BYTES
    → BeginsBatch (take n old.pending) count → mid.pending ≡ drop (n + 1) old.pending → LinesStopped e a b mid new before after count
    → TurnStopped e a b old seat seat
stopped_in_lines e a b old mid new seat n count before after has short begins rest s = record {
  bytes = t.bytes;
  consumed = t.consumed;
  same = refl;
  rest = left e s.at;
} where
  t : LinesTaken a b mid new before after s.n
  t = s.taken

  whole : old.pending ++ t.bytes ≡ (with_feed (take n old.pending) ++ flat_map with_feed t.lines) ++ new.pending
  whole = lines_are a b old mid new n s.n before after has rest t

  part : IsPartialCommand (old.pending ++ t.bytes)
  part = record {
    lines = take n old.pending ∷ t.lines;
    part = new.pending;
    each = (line_is old.pending n has short, t.each);
    short = (count, begins, omega (arith, t.count, s.fewer));
    whole = whole;
  }

  left : (e : ServeFault) → PendingAt e b new → RestAt e b (old.pending ++ t.bytes)
  left Read h = (part, h)
  left LineTooLong h = (part, h.0, h.1)
  left Cut h = (part, h.0, omega (arith, length-append old.pending t.bytes, has.0), h.1)
  left Turns h = (part, h)
  left NoMemory h = record {
    head = take n old.pending;
    body = t.lines;
    part = new.pending;
    count = count;
    each = (line_is old.pending n has short, t.each);
    begins = begins;
    belong = omega (arith, t.count, s.fewer);
    room = h;
    whole = whole;
  }
  left e h = absurd h

-- so it is none of recording
pub lines_unlost : (e : ServeFault) (a b : Option (List ℕ)) (old new : PendingInput) (before after : List ℕ) (wanted : ℕ) → e ≡ Record
    → LinesStopped e a b old new before after wanted → ⊥
lines_unlost e a b old new before after wanted is s = subst (λ (x : ServeFault). PendingAt x b new) is s.at

-- a fault came first
pub fails : (e : ServeFault) (a b : Option (List ℕ)) (old : PendingInput) (from to : SeatView) → TurnStopped e a b old from to → TurnFails e a b old from to
fails Record a b old from to s = absurd s.rest
fails e a b old from to s = s

-- a call wasn't made
lost_as : (e : ServeFault) (a b : Option (List ℕ)) (old : PendingInput) (from to : SeatView) → e ≡ Record → TurnLost a b old from to
    → TurnFails e a b old from to
lost_as e a b old from to is lost = subst (λ (x : ServeFault). TurnFails x a b old from to) (sym is) lost

few_after : (count : ℕ) → count ≤ MAX_TRANSFERS → lines_after (Some (Batch count)) ≡ count
few_after count most = rw (le-ltb MAX_TRANSFERS count most) refl

many_after : (count : ℕ) → MAX_TRANSFERS < count → lines_after (Some (Batch count)) ≡ 0
many_after count many = rw (lt-ltb MAX_TRANSFERS count many) refl

-- a batch was taken whole, and submitted
pub batch_taken : (a b : Option (List ℕ)) (old mid new : PendingInput) (from to : SeatView) (n count : ℕ) (before after all line : List ℕ)
    → HasLine old.pending n → n ≤ LINE_BYTES
    → BeginsBatch (take n old.pending) count → mid.pending ≡ drop (n + 1) old.pending → before ≡ take (n + 1) old.pending → LinesTaken a b mid new before after
    count
    → all ≡ after → Acts from to (Submits from.shape from.session all) line → TurnTaken a b old new from to line false
batch_taken a b old mid new from to n count before after all line has short begins rest first t same acts =
    let head : List ℕ = take n old.pending in
    let text : all ≡ with_feed head ++ flat_map with_feed t.lines = same ∙ t.text ∙ ap (λ l. l ++ flat_map with_feed t.lines)
    (first ∙ sym (line_front old.pending n has)) in
    record {
      turn = record { head = head; body = t.lines; command = Some (Batch count); did = acts.answer };
      is = record {
        head = line_is old.pending n has short;
        body = t.each;
        means = begins.0;
        whole = t.count ∙ sym (few_after count begins.1);
        does = inr (begins.1, subst (λ (l : List ℕ). Submits from.shape from.session l acts.answer) text acts.is_so);
      };
      bytes = t.bytes;
      consumed = t.consumed;
      kept = lines_are a b old mid new n count before after has rest t;
      did = acts.did;
      line_is = acts.line_is;
      last = tt;
    }

-- it was taken whole, and not submitted
pub batch_lost : (e : ServeFault) (a b : Option (List ℕ)) (old mid new : PendingInput) (from to : SeatView) (n count : ℕ) (before after : List ℕ)
    → HasLine old.pending n → n ≤ LINE_BYTES
    → BeginsBatch (take n old.pending) count → mid.pending ≡ drop (n + 1) old.pending → LinesTaken a b mid new before after count
    → Breaks e from to (λ (es : List Entry). es ≡ []) → TurnFails e a b old from to
batch_lost e a b old mid new from to n count before after has short begins rest t broken = lost_as e a b old from to broken.fault_is record {
  turn = record { head = take n old.pending; body = t.lines; command = Some (Batch count); entries = broken.entries };
  is = record {
    head = line_is old.pending n has short;
    body = t.each;
    means = begins.0;
    whole = t.count ∙ sym (few_after count begins.1);
    begun =
        broken.begun;
  };
  bytes = t.bytes;
  consumed = t.consumed;
  rest = new.pending;
  kept = lines_are a b old mid new n count before after has rest t;
  goes_on = broken.goes_on;
  asked = broken.asked;
}

-- either, by what came of it
pub batch_done : {T : Type 0} (r : Result T ServeFault) (a b : Option (List ℕ)) (old mid new : PendingInput) (from to : SeatView) (n count : ℕ)
    (before after all line : List ℕ) → HasLine old.pending n → n ≤ LINE_BYTES
    → BeginsBatch (take n old.pending) count → mid.pending ≡ drop (n + 1) old.pending → before ≡ take (n + 1) old.pending → LinesTaken a b mid new before after
    count
    → all ≡ after → IsDoneOrFailed from to (Submits from.shape from.session all) (λ (es : List Entry). es ≡ []) line r
    → OnOk r (TurnTaken a b old new from to line false) × IfErr r (λ e. TurnFails e a b old from to)
batch_done (Ok x) a b old mid new from to n count before after all line has short begins rest first t same acts =
    (batch_taken a b old mid new from to n count before after all line has short begins rest first t same acts, tt)
batch_done (Err e) a b old mid new from to n count before after all line has short begins rest first t same broken =
    (tt, batch_lost e a b old mid new from to n count before after has short begins rest t broken)

-- the reader isn't asked by what is done then
pub asked_then : {T : Type 0} (r : Result T ServeFault) {a b : Option ℕ} {k l : ℕ} (from to : SeatView) (IsSo : CommandOutcome → Type 0)
    (HasBegun : List Entry → Type 0) (line : List ℕ) → GivesEachTime a b k l → IsDoneOrFailed from to IsSo HasBegun line r → GivesOrStops a b k l r
asked_then (Ok x) from to IsSo HasBegun line gives acts = gives
asked_then (Err e) from to IsSo HasBegun line gives broken = rw broken.fault_is (stops_here (Some Record) gives (λ few. few))

none_after : (command : Option SessionCommand) → StandsAlone command → lines_after command ≡ 0
none_after (Some (Batch count)) h = many_after count h
none_after command h = refl

-- a command with no lines after its own was taken, and done
pub alone_taken : (a : Option (List ℕ)) (old new : PendingInput) (from to : SeatView) (n : ℕ) (command : Option SessionCommand) (line : List ℕ) (ends : Bool)
    → HasLine old.pending n → n ≤ LINE_BYTES
    → Means (take n old.pending) command → StandsAlone command → new.pending ≡ drop (n + 1) old.pending
    → ((text : List ℕ) → Acts from to (DoesCommand from.shape from.session command text) line) → MatchBool ends (command ≡ Some Bye) (SessionGoesOn command)
    → TurnTaken a a old new from to line ends
alone_taken a old new from to n command line ends has short means alone rest acts last =
    let done = acts (with_feed (take n old.pending) ++ []) in
    record {
      turn = record { head = take n old.pending; body = []; command = command; did = done.answer };
      is = record {
        head = line_is old.pending n has short;
        body = tt;
        means = means;
        whole = sym (none_after command alone);
        does = done.is_so;
      };
      bytes = [];
      consumed = consumes_none a;
      kept = append-nil old.pending ∙ front_is old.pending n has ∙ ap (λ l. with_feed (take n old.pending) ++ l) (sym rest)
          ∙ ap (λ l. l ++ new.pending) (sym (append-nil (with_feed (take n old.pending))));
      did = done.did;
      line_is = done.line_is;
      last = last;
    }

-- a call of it wasn't made
pub alone_lost : (e : ServeFault) (a : Option (List ℕ)) (old new : PendingInput) (from to : SeatView) (n : ℕ) (command : Option SessionCommand)
    → HasLine old.pending n → n ≤ LINE_BYTES
    → Means (take n old.pending) command → StandsAlone command → new.pending ≡ drop (n + 1) old.pending → Breaks e from to (MayHaveAdded from.session command)
    → TurnFails e a a old from to
alone_lost e a old new from to n command has short means alone rest broken = lost_as e a a old from to broken.fault_is record {
  turn = record { head = take n old.pending; body = []; command = command; entries = broken.entries };
  is = record { head = line_is old.pending n has short; body = tt; means = means; whole = sym (none_after command alone); begun = broken.begun };
  bytes = [];
  consumed = consumes_none a;
  rest = new.pending;
  kept = append-nil old.pending ∙ front_is old.pending n has ∙ ap (λ l. with_feed (take n old.pending) ++ l) (sym rest)
      ∙ ap (λ l. l ++ new.pending) (sym (append-nil (with_feed (take n old.pending))));
  goes_on = broken.goes_on;
  asked = broken.asked;
}
