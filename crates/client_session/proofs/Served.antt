-- A session so far, and its ends.
use Rattle.std.proofs.Common.{◌≡◌, ℕ, ◌+◌, ◌<◌, ◌≤◌, List, [], ◌∷◌, ◌++◌, length, flat_map, Option, Some, None, Result, Ok, Err, IfErr, OnOk, Bool, true, false, true≢false, sym, ap, ◌∙◌, append_assoc}
use Rattle.std.proofs.Common.{append-nil, refl, subst, arith, inl, inr}
use Rattle.std.proofs.lemmas.Grind.{flat_map-append}
use Rattle.std.proofs.lemmas.List.{append_cancel_left, length_push, length-append}
use Rattle.std.specs.Io.KnownBytes.{IsAtEnd}
use Rattle.std.specs.List.{AllByRecursion}
use Rattle.std.specs.Result.{result_and}
use Rattle.batch_book.specs.declared.entry.Entry.{Entry}
use Rattle.byte_streams.proofs.Carrying.{appends_none, appends_then, consumes_none, consumes_then}
use Rattle.client_session.specs.declared.input.InputFault.{InputFault}
use Rattle.client_session.specs.declared.input.InputFault.TheVariants as input
use Rattle.client_session.specs.declared.fault.ServeFault.{ServeFault}
use Rattle.client_session.specs.declared.fault.ServeFault.TheVariants.{Read, Write, LineTooLong, Cut, Turns, Record}
use Rattle.batch.specs.ShapeView.{ShapeView}
use Rattle.batch_book.specs.Seats.{SeatState, IsSameSeat}
use Rattle.batch_book.proofs.Fronts.{starts, starts_same, starts_then}
use Rattle.client_session.specs.declared.limits.TheConstants.{REPLY_BUFFER_BYTES}
use Rattle.client_session.specs.Bytes.{PendingInput, TakesIn}
use Rattle.client_session.specs.Faults.{IsFaultAt}
use Rattle.client_session.specs.Seats.{SeatView, GoesOnFrom, seat_view}
use Rattle.client_session.specs.Turns.{Turn, IsTurn, LostTurn, IsLostTurn, SessionGoesOn, lost_text, turn_text}
use Rattle.client_session.specs.Sessions.{IsSession, IsPartialCommand, IsAllRecorded, IsBroken, IsCutOff, IsEndOfLastLine, IsHolding, IsWholeSession, RestAt, GoOn, MayEnd, HasEnded, HoldsAtEnd}
use Rattle.client_session.specs.Sessions.{GoesThrough, cuts_off, fault_in, lines_of, lost_entries, lost_texts}
use Rattle.client_session.specs.Steps.{AreTold, AreUntold, MayTell, TurnFails, TurnLost, TurnTaken, TurnStopped, of_input}
use Rattle.client_session.proofs.Lists.{every-push}
use Rattle.client_session.proofs.Doing.{stays, goes_on}
use Rattle.client_session.proofs.Readings.{HaveShown, readings_later, readings_none, readings_push, shown_push}

-- The commands so far, and what is pending after them. Where no entry can be lost, at most so many
-- reply lines are held.
pub record Going (most : ℕ) (from to : SeatView) (h : PendingInput) (held bytes : List ℕ) (entries : List Entry) (written : List ℕ) : Type 0 where
  pub holding : IsHolding from to bytes h.pending entries written held
  pub few : from.loses ≡ false → length holding.waiting ≤ most
  pub go_on : GoOn holding.all
  pub have_shown : HaveShown to.seen holding.all

abbrev pub Serving : ℕ → (a b w v : Option (List ℕ)) (from to : SeatView) → PendingInput → List ℕ → Type 0
Serving most a b w v from to h held = GoesThrough a b w v from to (Going most from to h held)

-- how a session has ended
abbrev pub Ends : (a b w v : Option (List ℕ)) (from to : SeatView) → Option ServeFault → Type 0
Ends a b w v from to fault = GoesThrough a b w v from to (HasEnded fault b from to)

-- the same, but for the lines that are held
abbrev pub Holds : (a b w v : Option (List ℕ)) (from to : SeatView) → List ℕ → Option ServeFault → Type 0
Holds a b w v from to held fault = GoesThrough a b w v from to (HoldsAtEnd fault b held from to)

-- the same has passed, and more is known of it
so : {a b w v : Option (List ℕ)} {from to : SeatView} {P Q : List ℕ → List Entry → List ℕ → Type 0} (p : GoesThrough a b w v from to P)
    → Q p.bytes p.entries p.written → GoesThrough a b w v from to Q
so p q = record {
  bytes = p.bytes;
  entries = p.entries;
  written = p.written;
  consumed = p.consumed;
  asked = p.asked;
  appended = p.appended;
  is_so = q;
}

pub Serving-none : (a w : Option (List ℕ)) (p : SeatView) (h : PendingInput) (held : List ℕ) → h.pending ≡ [] → held ≡ []
    → Serving 1 a a w w p p h held
Serving-none a w p h held e none = subst (Serving 1 a a w w p p h) (sym none) record {
  bytes = [];
  entries = [];
  written = [];
  consumed = consumes_none a;
  asked = sym (append-nil p.asked);
  appended = appends_none w;
  is_so = record {
    holding = record {
      all = [];
      turns = [];
      waiting = [];
      are = refl;
      session = record { each = tt; bytes_are = sym e; entries_are = refl; text_is = refl; readings = readings_none p; seat = stays p };
      told = refl;
      recorded = starts_same _ p.log (append-nil p.log);
      one = λ all. omega arith;
    };
    few = λ all. omega arith;
    go_on = tt;
    have_shown = tt;
  };
}

session_read : (from to : SeatView) (turns : List Turn) (bytes more pending grown : List ℕ) (entries : List Entry) (written : List ℕ)
    → IsSession false from to turns bytes pending entries written → pending ++ more ≡ grown → IsSession false from to turns (bytes ++ more) grown entries
    written
session_read from to turns bytes more pending grown entries written s e = record {
  each = s.each;
  bytes_are = ap (λ l. l ++ more) s.bytes_are ∙ append_assoc (flat_map turn_text turns) pending more ∙ ap (λ l. flat_map turn_text turns ++ l) e;
  entries_are = s.entries_are;
  text_is = s.text_is;
  readings = s.readings;
  seat = s.seat;
}

abbrev holding_read : (from to : SeatView) (bytes more pending grown : List ℕ) (entries : List Entry) (written held : List ℕ)
    (h : IsHolding from to bytes pending entries written held) → pending ++ more ≡ grown → IsHolding from to (bytes ++ more) grown entries written held
holding_read from to bytes more pending grown entries written held h e = record {
  all = h.all;
  turns = h.turns;
  waiting = h.waiting;
  are = h.are;
  session = session_read from to h.all bytes more pending grown entries (written ++ held) h.session e;
  told = h.told;
  recorded = h.recorded;
  one = h.one;
}

Serving-read : (most : ℕ) (a b c w v : Option (List ℕ)) (from to : SeatView) (old new : PendingInput) (held : List ℕ) → Serving most a b w v from to old held
    → TakesIn b c old new → Serving most a c w v from to new held
Serving-read most a b c w v from to old new held p more = record {
  bytes = p.bytes ++ more.bytes;
  entries = p.entries;
  written = p.written;
  consumed = consumes_then a b c p.bytes more.bytes p.consumed more.consumed;
  asked = p.asked;
  appended = p.appended;
  is_so = let s = p.is_so in record {
    holding = holding_read from to p.bytes more.bytes old.pending new.pending p.entries p.written held s.holding more.kept;
    few = s.few;
    go_on = s.go_on;
    have_shown = s.have_shown;
  };
}

-- ---- what was held is told

-- all that the seat asked can be told
abbrev told_seat : SeatView → SeatView
told_seat p = record p { log = p.asked }

-- where nothing waited as the session began, what could be told goes on from that
all_asked : (from to : SeatView) (entries : List Entry) → IsAllRecorded from → to.asked ≡ from.asked ++ entries → from.log ++ entries ≡ to.asked
all_asked from to entries was asked = ap (λ l. l ++ entries) was ∙ sym asked

session_told : (from to : SeatView) (turns : List Turn) (bytes rest : List ℕ) (entries : List Entry) (text : List ℕ) → IsAllRecorded from → to.asked
    ≡ from.asked ++ entries → IsSession false from to turns bytes rest entries text → IsSession false from (told_seat to) turns bytes rest entries text
session_told from to turns bytes rest entries text was asked s = record {
  each = s.each;
  bytes_are = s.bytes_are;
  entries_are = s.entries_are;
  text_is = s.text_is;
  readings = s.readings;
  seat = record {
    exchange = s.seat.exchange;
    shape = s.seat.shape;
    loses = s.seat.loses;
    session = s.seat.session;
    parts = s.seat.parts;
    log = starts from.log to.asked entries (sym (all_asked from to entries was asked));
    seen = s.seat.seen;
    broken = s.seat.broken;
  };
}

abbrev holding_told : (from to : SeatView) (bytes rest : List ℕ) (entries : List Entry) (written held : List ℕ) → IsAllRecorded from → to.asked ≡ from.asked
    ++ entries → IsHolding from to bytes rest entries written held → IsHolding from (told_seat to) bytes rest entries (written ++ held) []
holding_told from to bytes rest entries written held was asked h =
    let s = session_told from to h.all bytes rest entries (written ++ held) was asked h.session in record {
      all = h.all;
      turns = h.all;
      waiting = [];
      are = sym (append-nil h.all);
      session = subst (IsSession false from (told_seat to) h.all bytes rest entries) (sym (append-nil (written ++ held))) s;
      told = h.session.text_is;
      recorded = starts_same _ to.asked (ap (λ l. from.log ++ l) (sym h.session.entries_are) ∙ all_asked from to entries was asked);
      one = λ all. omega arith;
    }

pub Serving-told : (a b w v u : Option (List ℕ)) (from to next : SeatView) (h : PendingInput) (held : List ℕ) → IsAllRecorded from
    → Serving 1 a b w v from to h held → AreTold to next v u held → Serving 0 a b w u from next h []
Serving-told a b w v u from to next h held was p t = subst (λ (q : SeatView). Serving 0 a b w u from q h []) (sym t.seat) record {
  bytes = p.bytes;
  entries = p.entries;
  written = p.written ++ held;
  consumed = p.consumed;
  asked = p.asked;
  appended = appends_then w v u p.written held p.appended t.appended;
  is_so = record {
    holding = holding_told from to p.bytes h.pending p.entries p.written held was p.asked p.is_so.holding;
    few = λ all. omega arith;
    go_on = p.is_so.go_on;
    have_shown = p.is_so.have_shown;
  };
}

-- they are held still, where an entry can be lost
Serving-held : (a b w v : Option (List ℕ)) (from to : SeatView) (h : PendingInput) (held : List ℕ) → Serving 1 a b w v from to h held → to.loses ≡ true
    → Serving 0 a b w v from to h held
Serving-held a b w v from to h held p loses =
    let s = p.is_so in
    so p (record {
      holding = s.holding;
      few = λ none. absurd (true≢false (sym loses ∙ s.holding.session.seat.loses ∙ none));
      go_on = s.go_on;
      have_shown =
          s.have_shown;
    })

Serving-first : (a b w v u : Option (List ℕ)) (from to next : SeatView) (h : PendingInput) (held still : List ℕ) → IsAllRecorded from
    → Serving 1 a b w v from to h held → MayTell to next v u held still → Serving 0 a b w u from next h still
Serving-first a b w v u from to next h held still was p (inl t) = subst (Serving 0 a b w u from next h) (sym t.1)
    (Serving-told a b w v u from to next h held was p t.0)
Serving-first a b w v u from to next h held still was p (inr t) =
    subst (Serving 0 a b w u from next h) (sym t.3) (subst (λ (o : Option (List ℕ)). Serving 0 a b w o from next h held) (sym t.2)
    (subst (λ (q : SeatView). Serving 0 a b w v from q h held) (sym t.1) (Serving-held a b w v from to h held p t.0)))

pub Serving-next : {a b c w v u : Option (List ℕ)} {from to next : SeatView} {old new : PendingInput} {held still : List ℕ} → IsAllRecorded from
    → Serving 1 a b w v from to old held → MayTell to next v u held still → TakesIn b c old new → Serving 0 a c w u from next new still
Serving-next was p t more = Serving-read 0 _ _ _ _ _ _ _ _ _ _ (Serving-first _ _ _ _ _ _ _ _ _ _ _ was p t) more

-- ---- one more turn after the others

more_text : (turns : List Turn) (t : Turn) (bytes pending more rest : List ℕ) → bytes ≡ flat_map turn_text turns ++ pending → pending ++ more ≡ turn_text t
    ++ rest → bytes ++ more ≡ flat_map turn_text (turns ++ t ∷ []) ++ rest
more_text turns t bytes pending more rest e f =
    ap (λ l. l ++ more) e ∙ append_assoc (flat_map turn_text turns) pending more ∙ ap (λ l. flat_map turn_text turns ++ l) f
    ∙ sym (append_assoc (flat_map turn_text turns) (turn_text t) rest)
    ∙ ap (λ l. l ++ rest) (ap (λ l. flat_map turn_text turns ++ l) (sym (append-nil (turn_text t))) ∙ sym (flat_map-append turn_text turns (t ∷ [])))

more_of : {X : Type 0} (f : Turn → List X) (turns : List Turn) (t : Turn) (xs ys : List X) → xs ≡ flat_map f turns → ys ≡ f t → xs ++ ys
    ≡ flat_map f (turns ++ t ∷ [])
more_of f turns t xs ys e h = ap (λ l. l ++ ys) e ∙ ap (λ l. flat_map f turns ++ l) (h ∙ sym (append-nil (f t))) ∙ sym (flat_map-append f turns (t ∷ []))

session_more : (b c : Option (List ℕ)) (from to next : SeatView) (old new : PendingInput) (held line bytes : List ℕ) (entries : List Entry) (written : List ℕ)
    (ends : Bool) (s : Going 0 from to old held bytes entries written) (t : TurnTaken b c old new to next line ends)
    → IsSession false from next (s.holding.all ++ t.turn ∷ []) (bytes ++ t.bytes) new.pending (entries ++ t.turn.did.entries) (written ++ (held ++ line))
session_more b c from to next old new held line bytes entries written ends s t =
    let h = s.holding in record {
      each = every-push (IsTurn from.shape from.session) h.all t.turn h.session.each
          (subst (λ by. IsTurn from.shape by t.turn) h.session.seat.session (subst (λ (shape : ShapeView). IsTurn shape to.session t.turn) h.session.seat.shape
          t.is));
      bytes_are = more_text h.all t.turn bytes old.pending t.bytes new.pending h.session.bytes_are t.kept;
      entries_are = more_of (λ (x : Turn). x.did.entries) h.all t.turn entries t.turn.did.entries h.session.entries_are refl;
      text_is = sym (append_assoc written held line) ∙ more_of (λ (x : Turn). x.did.line) h.all t.turn (written ++ held) line h.session.text_is t.line_is;
      readings = readings_push from to next h.all t.turn h.session.seat.seen h.session.readings s.have_shown t.did;
      seat = goes_on false from to next h.session.seat t.did.goes_on;
    }

abbrev holding_more : (b c : Option (List ℕ)) (from to next : SeatView) (old new : PendingInput) (held line bytes : List ℕ) (entries : List Entry)
    (written : List ℕ) (ends : Bool) (s : Going 0 from to old held bytes entries written) (t : TurnTaken b c old new to next line ends)
    → IsHolding from next (bytes ++ t.bytes) new.pending (entries ++ t.turn.did.entries) written (held ++ line)
holding_more b c from to next old new held line bytes entries written ends s t =
    let h = s.holding in record {
      all = h.all ++ t.turn ∷ [];
      turns = h.turns;
      waiting = h.waiting ++ t.turn ∷ [];
      are = ap (λ l. l ++ t.turn ∷ []) h.are ∙ append_assoc h.turns h.waiting (t.turn ∷ []);
      session = session_more b c from to next old new held line bytes entries written ends s t;
      told = h.told;
      recorded = starts_then _ to.log next.log h.recorded t.did.goes_on.log;
      one = λ all. omega (arith, s.few all, length_push h.waiting t.turn);
    }

-- what has passed then
passed_more : (a b c w v : Option (List ℕ)) (from to next : SeatView) (old new : PendingInput) (held line : List ℕ) (ends : Bool)
    (IsSo : List ℕ → List Entry → List ℕ → Type 0) (p : Serving 0 a b w v from to old held) (t : TurnTaken b c old new to next line ends)
    → IsSo (p.bytes ++ t.bytes) (p.entries ++ t.turn.did.entries) p.written → GoesThrough a c w v from next IsSo
passed_more a b c w v from to next old new held line ends IsSo p t so = record {
  bytes = p.bytes ++ t.bytes;
  entries = p.entries ++ t.turn.did.entries;
  written = p.written;
  consumed = consumes_then a b c p.bytes t.bytes p.consumed t.consumed;
  asked = t.did.asked ∙ ap (λ l. l ++ t.turn.did.entries) p.asked ∙ append_assoc from.asked p.entries t.turn.did.entries;
  appended = p.appended;
  is_so = so;
}

pub Serving-turn : (a b c w v : Option (List ℕ)) (from to next : SeatView) (old new : PendingInput) (held line longer : List ℕ)
    → Serving 0 a b w v from to old held → TurnTaken b c old new to next line false → longer ≡ held ++ line → Serving 1 a c w v from next new longer
Serving-turn a b c w v from to next old new held line longer p t put =
    let s = p.is_so in
    subst (Serving 1 a c w v from next new) (sym put)
    (passed_more a b c w v from to next old new held line false (Going 1 from next new (held ++ line)) p t record {
      holding = holding_more b c from to next old new held line p.bytes p.entries p.written false s t;
      few = λ all. omega (arith, s.few all, length_push s.holding.waiting t.turn);
      go_on = every-push (λ (x : Turn). SessionGoesOn x.command) s.holding.all t.turn s.go_on t.last;
      have_shown = shown_push to next s.holding.all t.turn s.have_shown t.did;
    })

-- ---- the ends, but for what is held

pub held_at_end : (most : ℕ) (a b w v : Option (List ℕ)) (from to : SeatView) (h : PendingInput) (held : List ℕ) → Serving most a b w v from to h held
    → h.pending ≡ [] → IsAtEnd b → Holds a b w v from to held None
held_at_end most a b w v from to h held p e end = so p (h.pending, p.is_so.holding, inl (p.is_so.go_on, e, end))

pub held_by_bye : (a b c w v : Option (List ℕ)) (from to next : SeatView) (old new : PendingInput) (held line longer : List ℕ)
    → Serving 0 a b w v from to old held → TurnTaken b c old new to next line true → longer ≡ held ++ line → Holds a c w v from next longer None
held_by_bye a b c w v from to next old new held line longer p t put =
    let s = p.is_so in
    subst (λ l. Holds a c w v from next l None) (sym put)
    (passed_more a b c w v from to next old new held line true (HoldsAtEnd None c (held ++ line) from next) p t
    (new.pending, holding_more b c from to next old new held line p.bytes p.entries p.written true s t, inr (s.holding.all, t.turn, refl, s.go_on, t.last)))

-- what a fault says, where it isn't one of writing
stopped_as : (e : ServeFault) (known : Option (List ℕ)) (from to : SeatView) (bytes rest : List ℕ) (entries : List Entry) (written held : List ℕ)
    (h : IsHolding from to bytes rest entries written held) → GoOn h.all → RestAt e known rest → HoldsAtEnd (Some e) known held from to bytes
    entries written
stopped_as Write known from to bytes rest entries written held h go at = absurd at
stopped_as Record known from to bytes rest entries written held h go at = absurd at
stopped_as e known from to bytes rest entries written held h go at = (rest, h, go, at)

rest_at : (f : InputFault) (known : Option (List ℕ)) (h : PendingInput) → IsFaultAt f known h → RestAt (of_input f) known h.pending
rest_at f known h at = left f at where
  part : IsPartialCommand h.pending
  part = record { lines = []; part = h.pending; each = tt; short = tt; whole = refl }

  left : (f : InputFault) → IsFaultAt f known h → RestAt (of_input f) known h.pending
  left input.Read at = (part, at)
  left input.LineTooLong at = (part, at.0, at.1)
  left input.Cut at = (part, at.0, at.1, at.2)
  left input.Turns at = (part, at)

pub stopped_reading : (most : ℕ) (f : InputFault) (a b w v : Option (List ℕ)) (from to : SeatView) (h : PendingInput) (held : List ℕ)
    → Serving most a b w v from to h held → IsFaultAt f b h → Holds a b w v from to held (Some (of_input f))
stopped_reading most f a b w v from to h held p at =
    so p (stopped_as (of_input f) b from to p.bytes h.pending p.entries p.written held p.is_so.holding p.is_so.go_on
    (rest_at f b h at))

stopped_turn : (most : ℕ) (e : ServeFault) (a b c w v : Option (List ℕ)) (from to next : SeatView) (h : PendingInput) (held : List ℕ)
    → Serving most a b w v from to h held → TurnStopped e b c h to next → Holds a c w v from next held (Some e)
stopped_turn most e a b c w v from to next h held p t = subst (λ (q : SeatView). Holds a c w v from q held (Some e)) (sym t.same) record {
  bytes = p.bytes ++ t.bytes;
  entries = p.entries;
  written = p.written;
  consumed = consumes_then a b c p.bytes t.bytes p.consumed t.consumed;
  asked = p.asked;
  appended = p.appended;
  is_so = stopped_as e c from to (p.bytes ++ t.bytes) (h.pending ++ t.bytes) p.entries p.written held
      (holding_read from to p.bytes t.bytes h.pending (h.pending ++ t.bytes) p.entries p.written held p.is_so.holding refl) p.is_so.go_on t.rest;
}

-- what is held are the lines of those that wait
held_lines : (turns waiting all : List Turn) (written held : List ℕ) → all ≡ turns ++ waiting → written ≡ lines_of turns → written ++ held ≡ lines_of all → held
    ≡ lines_of waiting
held_lines turns waiting all written held are told text =
    append_cancel_left written held (lines_of waiting) (text ∙ ap lines_of are ∙ flat_map-append (λ (t : Turn). t.did.line) turns waiting
    ∙ ap (λ l. l ++ lines_of waiting) (sym told))

-- the record is broken, and so are these commands after those that were told
broken : (from to next : SeatView) (bytes rest held : List ℕ) (entries : List Entry) (written : List ℕ) (lost : List LostTurn)
    (h : IsHolding from to bytes (lost_texts lost ++ rest) entries written held)
    → MayEnd h.all → length held ≤ REPLY_BUFFER_BYTES → GoesOnFrom true to next → AllByRecursion (IsLostTurn from.session) lost → length lost ≤ 1
    → IsBroken from next bytes (entries ++ lost_entries lost) written
broken from to next bytes rest held entries written lost h may few goes are one =
    let s = h.session in record {
      turns = h.turns;
      held = h.waiting;
      lost = lost;
      rest = rest;
      made = entries;
      session = subst (λ ts. IsSession true from next ts bytes (lost_texts lost ++ rest) entries (lines_of ts)) h.are record {
        each = s.each;
        bytes_are = s.bytes_are;
        entries_are = s.entries_are;
        text_is = refl;
        readings = readings_later from to next h.all goes.seen s.readings;
        seat = goes_on true from to next s.seat goes;
      };
      may_end = subst MayEnd h.are may;
      are_lost = are;
      one = one;
      entries_are = refl;
      told = h.told;
      few = subst (λ l. length l ≤ REPLY_BUFFER_BYTES) (held_lines h.turns h.waiting h.all written held h.are h.told s.text_is) few;
      recorded = starts_then _ to.log next.log h.recorded goes.log;
    }

-- a call of the last command wasn't made
lost_turn : (most : ℕ) (a b c w v : Option (List ℕ)) (from to next : SeatView) (h : PendingInput) (held : List ℕ) → Serving most a b w v from to h held
    → length held ≤ REPLY_BUFFER_BYTES → TurnLost b c h to next → Holds a c w v from next held (Some Record)
lost_turn most a b c w v from to next h held p few t =
    let seat = p.is_so.holding.session.seat in
    let all = append-nil (lost_text t.turn) in
    let kept : h.pending ++ t.bytes ≡ lost_texts (t.turn ∷ []) ++ t.rest = t.kept ∙ ap (λ l. l ++ t.rest) (sym all) in
    let more = append-nil t.turn.entries in
    record {
      bytes = p.bytes ++ t.bytes;
      entries = p.entries ++ lost_entries (t.turn ∷ []);
      written = p.written;
      consumed = consumes_then a b c p.bytes t.bytes p.consumed t.consumed;
      asked = t.asked ∙ ap (λ l. l ++ t.turn.entries) p.asked ∙ append_assoc from.asked p.entries t.turn.entries ∙ ap (λ l. from.asked ++ (p.entries ++ l))
          (sym more);
      appended = p.appended;
      is_so = broken from to next (p.bytes ++ t.bytes) t.rest held p.entries p.written (t.turn ∷ [])
          (holding_read from to p.bytes t.bytes h.pending (lost_texts (t.turn ∷ []) ++ t.rest) p.entries p.written held p.is_so.holding kept)
          (inl p.is_so.go_on) few t.goes_on
          (subst (λ by. IsLostTurn by t.turn) seat.session t.is, tt) (omega arith);
    }

pub failed_turn : (most : ℕ) (e : ServeFault) (a b c w v : Option (List ℕ)) (from to next : SeatView) (h : PendingInput) (held : List ℕ)
    → Serving most a b w v from to h held → length held ≤ REPLY_BUFFER_BYTES → TurnFails e b c h to next → Holds a c w v from next held (Some e)
failed_turn most Record a b c w v from to next h held p few t = lost_turn most a b c w v from to next h held p few t
failed_turn most e a b c w v from to next h held p few t = stopped_turn most e a b c w v from to next h held p t

-- the input has other faults than that
pub no_input : (f : InputFault) → Some (of_input f) ≡ Some Record → ⊥
no_input input.Read is = absurd (cc)
no_input f is = absurd (cc)

pub the_fault : (e f : ServeFault) → Some e ≡ Some f → e ≡ f
the_fault e f is = cc

-- ---- what was held couldn't be told

-- what is missing of one line
last_line : (turns waiting all : List Turn) (written held front missing : List ℕ) → all ≡ turns ++ waiting → written ≡ lines_of turns → written ++ held
    ≡ lines_of all → length waiting ≤ 1 → 0 < length held → held ≡ front ++ missing → IsEndOfLastLine all missing
last_line turns [] all written held front missing are told text few some cut =
    absurd (omega (arith, some, length-append written held, ap length (text ∙ ap lines_of (are ∙ append-nil turns) ∙ sym told)))
last_line turns (t ∷ []) all written held front missing are told text few some cut =
    let line : written ++ held ≡ written ++ t.did.line = text ∙ ap lines_of are
    ∙ sym (more_of (λ (x : Turn). x.did.line) turns t written t.did.line told refl) in
    (turns, t, are, front, sym (append_cancel_left written held t.did.line line) ∙ cut)
last_line turns (t ∷ u ∷ more) all written held front missing are told text few some cut = absurd (omega arith)

cut_off : (from to : SeatView) (bytes rest : List ℕ) (entries : List Entry) (written held front missing : List ℕ) → IsAllRecorded from → to.asked ≡ from.asked
    ++ entries → held ≡ front ++ missing → 0 < length held → length held ≤ REPLY_BUFFER_BYTES → (h : IsHolding from to bytes rest entries written held)
    → MayEnd h.all → IsCutOff from (told_seat to) bytes entries (written ++ front)
cut_off from to bytes rest entries written held front missing was asked cut some few h may = record {
  turns = h.all;
  rest = rest;
  missing = missing;
  session = subst (IsSession false from (told_seat to) h.all bytes rest entries) (ap (λ l. written ++ l) cut ∙ sym (append_assoc written front missing))
      (session_told from to h.all bytes rest entries (written ++ held) was asked h.session);
  may_end = may;
  few = omega (arith, few, ap length cut, length-append front missing);
  recorded = refl;
  last = λ all. last_line h.turns h.waiting h.all written held front missing h.are h.told h.session.text_is (h.one all) some cut;
}

-- a session that holds lines
abbrev HoldingAll : (a b w v : Option (List ℕ)) (from to : SeatView) → List ℕ → Type 0
HoldingAll a b w v from to held =
    GoesThrough a b w v from to (λ bytes entries written. (rest : List ℕ) × (h : IsHolding from to bytes rest entries written held) × MayEnd h.all)

-- what is held where the session goes on, or has ended
untold : (e : ServeFault) (a b w v u : Option (List ℕ)) (from to next : SeatView) (held : List ℕ) → HoldingAll a b w v from to held → IsAllRecorded from
    → AreUntold e to next v u held → GoesThrough a b w u from next (HasEnded (Some e) b from next)
untold Write a b w v u from to next held p was t =
    let cut = t.2 in
    let h = p.is_so.1 in
    subst (λ (q : SeatView). Ends a b w u from q (Some Write)) (sym t.0) record {
      bytes = p.bytes;
      entries = p.entries;
      written = p.written ++ cut.front;
      consumed = p.consumed;
      asked = p.asked;
      appended = appends_then w v u p.written cut.front p.appended cut.appended;
      is_so = cut_off from to p.bytes p.is_so.0 p.entries p.written held cut.front cut.missing was p.asked cut.bytes_are t.1 t.3 h p.is_so.2;
    }
untold Record a b w v u from to next held p was t =
    let goes : GoesOnFrom true to (record to { broken = true }) = record {
      exchange = refl;
      shape = refl;
      loses = refl;
      session = refl;
      parts = refl;
      log =
          starts_same to.log to.log refl;
      seen = omega arith;
      broken = refl;
    } in
    subst (λ (q : SeatView). Ends a b w u from q (Some Record)) (sym t.0)
    (subst (λ (o : Option (List ℕ)). Ends a b w o from (record to { broken = true }) (Some Record)) (sym t.1) record {
      bytes = p.bytes;
      entries = p.entries ++ [];
      written = p.written;
      consumed = p.consumed;
      asked = p.asked ∙ ap (λ l. from.asked ++ l) (sym (append-nil p.entries));
      appended = p.appended;
      is_so = broken from to (record to { broken = true }) p.bytes p.is_so.0 held p.entries p.written [] p.is_so.1 p.is_so.2 t.2 goes tt (omega arith);
    })
untold e a b w v u from to next held p was t = absurd t

serving_holds : (most : ℕ) (a b w v : Option (List ℕ)) (from to : SeatView) (h : PendingInput) (held : List ℕ) → Serving most a b w v from to h held
    → HoldingAll a b w v from to held
serving_holds most a b w v from to h held p = so p (h.pending, p.is_so.holding, inl p.is_so.go_on)

-- they couldn't be told before more is done
pub untold_first : (e : ServeFault) (a b w v u : Option (List ℕ)) (from to next : SeatView) (h : PendingInput) (held still : List ℕ) → IsAllRecorded from
    → Serving 1 a b w v from to h held → AreUntold e to next v u held → Holds a b w u from next still (Some e)
untold_first Write a b w v u from to next h held still was p t = untold Write a b w v u from to next held (serving_holds 1 a b w v from to h held p) was t
untold_first Record a b w v u from to next h held still was p t = untold Record a b w v u from to next held (serving_holds 1 a b w v from to h held p) was t
untold_first e a b w v u from to next h held still was p t = absurd t

-- ---- the ends

pub cut_before : (fault : Option ServeFault) (a b w v : Option (List ℕ)) (from to : SeatView) (held : List ℕ) → cuts_off fault ≡ true
    → Holds a b w v from to held fault → Ends a b w v from to fault
cut_before (Some Write) a b w v from to held is p = p
cut_before (Some Record) a b w v from to held is p = p
cut_before fault a b w v from to held is p = absurd (true≢false (sym is))

may_end : (turns : List Turn) (known : Option (List ℕ)) (rest : List ℕ) → IsWholeSession turns known rest → MayEnd turns
may_end turns known rest (inl is) = inl is.0
may_end turns known rest (inr is) = inr is

-- what is held where no more was cut off
ends_holding : (fault : Option ServeFault) (known : Option (List ℕ)) (from to : SeatView) (held bytes : List ℕ) (entries : List Entry) (written : List ℕ)
    → cuts_off fault ≡ false → HoldsAtEnd fault known held from to bytes entries written → (rest : List ℕ)
    × (h : IsHolding from to bytes rest entries written held) × MayEnd h.all
ends_holding None known from to held bytes entries written is e = (e.0, e.1, may_end e.1.all known e.0 e.2)
ends_holding (Some Write) known from to held bytes entries written is e = absurd (true≢false is)
ends_holding (Some Record) known from to held bytes entries written is e = absurd (true≢false is)
ends_holding (Some fault) known from to held bytes entries written is e = (e.0, e.1, inl e.2)

pub untold_last : (fault : Option ServeFault) (e : ServeFault) (a b w v u : Option (List ℕ)) (from to next : SeatView) (held : List ℕ) → cuts_off fault ≡ false
    → IsAllRecorded from → Holds a b w v from to held fault → AreUntold e to next v u held → Ends a b w u from next (Some e)
untold_last fault e a b w v u from to next held is was p t = untold e a b w v u from to next held
    (so p (ends_holding fault b from to held p.bytes p.entries p.written is p.is_so)) was t

-- all was told
ended_so : (fault : Option ServeFault) (known : Option (List ℕ)) (from to : SeatView) (held bytes : List ℕ) (entries : List Entry) (written : List ℕ)
    → cuts_off fault ≡ false → IsAllRecorded from → to.asked ≡ from.asked ++ entries → HoldsAtEnd fault known held from to bytes entries written
    → HasEnded fault known from (told_seat to) bytes entries (written ++ held)
ended_so None known from to held bytes entries written is was asked e =
    (e.1.all, e.0, session_told from to e.1.all bytes e.0 entries (written ++ held) was asked e.1.session, e.2, refl)
ended_so (Some Write) known from to held bytes entries written is was asked e = absurd (true≢false is)
ended_so (Some Record) known from to held bytes entries written is was asked e = absurd (true≢false is)
ended_so (Some fault) known from to held bytes entries written is was asked e =
    (e.1.all, e.0, session_told from to e.1.all bytes e.0 entries (written ++ held) was asked e.1.session, e.2, e.3, refl)

pub told_last : (fault : Option ServeFault) (a b w v u : Option (List ℕ)) (from to next : SeatView) (held : List ℕ) → cuts_off fault ≡ false
    → IsAllRecorded from → Holds a b w v from to held fault → AreTold to next v u held → Ends a b w u from next fault
told_last fault a b w v u from to next held is was p t = subst (λ (q : SeatView). Ends a b w u from q fault) (sym t.seat) record {
  bytes = p.bytes;
  entries = p.entries;
  written = p.written ++ held;
  consumed = p.consumed;
  asked = p.asked;
  appended = appends_then w v u p.written held p.appended t.appended;
  is_so = ended_so fault b from to held p.bytes p.entries p.written is was p.asked p.is_so;
}

-- the rest was told, or couldn't be
pub told_or : {T U : Type 0} (r : Result T ServeFault) (ended : Result U ServeFault) (a b w v u : Option (List ℕ)) (from to next : SeatView) (held : List ℕ)
    → cuts_off (fault_in ended) ≡ false → IsAllRecorded from → Holds a b w v from to held (fault_in ended)
    → OnOk r (AreTold to next v u held) → IfErr r (λ e. AreUntold e to next v u held) → Ends a b w u from next (fault_in (result_and r ended))
told_or (Ok x) ended a b w v u from to next held is was p ok err = told_last (fault_in ended) a b w v u from to next held is was p ok
told_or (Err e) ended a b w v u from to next held is was p ok err = untold_last (fault_in ended) e a b w v u from to next held is was p err

pub lost_or : {T U P : Type 0} (r : Result T ServeFault) (ended : Result U ServeFault) → IfErr r (λ e. e ≡ Record → P) → (fault_in ended ≡ Some Record → P)
    → fault_in (result_and r ended) ≡ Some Record → P
lost_or (Ok x) ended lost before is = before is
lost_or (Err e) ended lost before is = lost (the_fault e Record is)

-- ---- the seat that comes back

-- whether a session that ended so broke its record
abbrev breaks_by : Option ServeFault → Bool
breaks_by (Some Record) = true
breaks_by fault = false

same_seat : (fault : Option ServeFault) (known : Option (List ℕ)) (from to : SeatView) (bytes : List ℕ) (entries : List Entry) (written : List ℕ)
    → HasEnded fault known from to bytes entries written → GoesOnFrom (breaks_by fault) from to
same_seat (Some Write) known from to bytes entries written h = h.session.seat
same_seat (Some Record) known from to bytes entries written h = h.session.seat
same_seat fault known from to bytes entries written h = h.2.seat

pub seat_kept : (a b w v : Option (List ℕ)) (loses : Bool) (shape : ShapeView) (seat back : SeatState) (from to : SeatView) (fault : Option ServeFault) → from
    ≡ seat_view loses shape seat → seat_view to.loses to.shape back ≡ to → Ends a b w v from to fault → IsSameSeat seat back
seat_kept a b w v loses shape seat back from to fault was is ends =
    let s = same_seat fault b from to ends.bytes ends.entries ends.written ends.is_so in
    record {
      exchange = ap (λ (x : SeatView). x.exchange) is ∙ s.exchange ∙ ap (λ (x : SeatView). x.exchange) was;
      session = ap (λ (x : SeatView). x.session) is ∙ s.session ∙ ap (λ (x : SeatView). x.session) was;
      parts = ap (λ (x : SeatView). x.parts) is ∙ s.parts ∙ ap (λ (x : SeatView). x.parts) was;
    }

pub session_kept : (a b w v : Option (List ℕ)) (loses : Bool) (shape : ShapeView) (seat back : SeatState) (from to : SeatView) (fault : Option ServeFault)
    → from ≡ seat_view loses shape seat → seat_view to.loses to.shape back ≡ to → Ends a b w v from to fault → Ends a b w v (seat_view loses shape seat)
    (seat_view loses shape back) fault
session_kept a b w v loses shape seat back from to fault was is ends =
    let s = same_seat fault b from to ends.bytes ends.entries ends.written ends.is_so in
    let same : to ≡ seat_view loses shape back = sym is ∙ ap (λ (x : Bool). seat_view x to.shape back) (s.loses ∙ ap (λ (x : SeatView). x.loses) was)
    ∙ ap (λ (x : ShapeView). seat_view loses x back) (s.shape ∙ ap (λ (x : SeatView). x.shape) was) in
    subst (λ (x : SeatView). Ends a b w v (seat_view loses shape seat) x fault) same (subst (λ (x : SeatView). Ends a b w v x to fault) was ends)

-- all is told, where the record isn't broken
all_told : (fault : Option ServeFault) (known : Option (List ℕ)) (from to : SeatView) (bytes : List ℕ) (entries : List Entry) (written : List ℕ)
    → (fault ≡ Some Record → ⊥) → HasEnded fault known from to bytes entries written → IsAllRecorded to
all_told None known from to bytes entries written whole h = h.4
all_told (Some Write) known from to bytes entries written whole h = h.recorded
all_told (Some Record) known from to bytes entries written whole h = absurd (whole refl)
all_told (Some fault) known from to bytes entries written whole h = h.5

pub told_after : (a b w v : Option (List ℕ)) (loses : Bool) (back : SeatState) (from to : SeatView) (fault : Option ServeFault)
    → seat_view to.loses to.shape back ≡ to → (fault ≡ Some Record → loses ≡ true) → loses ≡ false → Ends a b w v from to fault → back.log ≡ back.asked
told_after a b w v loses back from to fault is lost none ends =
    let whole : fault ≡ Some Record → ⊥ = λ broken. true≢false (sym (lost broken) ∙ none) in
    subst IsAllRecorded (sym is) (all_told fault b from to ends.bytes ends.entries ends.written whole ends.is_so)

pub told_at_first : (loses : Bool) (shape : ShapeView) (seat : SeatState) (from : SeatView) → from ≡ seat_view loses shape seat → seat.log ≡ seat.asked
    → IsAllRecorded from
told_at_first loses shape seat from is told = subst IsAllRecorded (sym is) told
