-- The promises of `serve`, `host` and `talk`: sessions, and the order of their calls.
use Rattle.std.proofs.Common.{◌≡◌, ◌≤◌, ◌∙◌, ◌++◌, ◌+◌, ◌||◌, ℕ, Bool, true, false, List, [], ◌∷◌, length, map, fold, Option, Some, None, inl, inr, refl, sym, ap, ap₂, subst, append_assoc, append-nil}
use Rattle.std.proofs.Common.{arith}
use Rattle.std.proofs.lemmas.List.{append_cancel_left}
use Rattle.std.proofs.lemmas.List.Elements.{recursion_from_All}
use Rattle.std.specs.Prelude.{IfSome, is_some, slice_get, unwrap_or}
use Rattle.std.specs.List.{AllByRecursion, flat_map, list_any}
use Rattle.std.specs.Io.KnownBytes.{Consumes, IsAtEnd}
use Rattle.batch.specs.ShapeView.{ShapeView}
use Rattle.batch_book.proofs.Fronts.{front, starts, starts_same, starts_then}
use Rattle.batch_book.specs.History.{BookView, IsPrefix}
use Rattle.batch_book.specs.Machine.{opened}
use Rattle.batch_book.specs.Seats.{own}
use Rattle.batch_book.specs.Values.{greatest}
use Rattle.batch_book.specs.declared.reading.Reading.{Reading}
use Rattle.batch_book.specs.declared.entry.Entry.{Entry}
use Rattle.client_session.proofs.Lists.{every_both}
use Rattle.client_session.specs.Seats.{SeatView}
use Rattle.client_session.specs.Sessions.{HasEnded, IsSession, added_entries, lines_of, lost_entries, lost_texts}
use Rattle.client_session.specs.Turns.{AreReadings, IsAboveReadings, MayHaveAdded as HasBegunBefore, IsFetching, IsLostTurn, IsTurn, LostTurn, Turn as Turned, readings_of, turn_text}
use Rattle.client_session.specs.declared.command.SessionCommand.{SessionCommand}
use Rattle.client_session.specs.declared.command.SessionCommand.TheVariants.{Batch, Bye, Drop, Peek, Plan as PlanOf, Poke, Progress, Run as RunOf, Show}
use Rattle.client_session.specs.declared.fault.ServeFault.{ServeFault}
use Rattle.client_session.specs.declared.fault.ServeFault.TheVariants.{Cut, LineTooLong, NoMemory, Read, Record, Turns, Write}
use Rattle.exchange.specs.Promises.{Calls, EndsSo, HaveOneOrder, IsSessionOf, Session, all_calls, all_turns, told_text}
use Rattle.module_memory.specs.Store.{Store}
use Rattle.record_replay.proofs.Steps.{steps_seen}
use Rattle.record_replay.specs.Steps.{AreSeenSteps}
use Rattle.session_answers.specs.Frames.{Transcript, session_text, sessions_text}
use Rattle.session_answers.specs.Histories.{HaveOneHistory, Part}
use Rattle.session_answers.specs.Serving.{HasItsScript}
use Rattle.session_answers.specs.Sessions.{Beginning, IsServedSession}

-- ---- how a session ended

abbrev pub session_so : ℕ → Option ServeFault → (turns held : List Turned) → (told rest : List ℕ) → Session
session_so number fault turns held told rest = record { number = number; turns = turns; held = held; told = told; rest = rest; fault = fault }

-- what it read, made and told, as its promise says it
record HasEndedSo (number : ℕ) (recorded : Bool) (old new : SeatView) (fault : Option ServeFault) (after : Option (List ℕ)) (read : List ℕ) (made : List Entry)
    (told : List ℕ) : Type 0 where
  turns : List Turned
  held : List Turned
  left : List ℕ
  untold : List ℕ
  unseen : List Entry
  each : AllByRecursion (IsTurn old.shape old.session) (turns ++ held)
  bytes : read ≡ flat_map turn_text (turns ++ held) ++ left
  lines : lines_of turns ≡ told ++ untold
  entries : made ≡ added_entries (turns ++ held) ++ unseen
  stand : IsPrefix (added_entries turns) new.log
  readings : AreReadings old.seen new.seen (turns ++ held)
  ends : EndsSo recorded (session_so number fault turns held told (left ++ unwrap_or after [])) untold unseen fault

no_more : (after : Option (List ℕ)) → IsAtEnd after → unwrap_or after [] ≡ []
no_more None at_end = refl
no_more (Some bytes) at_end = at_end

-- where all that was asked could be told, and no line is held
plain : (number : ℕ) (recorded : Bool) (old new : SeatView) (fault : Option ServeFault) (after : Option (List ℕ)) (read : List ℕ) (made : List Entry)
    (told untold : List ℕ) (turns : List Turned) (left : List ℕ)
    → IsSession false old new turns read left made (told ++ untold) → new.log ≡ made
    → EndsSo recorded (session_so number fault turns [] told (left ++ unwrap_or after [])) untold [] fault → HasEndedSo number recorded old new fault after
    read made told
plain number recorded old new fault after read made told untold turns left s all ends =
    let r = subst (λ (ts : List Turned). IsSession false old new ts read left made (told ++ untold)) (sym (append-nil turns)) s in record {
      turns = turns;
      held = [];
      left = left;
      untold = untold;
      unseen = [];
      each = r.each;
      bytes = r.bytes_are;
      lines = sym s.text_is;
      entries = r.entries_are ∙ sym (append-nil (added_entries (turns ++ [])));
      stand = starts_same (added_entries turns) new.log (sym (all ∙ s.entries_are));
      readings = r.readings;
      ends = ends;
    }

whole_told : (old new : SeatView) (read : List ℕ) (made : List Entry) (told : List ℕ) (turns : List Turned) (left : List ℕ) → IsSession false old new turns read
    left made told → IsSession false old new turns read left made (told ++ [])
whole_told old new read made told turns left s = subst (λ (x : List ℕ). IsSession false old new turns read left made x) (sym (append-nil told)) s

fetching : (by : ℕ) (command : Option SessionCommand) (es : List Entry) → HasBegunBefore by command es → (id : ℕ) × IsFetching by id es
fetching by (Some (PlanOf id)) es is = (id, is)
fetching by None es none = (0, inl none)
fetching by (Some (Batch count)) es none = (0, inl none)
fetching by (Some (RunOf id)) es none = (0, inl none)
fetching by (Some (Show id)) es none = (0, inl none)
fetching by (Some (Drop id)) es none = (0, inl none)
fetching by (Some (Peek «module» address)) es none = (0, inl none)
fetching by (Some (Poke «module» address word)) es none = (0, inl none)
fetching by (Some Progress) es none = (0, inl none)
fetching by (Some Bye) es none = (0, inl none)

lost_fetching : (by : ℕ) (lost : List LostTurn) → AllByRecursion (IsLostTurn by) lost → length lost ≤ 1 → (id : ℕ) × IsFetching by id (lost_entries lost)
lost_fetching by [] all one = (0, inl refl)
lost_fetching by (t ∷ []) all one = subst (λ (es : List Entry). (id : ℕ) × IsFetching by id es) (sym (append-nil t.entries))
    (fetching by t.command t.entries all.0.begun)
lost_fetching by (t ∷ u ∷ more) all one = absurd (omega (arith, one))

ended_so : (number : ℕ) (recorded : Bool) (fault : Option ServeFault) (after : Option (List ℕ)) (old new : SeatView) (read : List ℕ) (made : List Entry)
    (told : List ℕ) → old.log ≡ [] → old.session ≡ number → new.asked ≡ made → (recorded ≡ false → old.loses ≡ false) → (fault ≡ Some Record → recorded ≡ true)
    → HasEnded fault after old new read made told → HasEndedSo number recorded old new fault after read made told
ended_so number recorded None after old new read made told none its same keeps lost (turns, left, s, inl whole, all) =
    plain number recorded old new None after read made told [] turns left (whole_told old new read made told turns left s) (all ∙ same)
    (refl, refl, refl, inl (whole.0, ap₂ (λ (x y : List ℕ). x ++ y) whole.1 (no_more after whole.2)))
ended_so number recorded None after old new read made told none its same keeps lost (turns, left, s, inr bye, all) =
    plain number recorded old new None after read made told [] turns left (whole_told old new read made told turns left s) (all ∙ same)
    (refl, refl, refl, inr bye)
ended_so number recorded (Some Write) after old new read made told none its same keeps lost c = plain number recorded old new (Some Write) after read made told
    c.missing c.turns c.rest c.session (c.recorded ∙ same) (refl, refl, c.may_end, c.few, λ unrecorded. c.last (keeps unrecorded))
ended_so number recorded (Some Record) after old new read made told none its same keeps lost b = record {
  turns = b.turns;
  held = b.held;
  left = lost_texts b.lost ++ b.rest;
  untold = [];
  unseen = lost_entries b.lost;
  each = b.session.each;
  bytes = b.session.bytes_are;
  lines = sym b.told ∙ sym (append-nil told);
  entries = b.entries_are ∙ ap (λ (x : List Entry). x ++ lost_entries b.lost) b.session.entries_are;
  stand = subst (λ (x : List Entry). IsPrefix (x ++ added_entries b.turns) new.log) none b.recorded;
  readings = b.session.readings;
  ends = (
    lost refl,
    refl,
    subst (λ (n : ℕ). (id : ℕ) × IsFetching n id (lost_entries b.lost)) its (lost_fetching old.session b.lost b.are_lost b.one),
    b.may_end,
    b.few,
  );
}
ended_so number recorded (Some Read) after old new read made told none its same keeps lost e = plain number recorded old new (Some Read) after read made told []
    e.0 e.1 (whole_told old new read made told e.0 e.1 e.2) (e.5 ∙ same) (refl, refl, refl, e.3)
ended_so number recorded (Some LineTooLong) after old new read made told none its same keeps lost e = plain number recorded old new (Some LineTooLong) after
    read made told [] e.0 e.1 (whole_told old new read made told e.0 e.1 e.2) (e.5 ∙ same) (refl, refl, refl, e.3)
ended_so number recorded (Some Cut) after old new read made told none its same keeps lost e = plain number recorded old new (Some Cut) after read made told []
    e.0 e.1 (whole_told old new read made told e.0 e.1 e.2) (e.5 ∙ same) (refl, refl, refl, e.3)
ended_so number recorded (Some Turns) after old new read made told none its same keeps lost e = plain number recorded old new (Some Turns) after read made told
    [] e.0 e.1 (whole_told old new read made told e.0 e.1 e.2) (e.5 ∙ same) (refl, refl, refl, e.3)
ended_so number recorded (Some NoMemory) after old new read made told none its same keeps lost e = plain number recorded old new (Some NoMemory) after read made
    told [] e.0 e.1 (whole_told old new read made told e.0 e.1 e.2) (e.5 ∙ same) (refl, refl, refl, e.3)

-- ---- one session

read_so : (before after : Option (List ℕ)) (read front left : List ℕ) → Consumes before after read → read ≡ front ++ left
    → IfSome before (λ text. text ≡ front ++ (left ++ unwrap_or after []))
read_so None after read front left c is = tt
read_so (Some xs) None read front left c is = absurd c
read_so (Some xs) (Some ys) read front left c is = c ∙ ap (λ (x : List ℕ). x ++ ys) is ∙ append_assoc front left ys

-- what a session asked are its own calls, and what it could be told stand first of these
abbrev pub HasOwn : Calls → Part → Type 0
HasOwn calls p = (p.asked ≡ own p.session calls.made) × IsPrefix p.log (own p.session calls.standing)

-- what is so of the session of a transcript
pub record IsSeen (b : Beginning) (calls : Calls) (came : Option (List ℕ)) (t : Transcript) (s : Session) : Type 0 where
  pub number : s.number ≡ t.part.session
  pub told : s.told ≡ t.told
  pub fault : s.fault ≡ t.fault
  pub text : session_text t ≡ told_text s
  pub own_are : own s.number calls.made ≡ t.part.asked
  pub seen : AreReadings b.seen t.part.seen (all_turns s)
  pub is : IsSessionOf calls came s

pub one_session : (b : Beginning) (calls : Calls) (before after : Option (List ℕ)) (t : Transcript) → b.shape ≡ calls.opening.shape → b.loses ≡ calls.recorded
    → IsServedSession b before after t → HasOwn calls t.part → (s : Session) × IsSeen b calls before t s
one_session b calls before after t shape recorded h owns =
    let e = ended_so t.part.session calls.recorded t.fault after h.seat _ h.read t.part.asked t.told h.is_new.log h.is_new.session_is refl
    (λ none. h.is_new.loses_is ∙ recorded ∙ none) (λ is. sym recorded ∙ h.lost is) h.ended in
    let turns = e.turns ++ e.held in (
      session_so t.part.session t.fault e.turns e.held t.told (e.left ++ unwrap_or after []),
      record {
        number = refl;
        told = refl;
        fault = refl;
        text = refl;
        own_are = sym owns.0;
        seen = subst (λ (n : ℕ). AreReadings n t.part.seen turns) h.is_new.seen e.readings;
        is = record {
          untold = e.untold;
          unseen = e.unseen;
          read = read_so before after h.read (flat_map turn_text turns) e.left h.consumed e.bytes;
          each = subst (λ (n : ℕ). AllByRecursion (IsTurn calls.opening.shape n) turns) h.is_new.session_is
              (subst (λ (x : ShapeView). AllByRecursion (IsTurn x h.seat.session) turns) (h.is_new.shape_is ∙ shape) e.each);
          lines = e.lines;
          entries = sym owns.0 ∙ e.entries;
          stand = starts_then (added_entries e.turns) t.part.log (own t.part.session calls.standing) e.stand owns.1;
          ends = e.ends;
        };
      },
    )

-- ---- the progress that was seen

-- readings that aren't ahead of a value aren't ahead of a greater one
not_ahead : (reading : Option Reading) (v w : ℕ) → v ≤ w → AllByRecursion (λ r. r ≤ v) (readings_of reading) → AllByRecursion (λ r. r ≤ w) (readings_of reading)
not_ahead None v w le all = tt
not_ahead (Some r) v w le all = let one = all.0 in (omega (arith, one, le), tt)

none_ahead : (turns : List Turned) (v w : ℕ) → v ≤ w → IsAboveReadings turns v → IsAboveReadings turns w
none_ahead [] v w le all = tt
none_ahead (t ∷ turns) v w le all = (not_ahead t.did.reading v w le all.0, none_ahead turns v w le all.1)

pub seen_within : (turns : List Turned) (low high most : ℕ) → high ≤ most → AreReadings low high turns → AreReadings low most turns
seen_within turns low high most le r = record { low = r.low; high = none_ahead turns high most le r.high; rising = r.rising }

-- ---- the order of calls

-- the calls of a book that sessions leave, which they began with these
abbrev pub calls_of : Bool → Store → (earlier made standing : List Entry) → BookView → Calls
calls_of loses opening earlier made standing book = record {
  opening = opening;
  earlier = earlier;
  made = made;
  recorded = loses;
  standing = standing;
  left =
      book.machine;
}

-- the calls are those of the book
pub record AreCallsOf (calls : Calls) (book : BookView) : Type 0 where
  pub opening : calls.opening ≡ book.opening
  pub entries : all_calls calls ≡ book.history
  pub machine : calls.left ≡ book.machine
  pub stand : calls.earlier ++ calls.standing ≡ book.durable

-- what starts another after the same
same_behind : (earlier standing made : List Entry) → IsPrefix (earlier ++ standing) (earlier ++ made) → IsPrefix standing made
same_behind earlier standing made is =
    let f = front (earlier ++ standing) (earlier ++ made) is in starts standing made f.0
    (append_cancel_left earlier made (standing ++ f.0) (f.1 ∙ append_assoc earlier standing f.0))

-- the book is whole, where it can't lose an entry
whole_so : (whole loses : Bool) → (whole ≡ false → loses ≡ true) → loses ≡ false → whole ≡ true
whole_so true loses lost none = refl
whole_so false loses lost none = absurd (let bad : false ≡ true = sym none ∙ lost refl in cc)

module _ (loses : Bool) (opening : Store) (earlier : List Entry) (parts : List Part) (book : BookView) (one : HaveOneHistory loses opening earlier parts book)
  where
    abbrev pub theirs : Calls
    theirs = calls_of loses opening earlier one.made one.standing book

    pub are_calls : AreCallsOf theirs book
    are_calls = record { opening = sym one.is_opening; entries = sym one.are; machine = refl; stand = sym one.stand }

    pub all_own : AllByRecursion (HasOwn theirs) parts
    all_own = every_both (λ (p : Part). p.asked ≡ own p.session one.made) (λ (p : Part). IsPrefix p.log (own p.session one.standing)) (HasOwn theirs) parts
        (λ p asked log. (asked, log)) (recursion_from_All _ parts one.are_parts) (recursion_from_All _ parts one.recorded)

    pub in_order : (ss : List Session) → fold (λ a (s : Session). a + length (own s.number one.made)) 0 ss ≡ fold (λ a (p : Part). a + length p.asked) 0 parts
        → AllByRecursion (λ (s : Session). AreReadings (greatest earlier) (greatest book.history) (all_turns s)) ss → HaveOneOrder theirs ss
    in_order ss same seen = record {
      right = subst (λ (es : List Entry). AreSeenSteps (opened opening) es book.machine) one.are
          (steps_seen (opened opening) book.history book.machine one.unstopped one.replay);
      no_other = one.counted ∙ sym same;
      front = same_behind earlier one.standing one.made
          (subst (λ (x : List Entry). IsPrefix x (earlier ++ one.made)) one.stand (subst (λ (x : List Entry). IsPrefix book.durable x) one.are one.front));
      seen = subst (λ (es : List Entry). AllByRecursion (λ (s : Session). AreReadings (greatest earlier) (greatest es) (all_turns s)) ss) one.are seen;
    }

    pub all_stand : loses ≡ false → one.standing ≡ one.made
    all_stand none = append_cancel_left earlier one.standing one.made (sym one.stand ∙ one.whole (whole_so book.whole loses one.lost none) ∙ one.are)

-- ---- the sessions of scripts

pub record AreSeen (b : Beginning) (calls : Calls) (texts : List (List ℕ)) (ts : List Transcript) (ss : List Session) : Type 0 where
  pub numbers : map (λ (s : Session). s.number) ss ≡ map (λ (t : Transcript). t.part.session) ts
  pub each : AllByRecursion (λ (s : Session). IsSessionOf calls (slice_get texts s.number) s) ss
  pub text : sessions_text ts ≡ flat_map told_text ss
  pub failed : list_any (λ (t : Transcript). is_some t.fault) ts ≡ list_any (λ (s : Session). is_some s.fault) ss
  pub entries : (n : ℕ) → fold (λ a (s : Session). a + length (own s.number calls.made)) n ss ≡ fold (λ a (p : Part). a + length p.asked) n
      (map (λ (t : Transcript). t.part) ts)
  pub seen : (most : ℕ) → AllByRecursion (λ (p : Part). p.seen ≤ most) (map (λ (t : Transcript). t.part) ts)
      → AllByRecursion (λ (s : Session). AreReadings b.seen most (all_turns s)) ss

pub all_sessions : (b : Beginning) (calls : Calls) (texts : List (List ℕ)) (ts : List Transcript) → b.shape ≡ calls.opening.shape → b.loses ≡ calls.recorded
    → AllByRecursion (HasItsScript b texts) ts → AllByRecursion (HasOwn calls) (map (λ (t : Transcript). t.part) ts)
    → (ss : List Session) × AreSeen b calls texts ts ss
all_sessions b calls texts [] shape recorded each owns =
    ([], record { numbers = refl; each = tt; text = refl; failed = refl; entries = λ n. refl; seen = λ most all. tt })
all_sessions b calls texts (t ∷ ts) shape recorded each owns =
    let has = each.0 in
    let one = one_session b calls (Some has.0) (Some has.1) t shape recorded has.3 owns.0 in
    let more = all_sessions b calls texts ts shape recorded each.1 owns.1 in
    let its : slice_get texts one.0.number ≡ Some has.0 = ap (λ (n : ℕ). slice_get texts n) one.1.number ∙ has.2 in (
      one.0 ∷ more.0,
      record {
        numbers = ap₂ (λ (n : ℕ) (ns : List ℕ). n ∷ ns) one.1.number more.1.numbers;
        each = (subst (λ (c : Option (List ℕ)). IsSessionOf calls c one.0) (sym its) one.1.is, more.1.each);
        text = ap₂ (λ (x y : List ℕ). x ++ y) one.1.text more.1.text;
        failed = ap₂ ◌||◌ (ap (λ (o : Option ServeFault). is_some o) (sym one.1.fault)) more.1.failed;
        entries = λ n. ap (λ (es : List Entry). fold (λ a (s : Session). a + length (own s.number calls.made)) (n + length es) more.0) one.1.own_are
            ∙ more.1.entries (n + length t.part.asked);
        seen = λ most all. (seen_within (all_turns one.0) b.seen t.part.seen most all.0 one.1.seen, more.1.seen most all.1);
      },
    )
