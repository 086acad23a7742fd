-- The sessions of scripts, the seats of their exchange, and its history.
use Rattle.std.proofs.Common.{◌≡◌, ℕ, ◌+◌, ◌<◌, ◌≤◌, suc, Bool, true, false, ◌||◌, List, [], ◌∷◌, ◌++◌, length, get_or, map, option_map, All, Option, Some, Result, Ok, Err, IfOk, OnOk, is_ok}
use Rattle.std.proofs.Common.{if◌then◌else◌, refl, sym, ap, ap₂, ◌∙◌, subst, slice_get, take, append-nil, arith}
use Rattle.std.specs.List.{range_with_len, sum, sum_by, list_any}
use Rattle.std.proofs.lemmas.List.{take_more, take-map, flat_map_more, get_or-map, length-map, map-id}
use Rattle.std.proofs.lemmas.List.Elements.{All-map}
use Rattle.std.proofs.lemmas.List.FromFn.{get_or-range_with_len, length-range_with_len}
use Rattle.std.proofs.lemmas.Option.{slice_get-map, slice_get_read}
use Rattle.std.proofs.lemmas.List.Sums.{sum-map, sum_by-cons}
use Rattle.std.proofs.lemmas.Simd.{map-map}
use Rattle.std.specs.Io.KnownBytes.{Appends}
use Rattle.module_memory.specs.Store.{Store}
use Rattle.crossbar.specs.declared.port.ConfigPort.{Ghosts}
use Rattle.batch_book.specs.declared.entry.Entry.{Entry}
use Rattle.batch_book.specs.Closing.{AreClosed}
use Rattle.batch_book.specs.Exchanges.{Exchange, AreNew, new_seat, parts_at}
use Rattle.batch_book.specs.History.{BookView, AreUnstopped, IsSoundBook, IsReplay, IsPrefix}
use Rattle.batch_book.specs.Machine.{opened}
use Rattle.batch_book.specs.Replies.{NeverFail}
use Rattle.batch_book.specs.Seats.{SeatState, IsSameSeat, own}
use Rattle.batch_book.specs.Values.{greatest}
use Rattle.batch_book.proofs.Fronts.{front, starts_same}
use Rattle.client_session.specs.declared.fault.ServeFault.{ServeFault}
use Rattle.client_session.specs.declared.fault.ServeFault.TheVariants.{Record}
use Rattle.client_session.specs.Seats.{SeatView, seat_view}
use Rattle.client_session.specs.Sessions.{GoesThrough, HasEnded}
use Rattle.session_answers.specs.declared.session.ScriptSession.{ScriptSession}
use Rattle.session_answers.specs.Frames.{Transcript, session_text, sessions_text}
use Rattle.session_answers.specs.Histories.{Part, part_of, HaveOneHistory}
use Rattle.session_answers.specs.Serving.{HasItsScript}
use Rattle.session_answers.specs.Sessions.{Beginning, IsServedSession}
use Rattle.session_answers.specs.Hosting.{transcript, begun_at, AreAllSeats, IsFresh, AreServedAt}

-- ---- lists

-- lists of which some value agrees place by place
pub map_same : {A B C : Type 0} (f : A → C) (g : B → C) (xs : List A) (ys : List B) → length xs ≡ length ys
    → ((k : ℕ) (d : A) (e : B) → k < length xs → f (get_or xs k d) ≡ g (get_or ys k e)) → map f xs ≡ map g ys
map_same f g [] [] len same = refl
map_same {A} {B} {C} f g (x ∷ xs) (y ∷ ys) len same =
    ap₂ (λ (c : C) (cs : List C). c ∷ cs) (same 0 x y (omega arith)) (map_same f g xs ys (omega (arith, len)) (λ k d e lt. same (suc k) d e (omega arith)))
map_same f g xs ys len same = absurd (omega (arith, len))

pub sum_mapped : {X Y : Type 0} (g : Y → ℕ) (f : X → Y) (xs : List X) → sum_by g (map f xs) ≡ sum_by (λ x. g (f x)) xs
sum_mapped g f xs = sym (sum-map g (map f xs)) ∙ ap sum (map-map g f xs) ∙ sum-map (λ x. g (f x)) xs

-- one more element
pub one_more : {A B : Type 0} (f : A → B) (xs : List A) (i : ℕ) (x : A) → i < length xs → x ≡ get_or xs i x → map f (take i xs) ++ f x ∷ []
    ≡ map f (take (i + 1) xs)
one_more {A} {B} f xs i x lt is =
    let below : i < length (map f xs) = omega (arith, length-map xs f) in
    let last : f x ≡ get_or (map f xs) i (f x) = ap f is ∙ sym (get_or-map f xs i x (f x) lt) in
    ap₂ (λ (ys : List B) (y : B). ys ++ y ∷ []) (sym (take-map f i xs)) last ∙ sym (take_more (map f xs) i (f x) below) ∙ take-map f (i + 1) xs

-- what one of the values has one of their images has
pub any_mapped : {X Y : Type 0} (p : Y → Bool) (f : X → Y) (xs : List X) → list_any (λ x. p (f x)) xs ≡ list_any p (map f xs)
any_mapped p f [] = refl
any_mapped p f (x ∷ xs) = ap (λ (b : Bool). p (f x) || b) (any_mapped p f xs)

-- two facts of what was had
pub both : {X E : Type 0} (r : Result X E) {P Q S : X → Type 0} → IfOk r P → IfOk r Q → ((x : X) → P x → Q x → S x) → IfOk r S
both (Ok x) p q f = f x p q
both (Err e) p q f = tt

-- ---- frames

-- these bytes are put at the end of a text
pub put : {T E : Type 0} (r : Result T E) (new old more bytes : List ℕ) → new ≡ (if is_ok r then old ++ more else old) → more ≡ bytes
    → OnOk r (new ≡ old ++ bytes)
put (Ok x) new old more bytes is same = is ∙ ap (λ (xs : List ℕ). old ++ xs) same
put (Err e) new old more bytes is same = tt

-- one more session is printed
pub one_more_text : {L : Type 0} (ss : List (ScriptSession L)) (i : ℕ) (s : ScriptSession L) (before after : List ℕ) → i < length ss → s ≡ get_or ss i s
    → before ≡ sessions_text (map transcript (take i ss)) → after ≡ before ++ session_text (transcript s) → after
    ≡ sessions_text (map transcript (take (i + 1) ss))
one_more_text ss i s before after lt is framed more =
    more ∙ ap (λ (x : List ℕ). x ++ session_text (transcript s)) framed ∙ flat_map_more session_text [] (map transcript (take i ss)) (transcript s)
    ∙ ap sessions_text (one_more transcript ss i s lt is)

-- ---- a session

-- the script at a place
pub script_at : {A : Type 0} (v : A → List ℕ) (xs : List A) (k i : ℕ) (x : A) (script : List ℕ) → i ≡ k → k < length xs → x ≡ get_or xs i x → script ≡ v x
    → slice_get (map v xs) k ≡ Some script
script_at v xs k i x script at lt is text =
    slice_get-map v xs k ∙ ap (option_map v) (slice_get_read xs (length xs) k x refl lt (rw at at is)) ∙ ap Some (sym text)

-- what a session from a new seat leaves
pub its_session : (loses : Bool) (x : Exchange) (old new : SeatState) (before after held holds : Option (List ℕ)) (fault : Option ServeFault)
    → IsFresh x old → IsSameSeat old new
    → GoesThrough before after held holds (seat_view loses x.shape old) (seat_view loses x.shape new)
    (HasEnded fault after (seat_view loses x.shape old) (seat_view loses x.shape new))
    → (fault ≡ Some Record → loses ≡ true)
    → (told : List ℕ) × Appends held holds told × IsServedSession (begun_at loses x old.seen) before after
    (record { part = part_of new; told = told; fault = fault })
its_session loses x old new before after held holds fault fresh same p lost =
    let seat : SeatView = seat_view loses x.shape old in
    let left : SeatView = record seat { asked = new.asked; log = new.log; seen = new.seen; broken = new.broken } in
    let kept : seat_view loses x.shape new ≡ left = rw (same.exchange, same.session, same.parts) refl in
    let entries : p.entries ≡ new.asked = sym (p.asked ∙ ap (λ (es : List Entry). es ++ p.entries) fresh.asked) in
    let End : SeatView → List Entry → Type 0 = λ v es. HasEnded fault after seat v p.bytes es p.written in
    let one : End left p.entries = subst (λ v. End v p.entries) kept p.is_so in (
      p.written,
      p.appended,
      record {
        seat = seat;
        is_new = record {
          shape_is = refl;
          loses_is = refl;
          session_is = sym same.session;
          asked = fresh.asked;
          log = fresh.log;
          seen = refl;
          broken =
              fresh.broken;
        };
        read = p.bytes;
        consumed = p.consumed;
        broke = new.broken;
        ended = subst (λ es. End left es) entries one;
        lost = lost;
      },
    )

-- what one of this script leaves
pub its_script : (b : Beginning) (scripts : List (List ℕ)) (old new : SeatState) (script rest told : List ℕ) (fault : Option ServeFault)
    → IsSameSeat old new → slice_get scripts old.session ≡ Some script
    → ((w : List ℕ) × Appends (Some []) (Some told) w × IsServedSession b (Some script) (Some rest) (record { part = part_of new; told = w; fault = fault }))
    → HasItsScript b scripts (record { part = part_of new; told = told; fault = fault })
its_script b scripts old new script rest told fault same at s = (
  script,
  rest,
  ap (slice_get scripts) same.session ∙ at,
  subst (λ (v : List ℕ). IsServedSession b (Some script) (Some rest) (record { part = part_of new; told = v; fault = fault })) (sym s.1) s.2,
)

-- ---- all sessions

-- a seat of a new exchange has asked nothing
pub fresh_seat : {x : Exchange} {start k parts : ℕ} {seat : SeatState} → seat ≡ new_seat x.word start k parts → IsFresh x seat
fresh_seat {x} begun = subst (IsFresh x) (sym begun) (record { exchange = refl; asked = refl; log = refl; broken = refl })

-- seats that come back as those of a new exchange, one for each session, are all that it has
pub seats_back : {S : Type 0} (x : Exchange) (start n : ℕ) (seats : List SeatState) (ss : List S) (seat_of : S → SeatState)
    → AreNew x.word start n seats → length ss ≡ length seats
    → ((k : ℕ) (s : S) → k < length ss → IsSameSeat (new_seat x.word start k (parts_at n k)) (seat_of (get_or ss k s)))
    → AreAllSeats x (map seat_of ss) × (map (λ s. (seat_of s).session) ss ≡ range_with_len 0 n)
seats_back {S} x start n seats ss seat_of new len same =
    let numbers : map (λ (s : S). (seat_of s).session) ss ≡ map (λ (n : ℕ). n) (range_with_len 0 n) =
    map_same (λ (s : S). (seat_of s).session) (λ (n : ℕ). n) ss (range_with_len 0 n) (omega (arith, len, new.count, length-range_with_len 0 n))
    (λ k s e lt.
    let here = get_or-range_with_len 0 n k e (omega (arith, len, new.count)) in
    (same k s lt).session ∙ omega (arith, here)) in
    let parts : map (λ (s : S). (seat_of s).parts) ss ≡ map (λ (t : SeatState). t.parts) seats =
    map_same (λ (s : S). (seat_of s).parts) (λ (t : SeatState). t.parts) ss seats len
    (λ k s e lt. (same k s lt).parts ∙ ap (λ (t : SeatState). t.parts) (sym (new.each k e (omega (arith, len, new.count))))) in (
      record {
        each = All-map (λ (t : SeatState). t.exchange ≡ Some x.word) seat_of ss (λ k s lt. (same k s lt).exchange);
        parts = sum_mapped (λ (t : SeatState). t.parts) seat_of ss ∙ sym (sum-map (λ (s : S). (seat_of s).parts) ss) ∙ ap sum parts
            ∙ sum-map (λ (t : SeatState). t.parts) seats ∙ new.parts;
      },
      numbers ∙ map-id (range_with_len 0 n),
    )

-- the session of the seat at a place
pub record IsOfSeat {L : Type 0} (x : Exchange) (scripts : List (List ℕ)) (seats : List SeatState) (k : ℕ) (s : ScriptSession L) : Type 0 where
  pub seat : SeatState
  pub at : (e : SeatState) → get_or seats k e ≡ seat
  pub same : IsSameSeat seat s.seat
  pub its : HasItsScript (begun_at false x seat.seen) scripts (transcript s)

-- each seat of a new exchange has had its session
pub all_served : {L : Type 0} (x : Exchange) (start : ℕ) (scripts : List (List ℕ)) (n : ℕ) (seats : List SeatState) (ss : List (ScriptSession L))
    → n ≡ length scripts → AreNew x.word start n seats → length ss ≡ length seats
    → ((k : ℕ) (s : ScriptSession L) → k < length seats → IsOfSeat x scripts seats k (get_or ss k s))
    → AreServedAt x start scripts ss
all_served {L} x start scripts n seats ss count new len each =
    let at : (k : ℕ) (s : ScriptSession L) → k < length ss → IsSameSeat (new_seat x.word start k (parts_at n k)) (get_or ss k s).seat
    × HasItsScript (begun_at false x start) scripts (transcript (get_or ss k s)) =
    λ k s lt. (let o = each k s (omega (arith, len)) in
    subst (λ (t : SeatState). IsSameSeat t (get_or ss k s).seat × HasItsScript (begun_at false x t.seen) scripts (transcript (get_or ss k s)))
    (sym (o.at o.seat) ∙ new.each k o.seat (omega (arith, len, new.count))) (o.same, o.its)) in
    let back = seats_back x start n seats ss (λ s. s.seat) new len (λ k s lt. (at k s lt).0) in
    record {
      all_seats = back.0;
      of_scripts = record {
        numbers = map-map (λ (t : Transcript). t.part.session) transcript ss ∙ back.1 ∙ ap (range_with_len 0) count;
        each = All-map (HasItsScript (begun_at false x start) scripts) transcript ss (λ k s lt. (at k s lt).1);
      };
    }

-- ---- the exchange is closed

-- the history that an exchange leaves is that of its sessions
pub one_history : {P W : Type 0} (seen : Ghosts P) (sure : W → ℕ → Type 0) (limited loses : Bool) (opening : Store) (earlier : List Entry)
    (seats : List SeatState) (book : BookView)
    → AreClosed seen sure opening earlier seats book → NeverFail seen sure → IsSoundBook limited loses book → HaveOneHistory loses opening earlier
    (map part_of seats) book
one_history seen sure limited loses opening earlier seats book closed never kept = record {
  made = closed.made;
  standing = closed.standing;
  is_opening = closed.opened;
  replay = subst (λ (s : Store). IsReplay (opened s) book.history book.machine) closed.opened kept.replay;
  are = closed.are;
  stand = closed.stand;
  front = kept.front;
  counted = closed.counted ∙ sym (sum_mapped (λ (p : Part). length p.asked) part_of seats);
  are_parts = All-map (λ (p : Part). p.asked ≡ own p.session closed.made) part_of seats closed.asked;
  recorded = All-map (λ (p : Part). IsPrefix p.log (own p.session closed.standing)) part_of seats closed.recorded;
  unstopped = closed.unstopped never;
  seen = All-map (λ (p : Part). p.seen ≤ greatest book.history) part_of seats closed.none_ahead;
  whole = closed.all;
  lost = kept.lost;
}

none_in : (P : Part → Type 0) → All P []
none_in P k d lt = absurd (omega (arith, lt))

no_entries : (seats : List SeatState) → All (λ (s : SeatState). s.asked ≡ []) seats → sum_by (λ (p : Part). length p.asked) (map part_of seats) ≡ 0
no_entries [] all = refl
no_entries (s ∷ seats) all =
    sum_by-cons (λ (p : Part). length p.asked) (part_of s) (map part_of seats)
    ∙ ap₂ (λ (m n : ℕ). m + n) (ap length (all 0 s (omega arith))) (no_entries seats (λ k d lt. all (suc k) d (omega (arith, lt))))

-- where none of them asked for anything, nothing was made
pub none_asked : (loses : Bool) (opening : Store) (earlier : List Entry) (seats : List SeatState) (book : BookView)
    → All (λ (s : SeatState). s.asked ≡ []) seats → HaveOneHistory loses opening earlier (map part_of seats) book → HaveOneHistory loses opening earlier [] book
none_asked loses opening earlier seats book none one = record {
  made = one.made;
  standing = one.standing;
  is_opening = one.is_opening;
  replay = one.replay;
  are = one.are;
  stand = one.stand;
  front = one.front;
  counted = one.counted ∙ no_entries seats none;
  are_parts = none_in (λ (p : Part). p.asked ≡ own p.session one.made);
  recorded = none_in (λ (p : Part). IsPrefix p.log (own p.session one.standing));
  unstopped = one.unstopped;
  seen = none_in (λ (p : Part). p.seen ≤ greatest book.history);
  whole = one.whole;
  lost = one.lost;
}

-- a book that no session has seen is as they leave it that asked nothing
pub unasked : (loses : Bool) (was : BookView) → IsReplay (opened was.opening) was.history was.machine → was.whole ≡ true → was.durable ≡ was.history
    → AreUnstopped was.history
    → HaveOneHistory loses was.opening was.history [] was
unasked loses was replay whole stand unstopped =
    let h = was.history in
    record {
      made = [];
      standing = [];
      is_opening = refl;
      replay = replay;
      are = sym (append-nil h);
      stand = stand ∙ sym (append-nil h);
      front = starts_same was.durable h stand;
      counted = refl;
      are_parts = none_in (λ (p : Part). p.asked ≡ own p.session []);
      recorded = none_in (λ (p : Part). IsPrefix p.log (own p.session []));
      unstopped = unstopped;
      seen = none_in (λ (p : Part). p.seen ≤ greatest h);
      whole = λ is. stand;
      lost = λ broken. absurd (cc (whole, broken));
    }

-- the parts of sessions are those of their seats
pub parts_are : {L : Type 0} (ss : List (ScriptSession L)) (seats : List SeatState) → seats ≡ map (λ (s : ScriptSession L). s.seat) ss
    → map (λ (t : Transcript). t.part) (map transcript ss) ≡ map part_of seats
parts_are {L} ss seats are = map-map (λ (t : Transcript). t.part) transcript ss ∙ sym (map-map part_of (λ (s : ScriptSession L). s.seat) ss)
    ∙ ap (map part_of) (sym are)
