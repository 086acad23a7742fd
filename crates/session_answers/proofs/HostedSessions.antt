-- The sessions of a host's clients, and the seats of their exchange.
use Rattle.std.proofs.Common.{◌≡◌, ℕ, ◌+◌, ◌<◌, ◌≤◌, zero, suc, Bool, true, false, ◌||◌, List, [], ◌∷◌, ◌++◌, length, get_or, map, All, Option, Some, None, refl, sym, ap, ap₂, ◌∙◌, subst, drop, take}
use Rattle.std.proofs.Common.{append-nil, inl, inr, arith}
use Rattle.std.specs.List.{range_with_len, list_any, flat_map}
use Rattle.std.proofs.lemmas.Bool.{cases_lt}
use Rattle.std.proofs.lemmas.List.{length-map, length-take-le, append_assoc, map-append, map-id, take_more}
use Rattle.std.proofs.lemmas.List.Elements.{All-map}
use Rattle.std.proofs.lemmas.List.FromFn.{get_or-range_with_len, length-range_with_len}
use Rattle.std.proofs.lemmas.Simd.{map-map}
use Rattle.std.specs.Io.KnownBytes.{Appends}
use Rattle.batch_book.specs.declared.entry.Entry.{Entry}
use Rattle.batch_book.specs.Exchanges.{Exchange, AreNew, new_seat, parts_at}
use Rattle.batch_book.specs.History.{BookView}
use Rattle.batch_book.specs.Seats.{SeatState, IsSameSeat}
use Rattle.client_session.specs.declared.fault.ServeFault.{ServeFault}
use Rattle.module_memory.specs.Store.{Store}
use Rattle.session_answers.specs.declared.threads_started.ThreadsStarted.{ThreadsStarted}
use Rattle.session_answers.specs.declared.ended_session.Ending.{Ending}
use Rattle.session_answers.specs.declared.ended_session.Ending.TheVariants.{Unopened, Served}
use Rattle.session_answers.specs.Histories.{part_of, IsClosing}
use Rattle.session_answers.specs.Hosting.{begun_at, AreAllSeats, IsFresh}
use Rattle.session_answers.specs.HostAnswers.{KnownClients, HostedSession, AreHosted, IsHostedSession, seen_end, ending_line, has_failed, hosted_heading, hosted_text}
use Rattle.session_answers.specs.HostTexts.{ends_text, room_of, session_room}
use Rattle.plan_answers.specs.Refusals.{Printed}
use Rattle.session_answers.specs.Sessions.{beginning, IsServedSession}
use Rattle.session_answers.specs.HostedSessions.{Ended, hosted_session, AreAllHosted, AreEach, IsOfSeat, AreHostedSessionsAt, HasReturned, HaveReturned, begins}
use Rattle.session_answers.proofs.Sessions.{fresh_seat, map_same, seats_back}

-- ---- what is so one by one

pub each_length : {A B : Type 0} (P : A → B → Type 0) (xs : List A) (ys : List B) → AreEach P xs ys → length ys ≡ length xs
each_length P [] [] each = refl
each_length P (x ∷ xs) (y ∷ ys) each = ap suc (each_length P xs ys each.1)
each_length P xs ys each = absurd each

each_at : {A B : Type 0} (P : A → B → Type 0) (xs : List A) (ys : List B) → AreEach P xs ys → (k : ℕ) (d : A) (e : B) → k < length xs
    → P (get_or xs k d) (get_or ys k e)
each_at P [] ys each k d e lt = absurd (omega (arith, lt))
each_at P (x ∷ xs) [] each k d e lt = absurd each
each_at P (x ∷ xs) (y ∷ ys) each zero d e lt = each.0
each_at P (x ∷ xs) (y ∷ ys) each (suc k) d e lt = each_at P xs ys each.1 k d e (omega (arith, lt))

pub each_push : {A B : Type 0} (P : A → B → Type 0) (xs : List A) (ys : List B) (x : A) (y : B) → AreEach P xs ys → P x y
    → AreEach P (xs ++ x ∷ []) (ys ++ y ∷ [])
each_push P [] [] x y each one = (one, tt)
each_push P (a ∷ xs) (b ∷ ys) x y each one = (each.0, each_push P xs ys x y each.1 one)
each_push P xs ys x y each one = absurd each

each_mapped : {X A B : Type 0} (P : A → B → Type 0) (f : X → A) (xs : List X) (ys : List B) → AreEach P (map f xs) ys → AreEach (λ x. P (f x)) xs ys
each_mapped P f [] [] each = tt
each_mapped P f (x ∷ xs) (y ∷ ys) each = (each.0, each_mapped P f xs ys each.1)
each_mapped P f [] (y ∷ ys) each = absurd each
each_mapped P f (x ∷ xs) [] each = absurd each

-- the first of what is left
each_split : {A B : Type 0} (P : A → B → Type 0) (rest : List A) (y : B) (more : List B) → AreEach P rest (y ∷ more) → (x : A) × (xs : List A) × (rest ≡ x ∷ xs)
    × P x y × AreEach P xs more
each_split P [] y more each = absurd each
each_split P (x ∷ xs) y more each = (x, xs, refl, each.0, each.1)

pub each_first : {A B : Type 0} (P : A → B → Type 0) (rest : List A) (ys more : List B) (y : B) → AreEach P rest ys → ys ≡ y ∷ more → (x : A) × (xs : List A)
    × (rest ≡ x ∷ xs) × P x y × AreEach P xs more
each_first {A} {B} P rest ys more y each is = each_split P rest y more (subst (λ (zs : List B). AreEach P rest zs) is each)

-- all are left
pub each_begin : {A B : Type 0} (P : A → B → Type 0) (xs : List A) (ys zs : List B) → zs ≡ ys → AreEach P xs ys → AreEach P xs zs
each_begin {A} {B} P xs ys zs is each = subst (λ (vs : List B). AreEach P xs vs) (sym is) each

-- from none to all
pub each_from_none : {A B : Type 0} (P : A → B → Type 0) (xs left : List A) (none ys : List B) → none ≡ [] → left ≡ xs
    → ((done : List A) → AreEach P done none → AreEach P (done ++ left) ys) → AreEach P xs ys
each_from_none P xs left none ys empty all each = rw all at each [] (rw empty tt)

-- none is left
pub all_done : {A : Type 0} (all done rest : List A) → length rest ≡ 0 → done ++ rest ≡ all → done ≡ all
all_done all done [] none was = sym (append-nil done) ∙ was
all_done all done (x ∷ rest) none was = absurd (omega (arith, none))

-- one more of them is done
pub moved : {A : Type 0} (all done ys more : List A) (y : A) → ys ≡ y ∷ more → done ++ ys ≡ all → (done ++ y ∷ []) ++ more ≡ all
moved all done ys more y first was = append_assoc done (y ∷ []) more ∙ ap (λ zs. done ++ zs) (sym first) ∙ was

-- ---- seats

-- the seats of a new exchange have asked nothing
pub all_fresh : (x : Exchange) (start n : ℕ) (seats : List SeatState) → AreNew x.word start n seats → All (IsFresh x) seats
all_fresh x start n seats new k d lt = fresh_seat (new.each k d (omega (arith, new.count, lt)))

-- those of the clients of these numbers are those of their seats
pub each_of_seats : {P : Type 0} (admits : ℕ → P → Type 0) (x : Exchange) (start n : ℕ) (seats : List SeatState) (passes : List P)
    → AreNew x.word start n seats → AreEach admits (range_with_len 0 n) passes → AreEach (λ (s : SeatState). admits s.session) seats passes
each_of_seats {P} admits x start n seats passes new each =
    let numbers : map (λ (s : SeatState). s.session) seats ≡ map (λ (n : ℕ). n) (range_with_len 0 n) =
    map_same (λ (s : SeatState). s.session) (λ (n : ℕ). n) seats (range_with_len 0 n) (omega (arith, new.count, length-range_with_len 0 n))
    (λ k s e lt.
    let here = get_or-range_with_len 0 n k e (omega (arith, new.count)) in
    ap (λ (t : SeatState). t.session) (new.each k s (omega (arith, new.count, lt))) ∙ omega (arith, here)) in
    each_mapped admits (λ (s : SeatState). s.session) seats passes
    (subst (λ (ns : List ℕ). AreEach admits ns passes) (sym (numbers ∙ map-id (range_with_len 0 n))) each)

-- and are all that it has
pub all_new : (x : Exchange) (start n : ℕ) (seats : List SeatState) → AreNew x.word start n seats → AreAllSeats x seats
all_new x start n seats new = record { each = λ k d lt. (all_fresh x start n seats new k d lt).exchange; parts = new.parts }

-- ---- all sessions

-- each seat of a new exchange has had its session
pub all_hosted : {C : Type 0} (loses : Bool) (x : Exchange) (start : ℕ) (g : KnownClients) (received : C → Option (List ℕ)) (seats : List SeatState)
    (ss : List (Ended C))
    → AreNew x.word start g.clients seats → AreEach (IsOfSeat loses x g received) seats ss → AreHostedSessionsAt loses x start g received ss
all_hosted {C} loses x start g received seats ss new each =
    let n = g.clients in
    let len : length ss ≡ length seats = each_length (IsOfSeat loses x g received) seats ss each in
    let at : (k : ℕ) (s : Ended C) → k < length ss → IsOfSeat loses x g received (new_seat x.word start k (parts_at n k)) (get_or ss k s) =
    λ k s lt. (let d = new_seat x.word start k (parts_at n k) in
    subst (λ (seat : SeatState). IsOfSeat loses x g received seat (get_or ss k s)) (new.each k d (omega (arith, len, new.count, lt)))
    (each_at (IsOfSeat loses x g received) seats ss each k d s (omega (arith, len, lt)))) in
    let back = seats_back x start n seats ss (λ s. s.0) new len (λ k s lt. (at k s lt).same) in
    record {
      all_seats = back.0;
      of_clients = record {
        numbers = map-map (λ (v : HostedSession). v.part.session) (hosted_session received) ss ∙ back.1;
        each = All-map (λ (v : HostedSession). IsHostedSession (begun_at loses x start) g v.part v.end) (hosted_session received) ss
            (λ k s lt. (at k s lt).its);
      };
    }

-- ---- a session

-- what a session between the files of its client leaves
pub was_served : {C : Type 0} (loses : Bool) (x : Exchange) (g : KnownClients) (received : C → Option (List ℕ)) (old new : SeatState) (n : ℕ)
    (before after held holds : Option (List ℕ)) (fault : Option ServeFault) (receipt : C)
    → n ≡ old.session → before ≡ g.says n → held ≡ g.contains n → received receipt ≡ holds → IsSameSeat old new
    → ((told : List ℕ) × Appends held holds told × IsServedSession (begun_at loses x old.seen) before after
    (record { part = part_of new; told = told; fault = fault }))
    → IsOfSeat loses x g received old (new, Served fault receipt)
was_served loses x g received old new n before after held holds fault receipt at says held_is closed same s =
    let its : n ≡ new.session = at ∙ sym same.session in
    record {
      same = same;
      its = record {
        rest = after;
        told = s.0;
        session = subst (λ (b : Option (List ℕ)). IsServedSession (begun_at loses x old.seen) b after
            (record { part = part_of new; told = s.0; fault = fault })) (says ∙ ap g.says its) s.2;
        wrote = subst (λ (w : Option (List ℕ)). Appends w (received receipt) s.0) (held_is ∙ ap g.contains its)
            (subst (λ (w : Option (List ℕ)). Appends held w s.0) (sym closed) s.1);
      };
    }

-- nothing has come back
pub none_back : {C : Type 0} (loses : Bool) (x : Exchange) (g : KnownClients) (received : C → Option (List ℕ)) (b : Bool) (back : List SeatState)
    (endings : List (Ending C))
    → back ≡ [] → endings ≡ [] → HaveReturned loses x g received b [] back endings
none_back loses x g received true back endings seats ends = ([], tt, seats, ends)
none_back loses x g received false back endings seats ends = (seats, ends)

-- the session of one more seat, of those that have come back
pub one_more_back : {C : Type 0} (loses : Bool) (x : Exchange) (g : KnownClients) (received : C → Option (List ℕ)) (b : Bool)
    (seats back after : List SeatState) (endings : List (Ending C)) (seat one : SeatState) (e : Ending C)
    → HaveReturned loses x g received b seats back endings → HasReturned loses x g received b seat one (Some e) → after ≡ back ++ one ∷ []
    → (ends : List (Ending C)) → ends ≡ endings ++ e ∷ [] → HaveReturned loses x g received b (seats ++ seat ∷ []) after ends
one_more_back {C} loses x g received true seats back after endings seat one e all its pushed ends put =
    let s : Ended C = (one, e) in (
      all.0 ++ s ∷ [],
      each_push (IsOfSeat loses x g received) seats all.0 seat s all.1 (record { same = its.0; its = its.1 }),
      pushed ∙ ap (λ (ss : List SeatState). ss ++ one ∷ []) all.2 ∙ sym (map-append (λ (s : Ended C). s.0) all.0 (s ∷ [])),
      put ∙ ap (λ (es : List (Ending C)). es ++ e ∷ []) all.3 ∙ sym (map-append (λ (s : Ended C). s.1) all.0 (s ∷ [])),
    )
one_more_back loses x g received false seats back after endings seat one e all its pushed ends put = absurd its

-- or one more seat as it was
pub one_more_idle : {C : Type 0} (loses : Bool) (x : Exchange) (g : KnownClients) (received : C → Option (List ℕ)) (b : Bool)
    (seats back after : List SeatState) (endings : List (Ending C)) (seat one : SeatState)
    → HaveReturned loses x g received b seats back endings → HasReturned loses x g received b seat one None → after ≡ back ++ one ∷ []
    → HaveReturned loses x g received b (seats ++ seat ∷ []) after endings
one_more_idle loses x g received true seats back after endings seat one all its pushed = absurd its
one_more_idle loses x g received false seats back after endings seat one all its pushed =
    (pushed ∙ ap₂ (λ (ss : List SeatState) (s : SeatState). ss ++ s ∷ []) all.0 its, all.1)

-- so many have had their session
count_hosted : {C : Type 0} (loses : Bool) (x : Exchange) (start : ℕ) (g : KnownClients) (received : C → Option (List ℕ)) (ss : List (Ended C))
    → AreHostedSessionsAt loses x start g received ss → length ss ≡ g.clients
count_hosted {C} loses x start g received ss all =
    sym (length-map ss (λ (s : Ended C). s.0.session)) ∙ sym (ap length (map-map (λ (v : HostedSession). v.part.session) (hosted_session received) ss))
    ∙ ap length all.of_clients.numbers ∙ length-range_with_len 0 g.clients

-- where it was decided that sessions begin, each client has had its session
pub begun_all : {C : Type 0} (loses : Bool) (x : Exchange) (start : ℕ) (g : KnownClients) (received : C → Option (List ℕ)) (decided : Option ThreadsStarted)
    (seats back : List SeatState) (endings : List (Ending C))
    → begins g.clients decided ≡ true → HaveReturned loses x g received (begins g.clients decided) seats back endings → AreNew x.word start g.clients seats
    → AreAllHosted loses x start g received back endings
begun_all loses x start g received decided seats back endings is all new =
    let h = subst (λ (b : Bool). HaveReturned loses x g received b seats back endings) is all in
    (h.0, all_hosted loses x start g received seats h.0 new h.1, h.2, h.3)

-- else the seats are as they were
pub begun_none : {C : Type 0} (loses : Bool) (x : Exchange) (start : ℕ) (g : KnownClients) (received : C → Option (List ℕ)) (decided : Option ThreadsStarted)
    (seats back : List SeatState) (endings : List (Ending C))
    → begins g.clients decided ≡ false → HaveReturned loses x g received (begins g.clients decided) seats back endings → AreNew x.word start g.clients seats
    → AreNew x.word start g.clients back
begun_none loses x start g received decided seats back endings is all new =
    let h = subst (λ (b : Bool). HaveReturned loses x g received b seats back endings) is all in
    subst (AreNew x.word start g.clients) (sym h.0) new

-- each client has one end
pub as_many_ends : {C : Type 0} (loses : Bool) (x : Exchange) (start : ℕ) (g : KnownClients) (received : C → Option (List ℕ)) (seats : List SeatState)
    (endings : List (Ending C))
    → AreAllHosted loses x start g received seats endings → length endings ≡ g.clients
as_many_ends {C} loses x start g received seats endings all =
    let How : Ended C → Ending C = λ s. s.1 in
    ap length all.3 ∙ length-map all.0 How ∙ count_hosted loses x start g received all.0 all.1

-- ---- what is printed of them

same_line : {C : Type 0} (received : C → Option (List ℕ)) (e : Ending C) → ending_line (seen_end received e) ≡ ending_line e
same_line received Unopened = refl
same_line received (Served fault receipt) = refl

same_failure : {C : Type 0} (received : C → Option (List ℕ)) (e : Ending C) → has_failed (seen_end received e) ≡ has_failed e
same_failure received Unopened = refl
same_failure received (Served fault receipt) = refl

-- those that failed
same_failures : {C : Type 0} (received : C → Option (List ℕ)) (es : List (Ending C)) → list_any has_failed (map (seen_end received) es) ≡ list_any has_failed es
same_failures received [] = refl
same_failures received (e ∷ es) = ap₂ ◌||◌ (same_failure received e) (same_failures received es)

-- what is printed by their numbers is what is printed of sessions that have these
ends_are : {C : Type 0} (g : KnownClients) (received : C → Option (List ℕ)) (ss : List (Ended C)) (first : ℕ) → map (λ (s : Ended C). s.0.session) ss
    ≡ range_with_len first (length ss)
    → ends_text g first (map (λ (s : Ended C). s.1) ss) ≡ flat_map (hosted_text g) (map (hosted_session received) ss)
ends_are g received [] first numbers = refl
ends_are {C} g received (s ∷ ss) first numbers =
    let at : s.0.session ≡ first = ap (λ (ns : List ℕ). get_or ns 0 first) numbers in
    let more : map (λ (s : Ended C). s.0.session) ss ≡ range_with_len (first + 1) (length ss) = ap (λ (ns : List ℕ). drop 1 ns) numbers in
    ap₂ (λ (xs ys : List ℕ). xs ++ ys)
    (ap₂ (λ (n : ℕ) (line : List ℕ). hosted_heading g n ++ line) (sym at) (sym (same_line received s.1)))
    (ends_are g received ss (first + 1) more)

-- one more of them is printed
pub ends_push : {C : Type 0} (g : KnownClients) (first : ℕ) (es : List (Ending C)) (e : Ending C) → ends_text g first (es ++ e ∷ []) ≡ ends_text g first es
    ++ (hosted_heading g (first + length es) ++ ending_line e)
ends_push g first [] e = append-nil (hosted_heading g first ++ ending_line e) ∙ ap (λ (n : ℕ). hosted_heading g n ++ ending_line e) (omega arith)
ends_push g first (d ∷ es) e =
    let here : List ℕ = hosted_heading g first ++ ending_line d in
    ap (λ (xs : List ℕ). here ++ xs) (ends_push g (first + 1) es e)
    ∙ sym (append_assoc here (ends_text g (first + 1) es) (hosted_heading g (first + 1 + length es) ++ ending_line e))
    ∙ ap (λ (n : ℕ). ends_text g first (d ∷ es) ++ (hosted_heading g n ++ ending_line e)) (omega arith)

-- those of the first of them and one more
pub one_more_end : {C : Type 0} (g : KnownClients) (es : List (Ending C)) (i client : ℕ) (e : Ending C) (before after : List ℕ) → i < length es → client ≡ i → e
    ≡ get_or es i e
    → before ≡ ends_text g 0 (take i es) → after ≡ before ++ (hosted_heading g client ++ ending_line e) → after ≡ ends_text g 0 (take (i + 1) es)
one_more_end {C} g es i client e before after lt at is framed more =
    let count : client ≡ 0 + length (take i es) = omega (arith, at, lt, length-take-le i es (omega (arith, lt))) in
    let last : List ℕ = hosted_heading g client ++ ending_line e in
    more
    ∙ ap (λ (xs : List ℕ). xs ++ last) framed
    ∙ ap₂ (λ (n : ℕ) (d : Ending C). ends_text g 0 (take i es) ++ (hosted_heading g n ++ ending_line d)) count is
    ∙ sym (ends_push g 0 (take i es) (get_or es i e))
    ∙ ap (ends_text g 0) (sym (take_more es i e lt))

-- room for so many and one more
pub room_more : (g : KnownClients) (k : ℕ) → room_of g (k + 1) ≡ room_of g k + session_room g k
room_more g k = let more : k + 1 ≡ suc k = omega arith in ap (room_of g) more

-- room for one more is within room for all
pub room_within : (g : KnownClients) (k n : ℕ) → k < n → room_of g k + session_room g k ≤ room_of g n
room_within g k zero lt = absurd (omega (arith, lt))
room_within g k (suc n) lt = elim (cases_lt k n) [
  | inl less ↦ let r = room_within g k n less in omega (arith, r)
  | inr out ↦ let same : k ≡ n = omega (arith, lt, out) in rw same (omega arith)
]

-- ---- the exchange is closed

-- what is printed of the sessions is what the host answers
pub are_hosted : {C : Type 0} (loses : Bool) (opening : Store) (earlier : List Entry) (was : BookView) (x : Exchange) (start : ℕ) (g : KnownClients)
    (received : C → Option (List ℕ))
    (seats : List SeatState) (endings : List (Ending C)) (text : List ℕ) (failed : Bool) (printed : Printed) (left : BookView)
    → AreAllHosted loses x start g received seats endings → begun_at loses x start ≡ beginning loses was → was.opening ≡ opening → was.history ≡ earlier
    → text ≡ ends_text g 0 endings → failed ≡ list_any has_failed endings
    → IsClosing loses opening earlier (map part_of seats) text failed printed left → AreHosted loses was g (map (seen_end received) endings) printed left
are_hosted {C} loses opening earlier was x start g received seats endings text failed printed left all begun words entries framed fails closed =
    let ss = all.0 in
    let Seat : Ended C → SeatState = λ s. s.0 in
    let How : Ended C → Ending C = λ s. s.1 in
    let sessions : List HostedSession = map (hosted_session received) ss in
    let ends : map (λ (v : HostedSession). v.end) sessions ≡ map (seen_end received) endings = map-map (λ (v : HostedSession). v.end) (hosted_session received)
    ss ∙ sym (map-map (seen_end received) How ss) ∙ ap (map (seen_end received)) (sym all.3) in
    let parts : map part_of seats ≡ map (λ (v : HostedSession). v.part) sessions = ap (map part_of) all.2 ∙ map-map part_of Seat ss
    ∙ sym (map-map (λ (v : HostedSession). v.part) (hosted_session received) ss) in
    let failures : failed ≡ list_any has_failed (map (seen_end received) endings) = fails ∙ sym (same_failures received endings) in
    let of_ss : map (λ (s : Ended C). s.0.session) ss ≡ range_with_len 0 g.clients =
    sym (map-map (λ (v : HostedSession). v.part.session) (hosted_session received) ss) ∙ all.1.of_clients.numbers in
    let count : length ss ≡ g.clients = count_hosted loses x start g received ss all.1 in
    let numbers : map (λ (s : Ended C). s.0.session) ss ≡ range_with_len 0 (length ss) = of_ss ∙ ap (range_with_len 0) (sym count) in
    let text_is : text ≡ flat_map (hosted_text g) sessions = framed ∙ ap (ends_text g 0) all.3 ∙ ends_are g received ss 0 numbers in
    (sessions, ends, rw begun at all.1.of_clients, rw (sym words, sym entries, parts, text_is, failures) at closed)
