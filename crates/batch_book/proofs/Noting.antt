-- What is noted of calls.
use Rattle.std.proofs.Common.{◌≡◌, ℕ, ◌+◌, ◌≤◌, max, List, [], ◌∷◌, ◌++◌, Bool, true, false, true≢false, All, get_or, cond, nat_eq, if◌then◌else◌, Option, Some, None, Result, Ok, Err, IfOk, is_err}
use Rattle.std.proofs.Common.{◌||◌, refl, sym, ap, ap₂, ◌==◌, ◌∙◌, subst, arith, append_assoc, append-nil}
use Rattle.std.proofs.lemmas.Bool.{or_left, or_right}
use Rattle.std.proofs.lemmas.Grind.{flat_map-append}
use Rattle.std.proofs.lemmas.List.Elements.{filter-append}
use Rattle.crossbar.specs.declared.port.ConfigPort.{Ghosts}
use Rattle.batch.specs.ShapeView.{ShapeView}
use Rattle.setting_runner.specs.Plants.{LeavesPlant, RunSchedule}
use Rattle.setting_runner.specs.Runs.{TellsOutcome}
use Rattle.setting_runner.specs.declared.plant.Plant.{Plant}
use Rattle.progress_word.specs.Watchers.{WatcherView}
use Rattle.batch_book.specs.declared.call.Call.{Call}
use Rattle.batch_book.specs.declared.entry.Entry.{Entry}
use Rattle.batch_book.specs.declared.reply.Reply.{Reply}
use Rattle.batch_book.specs.declared.unrecorded.Unrecorded.{Unrecorded}
use Rattle.batch_book.specs.Answering.{IsReplyTo}
use Rattle.batch_book.specs.History.{BookView, AreUnstopped, IsSound, IsPrefix, entry}
use Rattle.batch_book.specs.Places.{LogAgrees, notes_of}
use Rattle.batch_book.specs.Recording.{Applies, IsAnswered, Noted, asked_by, entry_if, entry_of, has_mark, made_by, made_in, mark, marks, note, noted, marked_in, value_made}
use Rattle.batch_book.specs.Replies.{NeverFail, is_logged, outcome_in}
use Rattle.batch_book.specs.Seats.{IsAsked, IsRecorded, Reaches, SeatState, open_seat, own, raised_for}
use Rattle.batch_book.specs.Values.{greatest, value_of}
use Rattle.batch_book.proofs.Answering.{replied}
use Rattle.batch_book.proofs.Fronts.{IsFront, starts, starts_same, starts_then}
use Rattle.batch_book.proofs.Seats.{Hears, greatest_push, heard, stays, unheard, unlogged_value}
use Rattle.batch_book.proofs.Unstopped.{stay_unstopped}

-- ---- lists that grow

pub made_append : (xs ys : List Noted) → made_in (xs ++ ys) ≡ made_in xs ++ made_in ys
made_append xs ys = flat_map-append made_by xs ys

made_noted_if : (b : Bool) (session place : ℕ) (c : Call) (r : Reply) → made_in (if b then note session place c r ∷ [] else []) ≡ entry_if b (entry session c r)
made_noted_if true session place c r = refl
made_noted_if false session place c r = refl

pub made_noted : (session place : ℕ) (c : Call) (r : Result Reply Unrecorded) → made_in (noted session place c r) ≡ asked_by session c r
made_noted session place c (Ok reply) = made_noted_if (is_logged reply) session place c reply
made_noted session place c (Err lost) = refl

pub made_mark : (ns : List Noted) (session : ℕ) → made_in (ns ++ mark session ∷ []) ≡ made_in ns
made_mark ns session = made_append ns (mark session ∷ []) ∙ append-nil (made_in ns)

-- ---- marks

mark_has : (ns : List Noted) (session : ℕ) → has_mark (ns ++ mark session ∷ []) ≡ true
mark_has [] session = refl
mark_has (n ∷ ns) session = or_right (marks n) (has_mark (ns ++ mark session ∷ [])) (mark_has ns session)

-- after what is no mark
plain_has : (ns : List Noted) (m : Noted) → marks m ≡ false → has_mark (ns ++ m ∷ []) ≡ has_mark ns
plain_has [] m plain = ap (λ (b : Bool). b || false) plain
plain_has (n ∷ ns) m plain = ap (λ (b : Bool). marks n || b) (plain_has ns m plain)

-- after a mark all could be told that was made
pub told_mark : (ns : List Noted) (session : ℕ) → marked_in (ns ++ mark session ∷ []) ≡ made_in ns
told_mark [] session = refl
told_mark (n ∷ ns) session =
    ap (λ (b : Bool). if b then made_by n ++ marked_in (ns ++ mark session ∷ []) else []) (mark_has (n ∷ ns) session) ∙ ap (λ (l : List Entry). made_by n ++ l)
    (told_mark ns session)

-- after what is no mark no more could be told than before
pub told_plain : (ns : List Noted) (m : Noted) → marks m ≡ false → marked_in (ns ++ m ∷ []) ≡ marked_in ns
told_plain [] m plain = ap (λ (b : Bool). if b || false then made_by m ++ [] else []) plain
told_plain (n ∷ ns) m plain =
    ap (λ (b : Bool). if b then made_by n ++ marked_in (ns ++ m ∷ []) else []) (plain_has (n ∷ ns) m plain)
    ∙ ap (λ (l : List Entry). if has_mark (n ∷ ns) then made_by n ++ l else []) (told_plain ns m plain)

told_if : (ns : List Noted) (session place : ℕ) (c : Call) (r : Reply) (b : Bool) → marked_in (ns ++ (if b then note session place c r ∷ [] else []))
    ≡ marked_in ns
told_if ns session place c r true = told_plain ns (note session place c r) refl
told_if ns session place c r false = ap marked_in (append-nil ns)

pub told_noted : (ns : List Noted) (session place : ℕ) (c : Call) (r : Result Reply Unrecorded) → marked_in (ns ++ noted session place c r) ≡ marked_in ns
told_noted ns session place c (Ok reply) = told_if ns session place c reply (is_logged reply)
told_noted ns session place c (Err lost) = ap marked_in (append-nil ns)

-- what could be told are the first that were made
pub told_front : (ns : List Noted) → IsFront (marked_in ns) (made_in ns)
told_front [] = ([], refl)
told_front (n ∷ ns) = by (has_mark (n ∷ ns)) refl (told_front ns)
  where
    by : (b : Bool) → has_mark (n ∷ ns) ≡ b → IsFront (marked_in ns) (made_in ns) → IsFront (marked_in (n ∷ ns)) (made_in (n ∷ ns))
    by true some rest = (
      rest.0,
      ap (λ (l : List Entry). made_by n ++ l) rest.1 ∙ sym (append_assoc (made_by n) (marked_in ns) rest.0)
          ∙ ap (λ (b : Bool). (if b then made_by n ++ marked_in ns else []) ++ rest.0) (sym some),
    )
    by false none rest = (made_in (n ∷ ns), ap (λ (b : Bool). (if b then made_by n ++ marked_in ns else []) ++ made_in (n ∷ ns)) (sym none))

-- ---- what a call adds to the history

grown_if : (old new : BookView) (session : ℕ) (c : Call) (r : Reply) (b : Bool) → is_logged r ≡ b → IsAnswered old session c r new → new.history ≡ old.history
    ++ entry_if b (entry session c r)
grown_if old new session c r true is answered = (answered.grown is).history
grown_if old new session c r false is answered = ap (λ (a : BookView). a.history) (answered.unlogged is) ∙ sym (append-nil old.history)

pub grown_by : (old new : BookView) (session place : ℕ) (c : Call) (r : Result Reply Unrecorded) → Applies old session c r new → new.history ≡ old.history
    ++ made_in (noted session place c r)
grown_by old new session place c (Ok reply) is =
    grown_if old new session c reply (is_logged reply) refl is ∙ ap (λ (es : List Entry). old.history ++ es)
    (sym (made_noted_if (is_logged reply) session place c reply))
grown_by old new session place c (Err lost) is = ap (λ (a : BookView). a.history) is.1 ∙ sym (append-nil old.history)

pub kept_more : (earlier : List Entry) (notes : List Noted) (old new : BookView) (session place : ℕ) (c : Call) (r : Result Reply Unrecorded)
    → Applies old session c r new → old.history ≡ earlier ++ made_in notes → new.history ≡ earlier ++ made_in (notes ++ noted session place c r)
kept_more earlier notes old new session place c r is kept =
    grown_by old new session place c r is ∙ (ap (λ (es : List Entry). es ++ made_in (noted session place c r)) kept
    ∙ (append_assoc earlier (made_in notes) (made_in (noted session place c r)) ∙ ap (λ (es : List Entry). earlier ++ es)
    (sym (made_append notes (noted session place c r)))))

-- ---- values

one_more : (notes : List Noted) (session place : ℕ) (c : Call) (r : Reply) → greatest (made_in (notes ++ note session place c r ∷ []))
    ≡ max (greatest (made_in notes)) (value_of r)
one_more notes session place c r = ap greatest (made_append notes (note session place c r ∷ [])) ∙ greatest_push (made_in notes) (entry session c r)

greatest_if : (notes : List Noted) (session place : ℕ) (c : Call) (r : Reply) (b : Bool) → is_logged r ≡ b
    → greatest (made_in (notes ++ (if b then note session place c r ∷ [] else []))) ≡ max (greatest (made_in notes)) (value_of r)
greatest_if notes session place c r true is = one_more notes session place c r
greatest_if notes session place c r false is =
    let none = unlogged_value r is in let same = ap (λ (ns : List Noted). greatest (made_in ns)) (append-nil notes) in omega (arith, none, same)

pub greatest_more : (notes : List Noted) (session place : ℕ) (c : Call) (r : Result Reply Unrecorded) → greatest (made_in (notes ++ noted session place c r))
    ≡ max (greatest (made_in notes)) (value_made r)
greatest_more notes session place c (Ok reply) = greatest_if notes session place c reply (is_logged reply) refl
greatest_more notes session place c (Err lost) = let same = ap (λ (ns : List Noted). greatest (made_in ns)) (append-nil notes) in omega (arith, same)

pub greatest_append : (earlier es : List Entry) → greatest (earlier ++ es) ≡ max (greatest earlier) (greatest es)
greatest_append [] es = omega arith
greatest_append (x ∷ earlier) es = let rest = greatest_append earlier es in omega (arith, rest)

first_below : (earlier : List Entry) (b : Bool) → greatest (if b then earlier else []) ≤ greatest earlier
first_below earlier true = omega arith
first_below earlier false = omega arith

-- a seat raises to no more than all entries tell of
pub raised_below : (earlier : List Entry) (session : ℕ) (asked : List Entry) → greatest (raised_for earlier session asked) ≤ max (greatest earlier)
    (greatest asked)
raised_below earlier session asked =
    let first = first_below earlier (session == 0) in
    let both = greatest_append (if session == 0 then earlier else []) asked in
    omega (arith, first, both)

-- what a seat has raised to, with a call more
pub raised_more : (earlier : List Entry) (session by place after : ℕ) (notes list : List Noted) (c : Call) (r : Result Reply Unrecorded) (was now : ℕ)
    → was ≡ greatest (raised_for earlier session (made_in notes)) → now ≡ max was (value_made r) → after ≡ session → list ≡ notes ++ noted by place c r
    → now ≡ greatest (raised_for earlier after (made_in list))
raised_more earlier session by place after notes list c r was now is next same grown =
    let first : List Entry = if session == 0 then earlier else [] in
    let before = greatest_append first (made_in notes) in
    let behind = greatest_append first (made_in (notes ++ noted by place c r)) in
    let more = greatest_more notes by place c r in
    let all : now ≡ greatest (raised_for earlier session (made_in (notes ++ noted by place c r))) = omega (arith, is, next, before, behind, more) in
    all ∙ ap₂ (λ (s : ℕ) (ns : List Noted). greatest (raised_for earlier s (made_in ns))) (sym same) (sym grown)

-- ---- a session's own

pub own_append : (session : ℕ) (xs ys : List Entry) → own session (xs ++ ys) ≡ own session xs ++ own session ys
own_append session xs ys = filter-append (λ (e : Entry). nat_eq e.session session) xs ys

-- the entry of a note that is the session's, and of one that isn't
pub own_made : (session by : ℕ) (m : Option (Call × Reply)) → nat_eq by session ≡ true → own session (entry_of by m) ≡ entry_of by m
own_made session by None is = refl
own_made session by (Some m) is = ap (λ (b : Bool). cond b (entry by m.0 m.1 ∷ []) []) is

pub others_made : (session by : ℕ) (m : Option (Call × Reply)) → nat_eq by session ≡ false → own session (entry_of by m) ≡ []
others_made session by None is = refl
others_made session by (Some m) is = ap (λ (b : Bool). cond b (entry by m.0 m.1 ∷ []) []) is

-- the entries of its notes, where some stand after its own or another's
own_behind : (session : ℕ) (n : Noted) (es : List Entry) → nat_eq n.session session ≡ true → own session (made_by n ++ es) ≡ made_by n ++ own session es
own_behind session n es is = own_append session (made_by n) es ∙ ap (λ (l : List Entry). l ++ own session es) (own_made session n.session n.made is)

own_past : (session : ℕ) (n : Noted) (es : List Entry) → nat_eq n.session session ≡ false → own session (made_by n ++ es) ≡ own session es
own_past session n es is = own_append session (made_by n) es ∙ ap (λ (l : List Entry). l ++ own session es) (others_made session n.session n.made is)

-- what its notes made is its own of what all made
pub own_asked : (session : ℕ) (notes : List Noted) → made_in (notes_of session notes) ≡ own session (made_in notes)
own_asked session [] = refl
own_asked session (n ∷ ns) = by (nat_eq n.session session) refl (own_asked session ns)
  where
    N : List Noted
    N = notes_of session ns

    by : (b : Bool) → nat_eq n.session session ≡ b → made_in N ≡ own session (made_in ns) → made_in (notes_of session (n ∷ ns)) ≡ own session (made_in (n ∷ ns))
    by true is rest = ap (λ (b : Bool). made_in (cond b (n ∷ N) N)) is ∙ ap (λ (l : List Entry). made_by n ++ l) rest
        ∙ sym (own_behind session n (made_in ns) is)
    by false is rest = ap (λ (b : Bool). made_in (cond b (n ∷ N) N)) is ∙ rest ∙ sym (own_past session n (made_in ns) is)

none_told : (ns : List Noted) → has_mark ns ≡ false → marked_in ns ≡ []
none_told [] none = refl
none_told (n ∷ ns) none = ap (λ (b : Bool). if b then made_by n ++ marked_in ns else []) none

-- a mark of the session is one of all
own_mark : (session : ℕ) (ns : List Noted) → has_mark (notes_of session ns) ≡ true → has_mark ns ≡ true
own_mark session [] some = some
own_mark session (n ∷ ns) some = by (nat_eq n.session session) refl (own_mark session ns)
  where
    N : List Noted
    N = notes_of session ns

    by : (b : Bool) → nat_eq n.session session ≡ b → (has_mark N ≡ true → has_mark ns ≡ true) → has_mark (n ∷ ns) ≡ true
    by true is further = two (marks n) refl
      where
        two : (m : Bool) → marks n ≡ m → has_mark (n ∷ ns) ≡ true
        two true its = or_left (marks n) (has_mark ns) its
        two false its =
            or_right (marks n) (has_mark ns) (further (ap (λ (b : Bool). b || has_mark N) (sym its) ∙ ap (λ (b : Bool). has_mark (cond b (n ∷ N) N)) (sym is)
            ∙ some))
    by false is further = or_right (marks n) (has_mark ns) (further (ap (λ (b : Bool). has_mark (cond b (n ∷ N) N)) (sym is) ∙ some))

-- what could be told by its notes are the first of its own of what could be told by all
own_told : (session : ℕ) (ns : List Noted) → IsFront (marked_in (notes_of session ns)) (own session (marked_in ns))
own_told session [] = ([], refl)
own_told session (n ∷ ns) = by (nat_eq n.session session) refl (own_told session ns)
  where
    N : List Noted
    N = notes_of session ns

    mine : List Noted
    mine = notes_of session (n ∷ ns)

    all : List Entry
    all = own session (marked_in (n ∷ ns))

    told_some : has_mark (n ∷ ns) ≡ true → marked_in (n ∷ ns) ≡ made_by n ++ marked_in ns
    told_some some = ap (λ (b : Bool). if b then made_by n ++ marked_in ns else []) some

    by : (b : Bool) → nat_eq n.session session ≡ b → IsFront (marked_in N) (own session (marked_in ns)) → IsFront (marked_in mine) all
    by true is rest = two (has_mark (n ∷ N)) refl
      where
        own_is : mine ≡ n ∷ N
        own_is = ap (λ (b : Bool). cond b (n ∷ N) N) is

        two : (c : Bool) → has_mark (n ∷ N) ≡ c → IsFront (marked_in mine) all
        two false none = (all, sym (ap (λ (l : List Entry). l ++ all) (ap marked_in own_is ∙ none_told (n ∷ N) none)))
        two true some =
            let marked : has_mark (n ∷ ns) ≡ true = own_mark session (n ∷ ns) (ap has_mark own_is ∙ some) in
            let its : marked_in mine ≡ made_by n ++ marked_in N = ap marked_in own_is ∙ ap (λ (b : Bool). if b then made_by n ++ marked_in N else []) some in (
              rest.0,
              ap (own session) (told_some marked) ∙ own_behind session n (marked_in ns) is ∙ ap (λ (l : List Entry). made_by n ++ l) rest.1
                  ∙ sym (append_assoc (made_by n) (marked_in N) rest.0)
                  ∙ ap (λ (l : List Entry). l ++ rest.0) (sym its),
            )
    by false is rest = two (has_mark (n ∷ ns)) refl
      where
        own_is : mine ≡ N
        own_is = ap (λ (b : Bool). cond b (n ∷ N) N) is

        unmarked : has_mark (n ∷ ns) ≡ false → (m : Bool) → has_mark N ≡ m → has_mark N ≡ false
        unmarked none false e = e
        unmarked none true e = absurd (true≢false (sym (own_mark session (n ∷ ns) (ap has_mark own_is ∙ e)) ∙ none))

        two : (c : Bool) → has_mark (n ∷ ns) ≡ c → IsFront (marked_in mine) all
        two false none = (all, sym (ap (λ (l : List Entry). l ++ all) (ap marked_in own_is ∙ none_told N (unmarked none (has_mark N) refl))))
        two true some = (
          rest.0,
          ap (own session) (told_some some) ∙ own_past session n (marked_in ns) is ∙ rest.1 ∙ ap (λ (l : List Entry). l ++ rest.0) (sym (ap marked_in own_is)),
        )

recorded : (s : SeatState) (notes : List Noted) → LogAgrees notes s → IsRecorded (marked_in notes) s
recorded s notes told =
    let f = own_told s.session notes in
    starts s.log _ f.0 (f.1 ∙ ap (λ (l : List Entry). l ++ f.0) (sym told))

-- and so of what stands
pub recorded_more : (told more : List Entry) (s : SeatState) → IsRecorded told s → IsRecorded (told ++ more) s
recorded_more told more s is = starts_then s.log (own s.session told) _ is (starts (own s.session told) _ (own s.session more) (own_append s.session told more))

pub all_recorded : (notes : List Noted) (more : List Entry) (seats : List SeatState) → All (LogAgrees notes) seats → All (IsRecorded (marked_in notes ++ more))
    seats
all_recorded notes more seats all = λ k d less. recorded_more (marked_in notes) more (get_or seats k d) (recorded (get_or seats k d) notes (all k d less))

greatest_cond : (e : Entry) (es xs : List Entry) → greatest xs ≤ greatest es → (b : Bool) → greatest (cond b (e ∷ xs) xs) ≤ greatest (e ∷ es)
greatest_cond e es xs le true = omega (arith, le)
greatest_cond e es xs le false = omega (arith, le)

-- a session's own tell of no more than all
pub greatest_own : (session : ℕ) (es : List Entry) → greatest (own session es) ≤ greatest es
greatest_own session [] = omega arith
greatest_own session (e ∷ es) = greatest_cond e es (own session es) (greatest_own session es) (nat_eq e.session session)

-- ---- a call of the exchange

pub replied_made : (old new : BookView) (session : ℕ) (c : Call) (r : Result Reply Unrecorded) → IsSound old.machine → Applies old session c r new
    → IfOk r (IsReplyTo c)
replied_made old new session c (Ok reply) sound is = replied old session c reply new sound is.grown
replied_made old new session c (Err lost) sound is = tt

pub heard_made : {N : Type 0} (watcher : N → WatcherView) (run : N → ℕ) (a b : N) (old new : BookView) (session : ℕ) (c : Call) (r : Result Reply Unrecorded)
    → IsSound old.machine → run a ≡ old.machine.runs + 1 → Applies old session c r new → TellsOutcome (Hears watcher run) a (outcome_in r) b
    → Reaches (watcher a) (value_made r) (watcher b)
heard_made watcher run a b old new session c (Ok reply) sound next is h = heard watcher run a b old session c reply new sound next is.grown h
heard_made watcher run a b old new session c (Err lost) sound next is h = stays (watcher a) (watcher b) (ap watcher h)

pub unheard_made : {N : Type 0} (watcher : N → WatcherView) (run : N → ℕ) (a b : N) (old new : BookView) (session : ℕ) (c : Call) (r : Result Reply Unrecorded)
    → IsSound old.machine → Applies old session c r new → TellsOutcome (Hears watcher run) a (outcome_in r) b
    → value_made r ≡ 0 → watcher b ≡ watcher a
unheard_made watcher run a b old new session c (Ok reply) sound is h none = unheard watcher run a b old session c reply new sound is.grown h none
unheard_made watcher run a b old new session c (Err lost) sound is h none = ap watcher h

pub asked : (o p : WatcherView) (session place parts after : ℕ) (broken breaks : Bool) (notes list : List Noted) (c : Call) (r : Result Reply Unrecorded)
    → Reaches o (value_made r) p → (value_made r ≡ 0 → p ≡ o) → after ≡ parts → list ≡ notes ++ noted session place c r → breaks ≡ is_err r || broken
    → IsAsked (open_seat o session (made_in notes) (marked_in notes) parts broken) c r (open_seat p session (made_in list) (marked_in list) after breaks)
asked o p session place parts after broken breaks notes list c r reaches quiet same are is = record {
  seat = record { exchange = ap Some reaches.word; session = refl; parts = same };
  asked = ap made_in are ∙ (made_append notes (noted session place c r) ∙ ap (λ (es : List Entry). made_in notes ++ es) (made_noted session place c r));
  log = starts_same (marked_in notes) (marked_in list) (sym (ap marked_in are ∙ told_noted notes session place c r));
  later = reaches.later;
  seen = reaches.seen;
  quiet = λ none. ap (λ (w : WatcherView). w.seen) (quiet none);
  broken = is;
}

-- where the reply can be told at once
pub asked_all : (old new all : SeatState) (c : Call) (r : Result Reply Unrecorded) → IsAsked old c r new → IsPrefix new.log new.asked → all
    ≡ record new { log = new.asked } → IsAsked old c r all
asked_all old new all c r is front same =
    subst (IsAsked old c r) (sym same) record {
      seat = record { exchange = is.seat.exchange; session = is.seat.session; parts = is.seat.parts };
      asked = is.asked;
      log = starts_then old.log new.log new.asked is.log front;
      later = is.later;
      seen = is.seen;
      quiet = is.quiet;
      broken = is.broken;
    }

pub unstopped_made : {P W G : Type 0} (seen : Ghosts P) (sure : W → ℕ → Type 0) (shape : ShapeView) (ran : Option RunSchedule) (plant next : Plant P W G)
    (old new : BookView) (session : ℕ) (c : Call) (r : Result Reply Unrecorded)
    → LeavesPlant seen sure shape ran (outcome_in r) plant next → Applies old session c r new → (NeverFail seen sure → AreUnstopped old.history)
    → NeverFail seen sure → AreUnstopped new.history
unstopped_made seen sure shape ran plant next old new session c (Ok reply) left is before never = by (is_logged reply) refl
  where
    by : (b : Bool) → is_logged reply ≡ b → AreUnstopped new.history
    by true logged = stay_unstopped seen sure shape ran plant next old session c reply new left (is.grown logged) before never
    by false logged = subst (λ (a : BookView). AreUnstopped a.history) (sym (is.unlogged logged)) (before never)
unstopped_made seen sure shape ran plant next old new session c (Err lost) left is before never = subst (λ (a : BookView). AreUnstopped a.history) (sym is.1)
    (before never)
