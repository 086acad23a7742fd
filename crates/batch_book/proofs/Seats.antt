-- What a notice heard, and the greatest value of a list that grows.
use Rattle.std.proofs.Common.{◌≡◌, ℕ, zero, suc, ◌+◌, ◌<◌, max, List, [], ◌∷◌, ◌++◌, length, length-append, get_or, All, Some, true, false, refl, sym, ap, ◌∙◌, subst, arith}
use Rattle.std.proofs.lemmas.List.{get_or_append_left}
use Rattle.atomic_table.specs.Seated.{TableId}
use Rattle.progress_word.specs.Watchers.{WatcherView}
use Rattle.setting_runner.specs.Runs.{ToldUpTo, TellsOutcome}
use Rattle.batch_book.specs.declared.entry.Entry.{Entry}
use Rattle.batch_book.specs.declared.reply.Reply.{Reply}
use Rattle.batch_book.specs.declared.reply.Reply.TheVariants.{Ran, Stopped}
use Rattle.batch_book.specs.declared.call.Call.{Call}
use Rattle.batch_book.specs.History.{BookView, IsGrown, IsSound}
use Rattle.batch_book.specs.Replies.{is_logged, outcome_of}
use Rattle.batch_book.specs.Seats.{SeatState, Reaches}
use Rattle.batch_book.specs.Values.{value_at, value_of, greatest}
use Rattle.batch_book.proofs.Answering.{answered}

pub greatest_push : (es : List Entry) (e : Entry) → greatest (es ++ e ∷ []) ≡ max (greatest es) (value_of e.reply)
greatest_push [] e = omega arith
greatest_push (x ∷ xs) e = omega (arith, greatest_push xs e)

-- how far runs have come, with an entry more
pub further : (es new : List Entry) (e : Entry) (far value now : ℕ) → far ≡ greatest es → value ≡ value_of e.reply → now ≡ max far value → new ≡ es ++ e ∷ []
    → now ≡ greatest new
further es new e far value now was its is grown =
    is ∙ (ap (λ (n : ℕ). max n value) was ∙ (ap (λ (n : ℕ). max (greatest es) n) its ∙ (sym (greatest_push es e) ∙ ap greatest (sym grown))))

-- what one hears that raises a word from a watcher, in a run
abbrev pub Hears : {N : Type 0} → (N → WatcherView) → (N → ℕ) → N → ℕ → N → Type 0
Hears watcher run a k b = Reaches (watcher a) (value_at (run a) k) (watcher b) × (run b ≡ run a)

pub told : {N : Type 0} (watcher : N → WatcherView) (run : N → ℕ) (a : N) (k : ℕ) (b : N) → ToldUpTo (Hears watcher run) a k b → Hears watcher run a k b
told watcher run a zero b h = h
told {N} watcher run a (suc k) b h =
    let m = h.0 in
    let t = told watcher run a k m h.1 in
    let s = h.2 in
    let t0 = t.0 in let s0 = s.0 in
    let t1 = t.1 in let s1 = s.1 in
    let raised_before = t0.raised in let raised_then = s0.raised in
    let later_before = t0.later in let later_then = s0.later in
    let seen_then = s0.seen in
    (record { word = s0.word ∙ t0.word; parts = s0.parts ∙ t0.parts; raised = omega arith; later = omega arith; seen = omega arith }, s1 ∙ t1)

pub stays : (a b : WatcherView) → b ≡ a → Reaches a 0 b
stays a b is = record {
  word = ap (λ (o : WatcherView). o.word) is;
  parts = ap (λ (o : WatcherView). o.parts) is;
  raised = let e = ap (λ (o : WatcherView). o.raised) is in omega arith;
  later = let e = ap (λ (o : WatcherView). o.seen) is in omega arith;
  seen = omega arith;
}

numbered : (a b : WatcherView) (run number k : ℕ) → number ≡ run → Reaches a (value_at run k) b → Reaches a (value_at number k) b
numbered a b run number k is h = subst (λ n. Reaches a (value_at n k) b) (sym is) h

-- after a call the word was raised from the watcher to the reply's value
pub heard : {N : Type 0} (watcher : N → WatcherView) (run : N → ℕ) (a b : N) (old : BookView) (session : ℕ) (c : Call) (r : Reply) (new : BookView)
    → IsSound old.machine → run a ≡ old.machine.runs + 1 → (is_logged r ≡ true → IsGrown old session c r new) → TellsOutcome (Hears watcher run) a
    (outcome_of r) b
    → Reaches (watcher a) (value_of r) (watcher b)
heard watcher run a b old session c (Ran number settings words) new sound next grown h =
    numbered (watcher a) (watcher b) (run a) number settings
    ((answered old.machine session c (Ran number settings words) new.machine sound (grown refl).step).number ∙ sym next) (told watcher run a settings b h).0
heard watcher run a b old session c (Stopped number setting cause moved) new sound next grown h =
    numbered (watcher a) (watcher b) (run a) number setting
    ((answered old.machine session c (Stopped number setting cause moved) new.machine sound (grown refl).step).number ∙ sym next)
    (told watcher run a setting b h).0
heard watcher run a b old session c r new sound next grown h = stays (watcher a) (watcher b) (ap watcher h)

-- where the reply tells of no run, the watcher is as it was: a run's number isn't 0, nor is its
-- value
pub unheard : {N : Type 0} (watcher : N → WatcherView) (run : N → ℕ) (a b : N) (old : BookView) (session : ℕ) (c : Call) (r : Reply) (new : BookView)
    → IsSound old.machine → (is_logged r ≡ true → IsGrown old session c r new) → TellsOutcome (Hears watcher run) a (outcome_of r) b
    → value_of r ≡ 0 → watcher b ≡ watcher a
unheard watcher run a b old session c (Ran number settings words) new sound grown h none =
    let is = (answered old.machine session c (Ran number settings words) new.machine sound (grown refl).step).number in
    absurd (omega arith)
unheard watcher run a b old session c (Stopped number setting cause moved) new sound grown h none =
    let is = (answered old.machine session c (Stopped number setting cause moved) new.machine sound (grown refl).step).number in
    absurd (omega arith)
unheard watcher run a b old session c r new sound grown h none = ap watcher h

-- a reply that isn't logged tells of no run
pub unlogged_value : (r : Reply) → is_logged r ≡ false → value_of r ≡ 0
unlogged_value (Ran run settings words) h = absurd (cc)
unlogged_value (Stopped run setting cause moved) h = absurd (cc)
unlogged_value r h = refl

-- a seat before the last one, of seats that are all of one word
pub its_word : (seats rest : List SeatState) (last s : SeatState) (word : TableId) (k : ℕ) → All (λ (t : SeatState). t.exchange ≡ Some word) seats → seats
    ≡ rest ++ last ∷ [] → k < length rest → s ≡ get_or rest k s → s.exchange ≡ Some word
its_word seats rest last s word k all grown below is =
    let whole : s ≡ get_or seats k s = is ∙ (sym (get_or_append_left rest (last ∷ []) s k below) ∙ ap (λ (l : List SeatState). get_or l k s) (sym grown)) in
    ap (λ (t : SeatState). t.exchange) whole ∙ all k s (omega (arith, ap length grown, length-append rest (last ∷ [])))
