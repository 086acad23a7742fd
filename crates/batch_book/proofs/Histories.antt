-- A history that grows.
use Rattle.std.proofs.Common.{◌≡◌, ℕ, ◌+◌, List, [], ◌∷◌, ◌++◌, Bool, true, false, true≢false, ◌⊎◌, inl, inr, length, refl, sym, ap, ◌∙◌, subst, arith, length-append}
use Rattle.batch_book.specs.declared.entry.Entry.{Entry}
use Rattle.batch_book.specs.declared.reply.Reply.{Reply}
use Rattle.batch_book.specs.declared.call.Call.{Call}
use Rattle.batch_book.specs.Machine.{Machine, opened, IsMachineStep}
use Rattle.batch_book.specs.History.{BookView, book_view, IsReplay, IsGrown, IsSoundBook, AreFewEntries, IsPrefix, entry}
use Rattle.batch_book.specs.Recording.{IsAnswered}
use Rattle.batch_book.specs.Replies.{is_logged}
use Rattle.batch_book.proofs.Fronts.{starts, starts_same, starts_then}
use Rattle.batch_book.proofs.Room.{HasRoom, within_more}
use Rattle.batch_book.proofs.Steps.{small_step}

replay_push : (m : Machine) (es : List Entry) (k : Machine) (session : ℕ) (c : Call) (r : Reply) (n : Machine)
    → IsReplay m es k → IsMachineStep k session c r n → IsReplay m (es ++ entry session c r ∷ []) n
replay_push m [] k session c r n led step = (n, subst (λ (x : Machine). IsMachineStep x session c r n) led step, refl)
replay_push m (e ∷ es) k session c r n led step = (led.0, led.1, replay_push led.0 es k session c r n led.2 step)

-- what stands of a history that grows, and what stood
front_more : (old es durable new : List Entry) (e : Entry) → IsPrefix old es → new ≡ es ++ e ∷ [] → (durable ≡ old) ⊎ (durable ≡ new) → IsPrefix durable new
front_more old es durable new e was is (inl same) = subst (λ (l : List Entry). IsPrefix l new) (sym same)
    (starts_then old es new was (starts es new (e ∷ []) is))
front_more old es durable new e was is (inr all) = starts_same durable new all

-- what stands where an entry was drafted, and then pushed
pub either_stands : {old mid new all : List Entry} (loses : Bool) → mid ≡ old → (loses ≡ true → new ≡ mid) → (loses ≡ false → new ≡ all) → (new ≡ old)
    ⊎ (new ≡ all)
either_stands true same waits now = inl (waits refl ∙ same)
either_stands false same waits now = inr (now refl)

pub stays_front : (old es durable new : List Entry) (e : Entry) → IsPrefix old es → new ≡ es ++ e ∷ [] → (durable ≡ old) ⊎ (durable ≡ new)
    → IsPrefix old durable
stays_front old es durable new e was is (inl same) = starts_same old durable (sym same)
stays_front old es durable new e was is (inr all) = subst (IsPrefix old) (sym all) (starts_then old es new was (starts es new (e ∷ []) is))

-- one step of the machine and one more entry, where there was room for it
pub grown : (limited loses : Bool) (a : BookView) (session : ℕ) (c : Call) (r : Reply) (es durable : List Entry) (n : Machine) (whole : Bool)
    → IsSoundBook limited loses a → HasRoom limited a → es ≡ a.history ++ entry session c r ∷ [] → (durable ≡ a.durable) ⊎ (durable ≡ es)
    → (loses ≡ false → durable ≡ es) → IsMachineStep a.machine session c r n → whole ≡ a.whole
    → IsSoundBook limited loses (book_view a.opening es durable n whole)
grown limited loses a session c r es durable n whole kept room is stood all step same =
    let small = small_step a.machine session c r n step in
    let given = small.given in let runs = small.runs in
    let given_before = kept.given in let runs_before = kept.runs in
    let given_room = room.given in let runs_room = room.runs in
    let longer : length es ≡ length a.history + 1 = ap length is ∙ length-append a.history (entry session c r ∷ []) in record {
      replay = subst (λ (x : List Entry). IsReplay (opened a.opening) x n) (sym is)
          (replay_push (opened a.opening) a.history a.machine session c r n kept.replay step);
      few = subst (AreFewEntries limited) (sym longer) (within_more limited (length a.history) room.entries);
      given = omega arith;
      runs = omega arith;
      few_given = omega arith;
      few_runs = omega arith;
      front = front_more a.durable a.history durable es (entry session c r) kept.front is stood;
      all = all;
      lost = λ none. kept.lost (sym same ∙ none);
    }

-- an answer that can be told
pub is_answered : (old new : BookView) (session : ℕ) (c : Call) (r : Reply) → old.whole ≡ true → new.whole ≡ true → is_logged r ≡ true
    → IsGrown old session c r new → IsAnswered old session c r new
is_answered old new session c r was is logged more =
    record { was_whole = was; whole = is; grown = λ _. more; unlogged = λ un. absurd (true≢false (sym logged ∙ un)) }

-- with another history, where a recorder is lent, and where it comes back
pub replaced : (limited its loses lost : Bool) (a : BookView) (es durable : List Entry) (whole : Bool) → IsSoundBook limited loses a → its ≡ limited → lost
    ≡ true → es ≡ a.history → IsPrefix durable es → IsSoundBook its lost (book_view a.opening es durable a.machine whole)
replaced limited its loses lost a es durable whole kept kind is same front = record {
  replay = subst (λ (x : List Entry). IsReplay (opened a.opening) x a.machine) (sym same) kept.replay;
  few = subst (λ (x : Bool × ℕ). AreFewEntries x.0 x.1) (λ i. (sym kind i, length (sym same i))) kept.few;
  given = let longer = ap length same in let given = kept.given in omega (arith, longer, given);
  runs = let longer = ap length same in let runs = kept.runs in omega (arith, longer, runs);
  few_given = kept.few_given;
  few_runs = kept.few_runs;
  front = front;
  all = λ never. absurd (true≢false (sym is ∙ never));
  lost = λ never. is;
}
