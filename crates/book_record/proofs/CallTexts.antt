-- A call's lines tell one call, and where they end.
use Rattle.std.proofs.Common.{◌≡◌, ◌≢◌, ℕ, ◌≤◌, List, [], ◌∷◌, ◌++◌, get_or, take, drop, ◌+◌, length, codes, Option, None, Some, IfNone, IfSome, refl, sym, ap, ◌∙◌, subst, append_assoc, arith}
use Rattle.std.specs.Fmt.{decimal}
use Rattle.std.specs.List.{flat_map}
use Rattle.std.specs.Prelude.{position, ◌==◌}
use Rattle.std.proofs.lemmas.Fmt.{decimal_injective}
use Rattle.std.proofs.lemmas.List.{append_cancel_left}
use Rattle.batch.specs.Text.{IsNumber, line, number, space, line_feed}
use Rattle.batch.proofs.Lines.{after_number, ends_space}
use Rattle.batch_book.specs.Told.{PlanlessCall}
use Rattle.batch_book.specs.declared.recorded_call.RecordedCall.TheVariants.{Submit, Fetch, Settle}
use Rattle.client_session.specs.Commands.{Means}
use Rattle.client_session.specs.Replies.{with_feed}
use Rattle.client_session.specs.declared.command.SessionCommand.{SessionCommand}
use Rattle.client_session.specs.declared.command.SessionCommand.TheVariants as command
use Rattle.client_session.proofs.OneMeaning.{means_one}
use Rattle.book_record.specs.RecordText.{call_line, call_text, CanSay}
use Rattle.book_record.specs.Reading.{BeginsWithNoBatch, BeginsWithNoCall, BeginsWithNoEntry, IsCallOf, command_for}
use Rattle.book_record.proofs.Feeds.{byte_at, first_at, line_there, no_byte, without_feed}
use Rattle.book_record.proofs.Marks.{call_plain}

-- ---- the first line of a call

-- those after it
abbrev lines_after : PlanlessCall → List ℕ
lines_after (Submit batch) = flat_map line batch
lines_after c = []

text_form : (c : PlanlessCall) (x : List ℕ) → call_text c ++ x ≡ with_feed (call_line c) ++ (lines_after c ++ x)
text_form (Submit batch) x = simp append_assoc
text_form c x = refl

feed_form : (c : PlanlessCall) (x : List ℕ) → call_text c ++ x ≡ call_line c ++ line_feed ∷ (lines_after c ++ x)
feed_form c x = text_form c x ∙ append_assoc (call_line c) (line_feed ∷ []) (lines_after c ++ x)

pub its_line : (c : PlanlessCall) (text rest : List ℕ) (end : ℕ) → position (λ b. b == line_feed) text ≡ Some end → text ≡ call_text c ++ rest → take end text
    ≡ call_line c
its_line c text rest end at is =
    let here = byte_at line_feed text end at in
    (first_at line_feed (take end text) (call_line c) _ _ here.1 (without_feed (call_plain c)) (sym here.2 ∙ is ∙ feed_form c rest)).0

pub no_line : (text : List ℕ) → position (λ b. b == line_feed) text ≡ None → BeginsWithNoCall text
no_line text none c rest can is = no_byte line_feed text none (call_line c) _ (without_feed (call_plain c)) (is ∙ feed_form c rest)

-- ---- one call

same_number : (w : List ℕ) (m n : ℕ) → IsNumber m → IsNumber n → w ++ decimal m ≡ w ++ decimal n → m ≡ n
same_number w m n few less e = decimal_injective m n (omega (arith, few)) (omega (arith, less)) (append_cancel_left w (decimal m) (decimal n) e)

at_index : (i : ℕ) {x y : List ℕ} → x ≡ y → get_or x i 0 ≡ get_or y i 0
at_index i e = ap (λ (l : List ℕ). get_or l i 0) e

-- ---- the call of a line

pub called : (r : Option PlanlessCall) (line : List ℕ) (by : SessionCommand) → Means line (Some by) → IfSome r (λ call. command_for call ≡ Some by)
    → IfSome r (IsCallOf line)
called None line by means is = tt
called (Some (Submit batch)) line by means is = absurd cc
called (Some (Fetch id)) line by means is = absurd cc
called (Some (Settle id)) line by means is = absurd cc
called (Some call) line by means is = subst (Means line) (sym is) means

-- none, where no word and no command makes one
pub uncalled : (line : List ℕ) (by : Option SessionCommand) → Means line by → ((n : ℕ) → IsNumber n → line ≢ codes "fetch " ++ decimal n)
    → ((n : ℕ) → IsNumber n → line ≢ codes "settle " ++ decimal n)
    → ((call : PlanlessCall) (one : SessionCommand) → command_for call ≡ Some one → by ≢ Some one) → (call : PlanlessCall) → IsCallOf line call → ⊥
uncalled line by means fetches settles other (Submit batch) is = is
uncalled line by means fetches settles other (Fetch id) is = fetches id is.0 is.1
uncalled line by means fetches settles other (Settle id) is = settles id is.0 is.1
uncalled line by means fetches settles other call is = other call _ refl (means_one line by (command_for call) means is)

pub still_none : {T : Type 0} (o : Option T) (P Q : Type 0) → (P → Q) → IfNone o P → IfNone o Q
still_none None P Q f p = f p
still_none (Some x) P Q f p = tt

-- what was read of the first line is the call's text
pub call_there : (c : PlanlessCall) (text : List ℕ) (end : ℕ) → position (λ b. b == line_feed) text ≡ Some end → IsCallOf (take end text) c → CanSay c
    × (text ≡ call_text c ++ drop (end + 1) text)
call_there (Submit batch) text end at is = absurd is
call_there c text end at is = (is.0, line_there text (call_line c) end at is.1)

-- no call is there whose line isn't: neither a batch, nor one of one line
pub no_call : (text : List ℕ) (end : ℕ) → position (λ b. b == line_feed) text ≡ Some end → ((n : ℕ) → IsNumber n → take end text ≢ codes "batch " ++ decimal n)
    → ((c : PlanlessCall) → IsCallOf (take end text) c → ⊥) → BeginsWithNoCall text
no_call text end at batches none (Submit batch) rest can is =
    let few = can.few in
    batches (length batch) (omega arith) (its_line (Submit batch) text rest end at is)
no_call text end at batches none c rest can is = none c (can, its_line c text rest end at is)

-- where the line of a batch stands there, and not the batch
pub no_batch : (text : List ℕ) (end count : ℕ) → position (λ b. b == line_feed) text ≡ Some end → IsNumber count → take end text ≡ codes "batch "
    ++ decimal count → BeginsWithNoBatch text count → BeginsWithNoCall text
no_batch text end count at fits is none (Submit batch) rest can e =
    let few = can.few in
    none batch rest can (same_number (codes "batch ") (length batch) count (omega arith) fits (sym (its_line (Submit batch) text rest end at e) ∙ is)) e
no_batch text end count at fits is none c rest can e = omega (arith, at_index 0 (sym is ∙ its_line c text rest end at e))

-- ---- entries

pub no_entry : (text after : List ℕ) (n : ℕ) → IsNumber n × (text ≡ number n space ++ after) → BeginsWithNoCall after → (limit : ℕ)
    → BeginsWithNoEntry limit text
no_entry text after n read none limit session call rest fits below can e =
    none call rest can (after_number text n session space after (call_text call ++ rest) ends_space fits read e).1

-- where the number is too great
pub no_such_session : (text after : List ℕ) (n limit : ℕ) → IsNumber n × (text ≡ number n space ++ after) → limit ≤ n → BeginsWithNoEntry limit text
no_such_session text after n limit read out session call rest fits below can e =
    let one = after_number text n session space after (call_text call ++ rest) ends_space fits read e in
    omega (arith, one.0, out, below)
