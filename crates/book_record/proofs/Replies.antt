-- A reply that a record can tell is one line.
use Rattle.std.proofs.Common.{◌≡◌, ℕ, true, List, [], ◌∷◌, ◌++◌, codes, refl, sym, append_assoc}
use Rattle.std.specs.List.{list_all}
use Rattle.std.specs.Fmt.{decimal}
use Rattle.batch.specs.Text.{line_feed}
use Rattle.module_memory.specs.declared.fault.MemoryFault.{MemoryFault}
use Rattle.module_memory.specs.declared.fault.MemoryFault.TheVariants as memory_fault
use Rattle.setting_runner.specs.LineBits.{bits_of}
use Rattle.setting_runner.specs.declared.outcome.RunRefusal.{RunRefusal}
use Rattle.setting_runner.specs.declared.outcome.RunRefusal.TheVariants as run
use Rattle.batch_book.specs.declared.stored_batch.BatchState.{BatchState}
use Rattle.batch_book.specs.declared.stored_batch.BatchState.TheVariants as state
use Rattle.batch_book.specs.declared.refusal.BookRefusal.{BookRefusal}
use Rattle.batch_book.specs.declared.refusal.BookRefusal.TheVariants as book
use Rattle.batch_book.specs.declared.reply.Reply.{Reply}
use Rattle.batch_book.specs.declared.reply.Reply.TheVariants.{Accepted, Fetched, Settled, Ran, Stopped, RunRefused, Shown, Discarded, Word, Poked, Refused}
use Rattle.refusals.specs.Refusals.{refusal_words, refusal_line}
use Rattle.refusals.specs.declared.refusal.Refusal.{Refusal}
use Rattle.client_session.specs.Replies.{state_words, ran_words}
use Rattle.client_session.specs.Sources.{of_book, of_run}
use Rattle.book_record.specs.RecordText.{reply_text, CanBeReplied}
use Rattle.book_record.proofs.Feeds.{IsOneLine, IsPlain, both, decimal_plain, fed, hex8_plain, is_plain, numbered, words}

refused : (r : Refusal) → IsPlain (refusal_words r) → IsOneLine (refusal_line r)
refused r plain = record {
  words = codes "refused " ++ refusal_words r;
  plain = both (words (codes "refused ") refl) plain;
  are = sym (append_assoc (codes "refused ") (refusal_words r) (line_feed ∷ []));
}

of_state : (s : BatchState) → IsPlain (state_words s)
of_state state.Waiting = words (codes "waiting") refl
of_state s = words (state_words s) refl

of_fault : (f : MemoryFault) → IsPlain (refusal_words (of_book (book.Memory f)))
of_fault memory_fault.NoModule = words (codes "memory no module") refl
of_fault f = words (refusal_words (of_book (book.Memory f))) refl

of_refusal : (why : BookRefusal) → IsPlain (refusal_words (of_book why))
of_refusal (book.Memory f) = of_fault f
of_refusal why = words (refusal_words (of_book why)) refl

of_run_refusal : (why : RunRefusal) → IsPlain (refusal_words (of_run why))
of_run_refusal (run.Overlap i j) = both (words (codes "overlap ") refl) (both (decimal_plain i) (numbered (codes " ") j refl))
of_run_refusal why = words (refusal_words (of_run why)) refl

-- words, and a number after them
then : {a : List ℕ} (w : List ℕ) (n : ℕ) → list_all is_plain w ≡ true → IsPlain a → IsPlain (a ++ w ++ decimal n)
then w n is plain = both (both plain (words w is)) (decimal_plain n)

ran_line : (id r settings moved : ℕ) → IsPlain (ran_words id r settings moved)
ran_line id r settings moved =
    then (codes " bits ") (bits_of moved) refl
    (then (codes " words ") moved refl (then (codes " settings ") settings refl (then (codes " run ") r refl (numbered (codes "ran ") id refl))))

shown_line : (id transfers : ℕ) (s : BatchState) → IsPlain (codes "batch " ++ decimal id ++ codes " transfers " ++ decimal transfers ++ codes " "
    ++ state_words s)
shown_line id transfers s = both (both (then (codes " transfers ") transfers refl (numbered (codes "batch ") id refl)) (words (codes " ") refl)) (of_state s)

pub one_line : (id : ℕ) (r : Reply) → CanBeReplied r → IsOneLine (reply_text id r)
one_line id (Accepted n) can = fed (numbered (codes "accepted ") n refl)
one_line id (Fetched batch) can = fed (words (codes "fetched") refl)
one_line id (Settled settings) can = fed (then (codes " settings ") settings refl (numbered (codes "planned ") id refl))
one_line id (Ran r settings moved) can = fed (ran_line id r settings moved)
one_line id (Stopped r setting cause moved) can = absurd (can.0 r setting cause moved refl)
one_line id (RunRefused why) can = refused (of_run why) (of_run_refusal why)
one_line id (Shown transfers s) can = fed (shown_line id transfers s)
one_line id Discarded can = fed (numbered (codes "dropped ") id refl)
one_line id (Word w) can = fed (both (words (codes "word ") refl) (hex8_plain w))
one_line id Poked can = fed (words (codes "poked") refl)
one_line id (Refused why) can = refused (of_book why) (of_refusal why)
