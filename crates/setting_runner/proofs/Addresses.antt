-- Words by their addresses in a block.
use Rattle.std.proofs.Common.{List, [], ◌∷◌, arith, ◌%◌, ℕ, ◌≡◌, ◌<◌, length, get_or, refl, sym, ap, ◌∙◌, Result, Ok}
use Rattle.batch.specs.ShapeView.{ShapeView}
use Rattle.batch.specs.declared.transfer.Place.{Place}
use Rattle.module_memory.specs.Lending.{BlockAt, RestView, copy_of, found_in, with_word}
use Rattle.module_memory.specs.Store.{block_of}
use Rattle.module_memory.specs.declared.address.TheConstants.{HOLD_START, WORD_BYTES}
use Rattle.module_memory.specs.Address.{address_from}
use Rattle.module_memory.proofs.PartedSettings.{copy_first}
use Rattle.peek_poke.specs.Blocks.{IsHeldStore, block_read, block_write, held_read, or_outside}
use Rattle.peek_poke.specs.Laws.{WordsAreRead, WordsAreWritten}
use Rattle.setting_runner.specs.Carried.{window_for, window_of}
use Rattle.setting_runner.specs.Moves.{ReadsFound}
use Rattle.peek_poke.specs.declared.fault.StoreFault.{StoreFault}

abbrev lands : BlockAt → Result BlockAt StoreFault
lands t = Ok t

abbrev pub reads : ℕ → Result ℕ StoreFault
reads n = Ok n

ok_same : (t u : BlockAt) → lands t ≡ lands u → t ≡ u
ok_same t u e = cc

ok_number : (m n : ℕ) → reads m ≡ reads n → m ≡ n
ok_number m n e = cc

pub ok_word : (m n : ℕ) (r : Result ℕ StoreFault) → r ≡ Ok m → r ≡ Ok n → m ≡ n
ok_word m n r e f = ok_number m n (sym e ∙ f)

pub write_lands : WordsAreWritten → (start : ℕ) (s : ShapeView) (b : BlockAt) (n a j w : ℕ) → start % WORD_BYTES ≡ 0 → length b.words ≡ s.words → j < s.words
    → n ≡ b.place.block → a ≡ address_from start s n j → block_write start b a w ≡ Ok (with_word b j w)
write_lands law start s b n a j w four e h f g = ap (λ (x : ℕ). block_write start b x w) (g ∙ ap (λ (x : ℕ). address_from start s x j) f)
    ∙ law start s b j w four e h

pub written_is : WordsAreWritten → (start : ℕ) (s : ShapeView) (b t : BlockAt) (n a j w : ℕ) → start % WORD_BYTES ≡ 0 → length b.words ≡ s.words → j < s.words
    → n ≡ b.place.block → a ≡ address_from start s n j → block_write start b a w ≡ Ok t → t ≡ with_word b j w
written_is law start s b t n a j w four e h f g k = ok_same t (with_word b j w) (sym k ∙ write_lands law start s b n a j w four e h f g)

-- ---- what a transfer finds

-- a store of a held block
pub found_held : (rest : RestView) (p : Place) (b : BlockAt) → IsHeldStore rest p b → found_in rest p ≡ b.words
found_held rest p b h = copy_first (copy_of rest p) (block_of rest.store p) b.words (sym h.1.words_are) h.1.some

pub held_reads : WordsAreRead → (rest : RestView) (p : Place) (b : BlockAt) → IsHeldStore rest p b → ReadsFound (held_read b) HOLD_START rest p
held_reads law rest p b h j l =
    ap or_outside (ap (λ (q : Place). block_read HOLD_START b (address_from HOLD_START rest.store.shape q.block j)) (sym h.0)
    ∙ law HOLD_START rest.store.shape b j refl h.1.all_words l)
    ∙ ap (λ (xs : List ℕ). reads (get_or xs j 0)) (sym (found_held rest p b h))

window_some : (xs : List ℕ) → 0 < length xs → window_for xs ≡ HOLD_START
window_some [] l = absurd (omega arith)
window_some (x ∷ xs) l = refl

pub held_window : (rest : RestView) (p : Place) (b : BlockAt) → IsHeldStore rest p b → window_of rest p ≡ HOLD_START
held_window rest p b h = ap window_for (sym h.1.words_are) ∙ window_some b.words h.1.some
