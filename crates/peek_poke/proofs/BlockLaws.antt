-- The addresses of a block's words.
use Rattle.std.proofs.Common.{ℕ, ◌≡◌, ◌≢◌, ◌<◌, ◌+◌, ◌*◌, ◌/◌, ◌%◌, ◌==◌, true, false, length, get_or, refl, sym, ap, ap₂, ◌∙◌, arith, eq-eqb, ne_eqb, lt-ltb, le-leb, nat_lt, nat_le, Result, Ok, Err}
use Rattle.std.proofs.lemmas.Nat.{div-mul-add, mod-mul-add}
use Rattle.batch.specs.ShapeView.{ShapeView}
use Rattle.module_memory.specs.declared.address.TheConstants.{WORD_BYTES}
use Rattle.module_memory.specs.Lending.{BlockAt, with_word}
use Rattle.module_memory.specs.Address.{number_from, address_from}
use Rattle.module_memory.proofs.Addresses.{by_four, four_divides}
use Rattle.peek_poke.specs.Blocks.{word_in, then_do}
use Rattle.peek_poke.specs.Laws.{WordsAreRead, WordsAreWritten, OthersAreOutside}
use Rattle.peek_poke.specs.declared.fault.StoreFault.{StoreFault}
use Rattle.peek_poke.specs.declared.fault.StoreFault.TheVariants.{Outside}

-- what is known of the address of word j of any block of the window
record Found (start : ℕ) (s : ShapeView) (b : BlockAt) (block j : ℕ) : Type 0 where
  aligned : (address_from start s block j % WORD_BYTES == 0) ≡ true
  from : nat_le start (address_from start s block j) ≡ true
  some : nat_lt 0 (length b.words) ≡ true
  row : number_from start (address_from start s block j) / length b.words ≡ block
  column : number_from start (address_from start s block j) % length b.words ≡ j

found : (start : ℕ) (s : ShapeView) (b : BlockAt) (block j : ℕ) → start % WORD_BYTES ≡ 0 → length b.words ≡ s.words → j < s.words → Found start s b block j
found start s b block j four e h =
    let n = block * s.words + j in
    let number : number_from start (address_from start s block j) ≡ n = by_four start n in
    record {
      aligned = eq-eqb (address_from start s block j % WORD_BYTES) 0 (four_divides start n four);
      from = le-leb start (address_from start s block j) (omega arith);
      some = lt-ltb 0 (length b.words) (omega arith);
      row = ap₂ (λ (x y : ℕ). x / y) number e ∙ div-mul-add block s.words j h;
      column = ap₂ (λ (x y : ℕ). x % y) number e ∙ mod-mul-add block s.words j h;
    }

-- the address of a word of the block is that word
word_in-address_from : (start : ℕ) (s : ShapeView) (b : BlockAt) (j : ℕ) → start % WORD_BYTES ≡ 0 → length b.words ≡ s.words → j < s.words
    → word_in start b (address_from start s b.place.block j) ≡ Ok j
word_in-address_from start s b j four e h =
    let f = found start s b b.place.block j four e h in
    let here : (number_from start (address_from start s b.place.block j) / length b.words == b.place.block) ≡ true = eq-eqb _ _ f.row in
    rw (f.aligned, f.from, f.some, here) (ap (λ x. Ok x) f.column)

-- that of another block is no word
word_in-other : (start : ℕ) (s : ShapeView) (b : BlockAt) (other j : ℕ) → start % WORD_BYTES ≡ 0 → length b.words ≡ s.words → j < s.words
    → other ≢ b.place.block → word_in start b (address_from start s other j) ≡ Err Outside
word_in-other start s b other j four e h n =
    let f = found start s b other j four e h in
    let away : (number_from start (address_from start s other j) / length b.words == b.place.block) ≡ false = ne_eqb _ _ (λ r. n (sym f.row ∙ r)) in
    rw (f.aligned, f.from, f.some, away) refl

pub words_are_read : WordsAreRead
words_are_read start s b j four e h = ap (λ (r : Result ℕ StoreFault). then_do r (λ i. get_or b.words i 0)) (word_in-address_from start s b j four e h)

pub words_are_written : WordsAreWritten
words_are_written start s b j w four e h = ap (λ (r : Result ℕ StoreFault). then_do r (λ i. with_word b i w)) (word_in-address_from start s b j four e h)

pub others_are_outside : OthersAreOutside
others_are_outside start s b other j w four e h n =
    let outside = word_in-other start s b other j four e h n in (
      ap (λ (r : Result ℕ StoreFault). then_do r (λ i. get_or b.words i 0)) outside,
      ap (λ (r : Result ℕ StoreFault). then_do r (λ i. with_word b i w)) outside,
    )
