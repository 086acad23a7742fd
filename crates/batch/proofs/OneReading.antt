-- A text denotes one batch or has one first fault, and not both.
use Rattle.std.proofs.Common.{◌≡◌, ℕ, List, ◌++◌, length, All, get_or, refl, ap, arith}
use Rattle.std.specs.List.{flat_map}
use Rattle.batch.specs.declared.transfer.Kind.{Kind}
use Rattle.batch.specs.declared.transfer.Kind.TheVariants.{Push, Pull}
use Rattle.batch.specs.declared.transfer.Place.{Place}
use Rattle.batch.specs.declared.transfer.Transfer.{Transfer}
use Rattle.batch.specs.ShapeView.{ShapeView, IsShape}
use Rattle.batch.specs.Text.{IsNumber, IsWithin, head, line, first_word, batch_form}
use Rattle.batch.specs.Faults.{IsSpellable}
use Rattle.batch.specs.Laws.{OneBatch, NeverBoth, OneFault}
use Rattle.batch.proofs.Equal.{same_transfer_parts}
use Rattle.batch.proofs.Lines.{Tells}
use Rattle.batch.proofs.OneList as lists

-- one word, and one rest
pub one_word : (k l : Kind) (x y : List ℕ) → first_word k ++ x ≡ first_word l ++ y → (k ≡ l) × (x ≡ y)
one_word Push Push x y e = (refl, cc)
one_word Pull Pull x y e = (refl, cc)
one_word Push Pull x y e = let other : 115 ≡ 108 = ap (λ (bs : List ℕ). get_or bs 2 0) e in absurd (omega (arith, other))
one_word Pull Push x y e = let other : 108 ≡ 115 = ap (λ (bs : List ℕ). get_or bs 2 0) e in absurd (omega (arith, other))

pub transfers_tell : Tells batch_form
transfers_tell t u a b e =
    let word = one_word t.kind u.kind a b e in (
      word.1,
      λ first second. same_transfer_parts t u word.0 (ap (λ (p : Place). p.«module») first) (ap (λ (p : Place). p.block) first)
          (ap (λ (p : Place). p.«module») second) (ap (λ (p : Place). p.block) second),
    )

pub spellable : (shape : ShapeView) (valid : IsShape shape) (t : Transfer) → IsWithin shape t → IsSpellable t
spellable = lists.spellable batch_form

pub one_head : (n m : ℕ) (x y : List ℕ) → IsNumber n → IsNumber m → head n ++ x ≡ head m ++ y → (n ≡ m) × (x ≡ y)
one_head = lists.one_head batch_form

pub same_lines : (shape : ShapeView) (valid : IsShape shape) (ts us : List Transfer) (r s : List ℕ) → All (IsWithin shape) ts → All (IsWithin shape) us
    → length ts ≡ length us → flat_map line ts ++ r ≡ flat_map line us ++ s → (ts ≡ us) × (r ≡ s)
same_lines = lists.same_lines batch_form transfers_tell

pub one_batch : OneBatch
one_batch = lists.one_list batch_form transfers_tell

pub apart : NeverBoth
apart = lists.apart batch_form transfers_tell

pub one_fault : OneFault
one_fault = lists.one_fault batch_form transfers_tell
