-- Entries of a map by numbers, as steps change them.
use Rattle.std.proofs.Common.{◌≡◌, ◌≤◌, ℕ, List, [], ◌∷◌, ◌++◌, nat_eq, Bool, true, false, cond, suc, length, Option, None, Some, Result, Ok, OnOk, refl, ap, ◌∙◌, subst, arith}
use Rattle.indexmap.specs.IndexMap.{IndexMap, get, insert_entry}
use Rattle.indexmap.proofs.CallerLemmas.{insert_entry-new}
use Rattle.std.specs.Map.{lookup, set_value, remove_entry}
use Rattle.batch_book.specs.declared.stored_batch.BatchStage.{BatchStage}
use Rattle.batch_book.specs.declared.stored_batch.StoredBatch.{StoredBatch}
use Rattle.module_memory.specs.Store.{Store}
use Rattle.batch_book.specs.BatchStore.{IsFreeAbove, AreStored}
use Rattle.batch_book.specs.Machine.{stored_batch, staged, set_stage}

pub on_ok : {A E : Type 0} (r : Result A E) (x : A) (P : Type 0) → r ≡ Ok x → OnOk r P → P
on_ok r x P is h = subst (λ r. OnOk r P) is h

-- a new number goes last
pub goes_last : {V S : Type 0} (m : IndexMap ℕ V S) (es : List (ℕ × V)) (id : ℕ) (v : V) → m.entries ≡ es → get nat_eq m id ≡ None
    → insert_entry nat_eq m.entries id v ≡ es ++ (id, v) ∷ []
goes_last m es id v is none = insert_entry-new nat_eq m id v none ∙ ap (λ l. l ++ (id, v) ∷ []) is

-- ---- what is written or taken out leaves other numbers free

absent_step : (t k : ℕ → Bool) (x : ℕ × StoredBatch) (xs : List (ℕ × StoredBatch)) (w : StoredBatch) → (lookup t xs ≡ None → lookup t (set_value k xs w) ≡ None)
    → (b d : Bool) → t x.0 ≡ d → cond d (Some x.1) (lookup t xs) ≡ None
    → lookup t (cond b ((x.0, w) ∷ xs) (x ∷ set_value k xs w)) ≡ None
absent_step t k x xs w rest b true is e = absurd (cc)
absent_step t k x xs w rest true false is e = rw is e
absent_step t k x xs w rest false false is e = rw is (rest e)

absent_set : (t k : ℕ → Bool) (es : List (ℕ × StoredBatch)) (w : StoredBatch) → lookup t es ≡ None → lookup t (set_value k es w) ≡ None
absent_set t k [] w e = refl
absent_set t k (x ∷ xs) w e = absent_step t k x xs w (absent_set t k xs w) (k x.0) (t x.0) refl e

length_step : (x : ℕ × StoredBatch) (xs ys : List (ℕ × StoredBatch)) (w : StoredBatch) → length ys ≡ length xs → (b : Bool)
    → length (cond b ((x.0, w) ∷ xs) (x ∷ ys)) ≡ length (x ∷ xs)
length_step x xs ys w same true = refl
length_step x xs ys w same false = ap suc same

length_set : (k : ℕ → Bool) (es : List (ℕ × StoredBatch)) (w : StoredBatch) → length (set_value k es w) ≡ length es
length_set k [] w = refl
length_set k (x ∷ xs) w = length_step x xs (set_value k xs w) w (length_set k xs w) (k x.0)

absent_staged : (t : ℕ → Bool) (id : ℕ) (s : BatchStage) (es : List (ℕ × StoredBatch)) (h : Option StoredBatch) → lookup t es ≡ None
    → lookup t (staged id s es h) ≡ None
absent_staged t id s es None e = e
absent_staged t id s es (Some h) e = absent_set t (nat_eq id) es (stored_batch h.owner h.batch s) e

length_staged : (id : ℕ) (s : BatchStage) (es : List (ℕ × StoredBatch)) (h : Option StoredBatch) → length (staged id s es h) ≡ length es
length_staged id s es None = refl
length_staged id s es (Some h) = length_set (nat_eq id) es (stored_batch h.owner h.batch s)

length_set_stage : (id : ℕ) (s : BatchStage) (es : List (ℕ × StoredBatch)) → length (set_stage id s es) ≡ length es
length_set_stage id s es = length_staged id s es (lookup (nat_eq id) es)

free_set_stage : (id : ℕ) (s : BatchStage) (es : List (ℕ × StoredBatch)) (given : ℕ) → IsFreeAbove es given → IsFreeAbove (set_stage id s es) given
free_set_stage id s es given free = λ other above. absent_staged (nat_eq other) id s es (lookup (nat_eq id) es) (free other above)

removed_step : (t k : ℕ → Bool) (x : ℕ × StoredBatch) (xs : List (ℕ × StoredBatch)) → (lookup t xs ≡ None → lookup t (remove_entry k xs) ≡ None) → (b d : Bool)
    → t x.0 ≡ d → cond d (Some x.1) (lookup t xs) ≡ None
    → lookup t (cond b xs (x ∷ remove_entry k xs)) ≡ None
removed_step t k x xs rest b true is e = absurd (cc)
removed_step t k x xs rest true false is e = e
removed_step t k x xs rest false false is e = rw is (rest e)

absent_removed : (t k : ℕ → Bool) (es : List (ℕ × StoredBatch)) → lookup t es ≡ None → lookup t (remove_entry k es) ≡ None
absent_removed t k [] e = refl
absent_removed t k (x ∷ xs) e = removed_step t k x xs (absent_removed t k xs) (k x.0) (t x.0) refl e

free_removed : (id : ℕ) (es : List (ℕ × StoredBatch)) (given : ℕ) → IsFreeAbove es given → IsFreeAbove (remove_entry (nat_eq id) es) given
free_removed id es given free = λ other above. absent_removed (nat_eq other) (nat_eq id) es (free other above)

shorter_step : (x : ℕ × StoredBatch) (xs ys : List (ℕ × StoredBatch)) → length ys ≤ length xs → (b : Bool) → length (cond b xs (x ∷ ys)) ≤ length (x ∷ xs)
shorter_step x xs ys h true = omega arith
shorter_step x xs ys h false = omega arith

shorter_removed : (k : ℕ → Bool) (es : List (ℕ × StoredBatch)) → length (remove_entry k es) ≤ length es
shorter_removed k [] = omega arith
shorter_removed k (x ∷ xs) = shorter_step x xs (remove_entry k xs) (shorter_removed k xs) (k x.0)

-- ---- what holdings keep

pub kept_at_stage : (rack : Option Store) (es : List (ℕ × StoredBatch)) (given id : ℕ) (s : BatchStage) → AreStored rack es given
    → AreStored rack (set_stage id s es) given
kept_at_stage rack es given id s kept = record {
  there = kept.there;
  free = free_set_stage id s es given kept.free;
  few = rw (length_set_stage id s es) kept.few;
}

pub kept_removed : (rack : Option Store) (es : List (ℕ × StoredBatch)) (given id : ℕ) → AreStored rack es given → AreStored rack (remove_entry (nat_eq id) es)
    given
kept_removed rack es given id kept =
    let shorter = shorter_removed (nat_eq id) es in
    let few = kept.few in record {
      there = kept.there;
      free = free_removed id es given kept.free;
      few = omega arith;
    }
