-- The pairs of a setting in the order of their initiators: as a table has them, and as the list of
-- its transfers has.
use Rattle.std.proofs.Common.{◌≡◌, ◌<◌, ◌+◌, inl, inr, ℕ, suc, List, [], ◌∷◌, ◌++◌, length, get_or, refl, sym, ap, ◌∙◌, subst, arith, Option, Some, None, eq-eqb}
use Rattle.std.specs.Prelude.{All}
use Rattle.std.specs.List.{flat_map, range_with_len}
use Rattle.std.proofs.lemmas.Bool.{ne_eqb}
use Rattle.std.proofs.lemmas.List.Elements.{All-head, All-tail}
use Rattle.batch.specs.declared.transfer.Transfer.{Transfer}
use Rattle.batch.specs.Overlap.{transfer_at}
use Rattle.crossbar.specs.declared.pair.Pair.{Pair}
use Rattle.crossbar.proofs.Changes.{In}
use Rattle.link_graph.specs.Uses.{AreApart, IsMatching}
use Rattle.link_graph.proofs.Sums.{later, first_with}
use Rattle.switch_settings.specs.Settings.{joined_pair, setting_pairs}
use Rattle.switch_settings.specs.Sending.{started_by, in_order}
use Rattle.switch_settings.specs.Tables.{table_pairs}
use Rattle.switch_settings.proofs.Joined.{joined, IsTableOf, no_initiator}

-- none of the pairs is started by a module that starts none of them
none_started : (ps : List Pair) (m : ℕ) → ((p : Pair) → In p ps → p.initiator ≡ m → ⊥) → started_by ps m ≡ []
none_started [] m none = refl
none_started (p ∷ ps) m none = rw (ne_eqb p.initiator m (none p (inl refl))) (none_started ps m (λ q i. none q (inr i)))

-- of a setting's pairs a module starts one at most
one_started : (batch : List Transfer) (ts : List ℕ) (p : Pair) → All (λ u. u < length batch) ts → IsMatching batch ts → In p (setting_pairs batch ts)
    → started_by (setting_pairs batch ts) p.initiator ≡ p ∷ []
one_started batch [] p k m i = absurd i
one_started batch (t ∷ ts) p k m i =
    let known = All-head (λ u. u < length batch) t ts k in
    let rest = All-tail (λ u. u < length batch) t ts k in
    let apart = first_with (AreApart batch) t ts m in
    let first = joined_pair (transfer_at batch t) in
    let others = setting_pairs batch ts in
    elim i [
      | inl here ↦
          let none : started_by others first.initiator ≡ [] =
          none_started others first.initiator (λ q j e. no_initiator batch t ts q known rest apart j (sym e)) in
          subst (λ (x : Pair). started_by (first ∷ others) x.initiator ≡ x ∷ []) here
          (rw (eq-eqb first.initiator first.initiator refl) (ap (λ (l : List Pair). first ∷ l) none))
      | inr more ↦
          rw (ne_eqb first.initiator p.initiator (λ e. no_initiator batch t ts p known rest apart more e))
          (one_started batch ts p rest (later (AreApart batch) t ts m) more)
    ]

-- the pair of a table's entry, where it has one
abbrev entry_pairs : ℕ → Option ℕ → List Pair
entry_pairs m None = []
entry_pairs m (Some r) = joined m r ∷ []

-- a table's entry is the pair that the module starts
entry_is : (batch : List Transfer) (ts : List ℕ) (table : List (Option ℕ)) → IsTableOf batch ts table → All (λ u. u < length batch) ts → IsMatching batch ts
    → (i : ℕ) (o : Option ℕ)
    → get_or table i None ≡ o → started_by (setting_pairs batch ts) i ≡ entry_pairs i o
entry_is batch ts table is k m i None at =
    none_started (setting_pairs batch ts) i
    (λ p a e.
    let here = subst (λ (x : ℕ). In (joined x p.responder) (setting_pairs batch ts)) e a in
    let bad : None ≡ Some p.responder = sym at ∙ is.whole i p.responder here in
    absurd cc)
entry_is batch ts table is k m i (Some r) at = one_started batch ts (joined i r) k m (is.sound i r at)

-- the pairs of a table, module by module
by_module : (f : ℕ → List Pair) (m : ℕ) (table : List (Option ℕ)) → ((i j : ℕ) → j < length table → i ≡ m + j → f i ≡ entry_pairs i (get_or table j None))
    → table_pairs m table ≡ flat_map f (range_with_len m (length table))
by_module f m [] each = refl
by_module f m (None ∷ table) each =
    let first : f m ≡ [] = each m 0 (omega arith) (omega arith) in
    by_module f (m + 1) table (λ i j lt e. each i (suc j) (omega arith) (omega arith))
    ∙ ap (λ (l : List Pair). l ++ flat_map f (range_with_len (m + 1) (length table))) (sym first)
by_module f m (Some v ∷ table) each =
    let first : f m ≡ joined m v ∷ [] = each m 0 (omega arith) (omega arith) in
    ap (λ (l : List Pair). joined m v ∷ l) (by_module f (m + 1) table (λ i j lt e. each i (suc j) (omega arith) (omega arith)))
    ∙ ap (λ (l : List Pair). l ++ flat_map f (range_with_len (m + 1) (length table))) (sym first)

-- the pairs of a table of a setting are the setting's, in order
pub table_in_order : (batch : List Transfer) (ts : List ℕ) (table : List (Option ℕ)) → IsTableOf batch ts table → All (λ u. u < length batch) ts
    → IsMatching batch ts → table_pairs 0 table ≡ in_order (setting_pairs batch ts)
unfolding in_order
table_in_order batch ts table is k m =
    let f = started_by (setting_pairs batch ts) in
    let each : (i j : ℕ) → j < length table → i ≡ 0 + j → f i ≡ entry_pairs i (get_or table j None) = λ i j lt e.
    let same : i ≡ j = omega arith in
    entry_is batch ts table is k m i (get_or table j None) (ap (λ (x : ℕ). get_or table x None) same) in
    by_module f 0 table each ∙ ap (λ (n : ℕ). flat_map f (range_with_len 0 n)) is.size
