use Rattle.std.proofs.Common.{◌≡◌, ℕ, zero, suc, ◌⊎◌, inl, inr, List, [], ◌∷◌, arith}
use Rattle.std.specs.Prelude.{Contains}
use Rattle.batch.specs.declared.transfer.Transfer.{Transfer}
use Rattle.link_graph.specs.Uses.{AreApart, IsMatching}
use Rattle.row_tests.proofs.tests.alternating_path_rows.joined.Goals as goal

-- two transfers that are apart are a matching
two_apart : (g : List Transfer) (a b : ℕ) → AreApart g a b → IsMatching g (a ∷ b ∷ [])
two_apart g a b h zero zero d less within = absurd (omega arith)
two_apart g a b h zero (suc zero) d less within = h
two_apart g a b h zero (suc (suc j)) d less within = absurd (omega arith)
two_apart g a b h (suc i) zero d less within = absurd (omega arith)
two_apart g a b h (suc i) (suc j) d less within = absurd (omega arith)

in_two : (a b t : ℕ) → Contains (a ∷ b ∷ []) t → (a ≡ t) ⊎ (b ≡ t)
in_two a b t (zero, lt, at) = inl at
in_two a b t (suc zero, lt, at) = inr at
in_two a b t (suc (suc k), lt, at) = absurd (omega arith)

none_in_both : (t : ℕ) → Contains (0 ∷ 2 ∷ []) t → Contains (1 ∷ 3 ∷ []) t → ⊥
none_in_both t one other = elim (in_two 0 2 t one) [
  | inl a ↦ elim (in_two 1 3 t other) [ inl b ↦ omega arith | inr b ↦ omega arith ]
  | inr a ↦ elim (in_two 1 3 t other) [ inl b ↦ omega arith | inr b ↦ omega arith ]
]

pub one-requires-clause-matching : goal.one-requires-clause-matching
one-requires-clause-matching c = two_apart _ 0 2 c.requires.left

pub one-requires-2-clause-matching : goal.one-requires-2-clause-matching
one-requires-2-clause-matching c = two_apart _ 1 3 c.requires.right

pub join-requires-clause-apart : goal.join-requires-clause-apart
join-requires-clause-apart c = λ t one other. none_in_both t ((c.in_ok-left.ensures.placed t).0 one) ((c.in_ok-right.ensures.placed t).0 other)
