-- Walks along pairs of a link 0 and a link 3, by which these fall into a left half and a right one.
-- `untaken` are the pairs that no walk has taken yet, `left_half` are those of the left half.
use Rattle.std.specs.Prelude.{◌≡◌, ℕ, zero, suc, ◌+◌, ◌-◌, ◌*◌, ◌≤◌, ◌⊎◌, List, Bool, true, false}
use Rattle.std.specs.Prelude.{not, ◌==◌, cond}
use Rattle.batch.specs.declared.limits.TheConstants.{MAX_MODULES}
use Rattle.link_graph.specs.declared.link.End.{End}
use Rattle.link_graph.specs.declared.link.End.TheVariants.{Zero, Three}
use Rattle.link_graph.specs.Counts.{count_below}
use Rattle.link_graph.specs.Masks.{has_pair}
use Rattle.euler_split.specs.Masks.{AreWithin}

-- how many of the pairs have the link of module m at an end
unfoldable pub pairs_of_module : (ℕ → ℕ → Bool) → End → ℕ → ℕ
pairs_of_module pairs Zero m = count_below MAX_MODULES (λ v. pairs m v)
pairs_of_module pairs Three m = count_below MAX_MODULES (λ u. pairs u m)

-- how many pairs there are at the first n links 0
abbrev pub pairs_upto : (ℕ → ℕ → Bool) → ℕ → ℕ
pairs_upto pairs zero = 0
pairs_upto pairs (suc n) = pairs_of_module pairs Zero n + pairs_upto pairs n

-- how many pairs the masks have
unfoldable pub pairs_left : List ℕ → ℕ
pairs_left masks = pairs_upto (has_pair masks) MAX_MODULES

-- At a link the left half has as many pairs more than the right one as `surplus` says, where 1 is
-- none and 0 is one fewer; or no pair is untaken there, and the halves have equally many, or one
-- more or less.
abbrev pub IsEvenAt : (ℕ → ℕ → Bool) → (ℕ → ℕ → Bool) → (ℕ → ℕ → Bool) → End → ℕ → ℕ → Type 0
IsEvenAt all untaken left_half end m surplus =
    (2 * pairs_of_module left_half end m + pairs_of_module untaken end m + 1
    ≡ pairs_of_module all end m + surplus)
    ⊎ ((pairs_of_module untaken end m ≡ 0)
    × (2 * pairs_of_module left_half end m ≤ pairs_of_module all end m + 1)
    × (pairs_of_module all end m ≤ 2 * pairs_of_module left_half end m + 1))

-- Each pair is untaken, or in one of the halves, which are even at each link but for its surplus.
-- No pair is untaken at the links 0 before that of `start`.
pub record AreEven (all : ℕ → ℕ → Bool) (start : ℕ) (untaken left_half : List ℕ)
    (surplus : End → ℕ → ℕ) : Type 0 where
  pub from : (u v : ℕ) → has_pair untaken u v ≡ true → start ≤ u
  pub apart : (u v : ℕ) → has_pair untaken u v ≡ true → has_pair left_half u v ≡ false
  pub untaken_within : AreWithin (has_pair untaken) all
  pub left_half_within : AreWithin (has_pair left_half) all
  pub even : (end : End) (m : ℕ)
      → IsEvenAt all (has_pair untaken) (has_pair left_half) end m (surplus end m)

-- the surpluses where neither half has more at a link
abbrev pub no_surplus : End → ℕ → ℕ
no_surplus end m = 1

-- the module that a pair has at an end
abbrev pub end_of : ℕ → ℕ → End → ℕ
end_of a b Zero = a
end_of a b Three = b

-- one at the link of a module, and nothing at other links
abbrev pub one_at : End → ℕ → End → ℕ → ℕ
one_at Zero k Zero m = cond (k == m) 1 0
one_at Three k Three m = cond (k == m) 1 0
one_at end k e m = 0

-- whether the left half gets the next pair of a walk, which is at an end, by whether it got the
-- first
abbrev pub is_left_next : Bool → End → Bool
is_left_next first_left Zero = first_left
is_left_next first_left Three = not first_left

-- The surpluses while a walk from the link 0 of `start` is at a link. There the half that gets the
-- next pair has one fewer, and at the start the left half has one more where it got the first.
abbrev pub walk_surplus : Bool → ℕ → End → ℕ → End → ℕ → ℕ
walk_surplus first_left start end at e m =
    cond (is_left_next first_left end)
    (1 + cond first_left (one_at Zero start e m) 0 - one_at end at e m)
    (1 + cond first_left (one_at Zero start e m) 0 + one_at end at e m)

-- of all pairs the left half has these: at each link one half of them, rounded up or down
pub record AreHalved (all left_half : ℕ → ℕ → Bool) : Type 0 where
  pub within : AreWithin left_half all
  pub least : (end : End) (m : ℕ)
      → pairs_of_module all end m ≤ 2 * pairs_of_module left_half end m + 1
  pub most : (end : End) (m : ℕ)
      → 2 * pairs_of_module left_half end m ≤ pairs_of_module all end m + 1
