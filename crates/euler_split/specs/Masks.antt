-- Pairs of a link 0 and a link 3, as a mask for each module of the one end: its bits are the
-- modules of the other end.
use Rattle.std.specs.Prelude.{◌≡◌, ℕ, List, Bool, true, not, ◌&&◌, ◌==◌, cond}
use Rattle.link_graph.specs.Masks.{has_pair}

-- the pairs, of which one changes: it comes in where it wasn't in, and else goes out
abbrev pub toggled : (ℕ → ℕ → Bool) → ℕ → ℕ → ℕ → ℕ → Bool
toggled pairs a b u v = cond (a == u && b == v) (not (pairs u v)) (pairs u v)

-- one pair of the masks has changed
abbrev pub AreToggled : List ℕ → List ℕ → ℕ → ℕ → Type 0
AreToggled old new a b = (u v : ℕ) → has_pair new u v ≡ toggled (has_pair old) a b u v

-- masks of the same pairs, seen from either end
abbrev pub AreMirrored : List ℕ → List ℕ → Type 0
AreMirrored zero three = (u v : ℕ) → has_pair three v u ≡ has_pair zero u v

-- each of the pairs is one of the others
abbrev pub AreWithin : (ℕ → ℕ → Bool) → (ℕ → ℕ → Bool) → Type 0
AreWithin pairs others = (u v : ℕ) → pairs u v ≡ true → others u v ≡ true
