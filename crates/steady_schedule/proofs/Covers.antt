-- Links that have partners, and room.
use Rattle.std.proofs.Common.{◌≡◌, ◌≢◌, ℕ, ◌-◌, ◌<◌, ◌≤◌, List, get_or, Bool, true, false, Option, Some, None, refl, sym, ◌∙◌, arith}
use Rattle.std.specs.Prelude.{IsSome}
use Rattle.std.specs.Option.{is_some as option_is_some}
use Rattle.std.specs.Int.{bit_at}
use Rattle.std.proofs.lemmas.Bool.{eq-eqb, false≢true}
use Rattle.std.proofs.lemmas.Nat.Bits.{bit_at_ones}
use Rattle.batch.specs.declared.limits.TheConstants.{MAX_MODULES}
use Rattle.link_graph.specs.Masks.{has_bit}
use Rattle.steady_schedule.specs.Matchings.{partner}
use Rattle.steady_schedule.specs.Covers.{AreCovered}

-- a bit of the mask that has all modules
abbrev bit_of : ℕ → ℕ
bit_of y = bit_at 4294967295 y

pub all_unseen : (y : ℕ) → y < MAX_MODULES → has_bit 4294967295 y ≡ true
all_unseen y y_in =
    let bit : bit_of y ≡ 1 = bit_at_ones 32 y y_in in
    eq-eqb (bit_of y) 1 bit

-- ---- room

pub none_not_some : (o : Option ℕ) → o ≡ None → IsSome o → ⊥
none_not_some o none some = false≢true (rw none at some)

pub none_from : (o : Option ℕ) (b : Bool) → b ≡ option_is_some o → b ≡ false → o ≡ None
none_from None b is low = refl
none_from (Some x) b is low = absurd (false≢true (sym low ∙ is))

-- a link that isn't full, and has no partner, has room
pub has_room : (uses : List ℕ) (most x waits : ℕ) (of : List (Option ℕ)) → x < MAX_MODULES → AreCovered uses most MAX_MODULES of → partner of x ≡ None
    → get_or uses x 0 ≡ waits → waits ≤ most → 0 < most - get_or uses x 0
has_room uses most x waits of x_in covered none is few =
    let ne : get_or uses x 0 ≢ most = λ e. none_not_some (partner of x) none (covered x x_in e) in
    omega (arith, ne, is, few)
