-- The search for the partner of a link. The links of its own end have tables `of` of their partners
-- and `near` of the links that they have transfers with; those of the other end have the table
-- `back`, and a mask of those that are unseen.
use Rattle.std.specs.Prelude.{◌≡◌, ◌≢◌, ◌⊎◌, ℕ, List, Option, Some, None, IsSome, true, false}
use Rattle.link_graph.specs.Masks.{has_bit, has_pair}
use Rattle.steady_schedule.specs.Matchings.{partner}

-- each link has transfers with its partner
abbrev pub AreNear : List ℕ → List (Option ℕ) → Type 0
AreNear near of = (x y : ℕ) → partner of x ≡ Some y → has_pair near x y ≡ true

-- each link that has another partner now has transfers with it
abbrev pub JoinsNear : List ℕ → List (Option ℕ) → List (Option ℕ) → Type 0
JoinsNear near of now =
    (x y : ℕ) → partner now x ≡ Some y → (partner of x ≡ Some y) ⊎ (has_pair near x y ≡ true)

-- all links that x has transfers with are seen
abbrev pub AllSeen : List ℕ → ℕ → ℕ → Type 0
AllSeen near unseen x = (y : ℕ) → has_pair near x y ≡ true → has_bit unseen y ≡ false

-- The link y has a needed partner, and all links near that partner are seen.
pub record IsStuck (near : List ℕ) (needed unseen : ℕ) (back : List (Option ℕ)) (y : ℕ)
    : Type 0 where
  pub x : ℕ
  pub joined : partner back y ≡ Some x
  pub is_needed : has_bit needed x ≡ true
  pub seen : AllSeen near unseen x

-- A search in vain: nobody has another partner, and each link that was seen in it is stuck.
pub record IsInVain (near : List ℕ) (needed unseen now : ℕ)
    (of of_now back back_now : List (Option ℕ)) : Type 0 where
  pub same : (x : ℕ) → partner of_now x ≡ partner of x
  pub back_same : (y : ℕ) → partner back_now y ≡ partner back y
  pub fewer : (y : ℕ) → has_bit now y ≡ true → has_bit unseen y ≡ true
  pub stuck : (y : ℕ) → has_bit unseen y ≡ true → has_bit now y ≡ false
      → IsStuck near needed now back_now y

-- A search that found a partner for x. Whoever had one at the other end, or is needed at this one,
-- has one now. Those that were free are free, and those that had been seen have the partners they
-- had.
pub record IsFound (near : List ℕ) (needed unseen x : ℕ)
    (of of_now back back_now : List (Option ℕ)) : Type 0 where
  pub found : IsSome (partner of_now x)
  pub joins_near : JoinsNear near of of_now
  pub needed_kept : (z : ℕ) → has_bit needed z ≡ true → IsSome (partner of z)
      → IsSome (partner of_now z)
  pub free_kept : (z : ℕ) → z ≢ x → partner of z ≡ None → partner of_now z ≡ None
  pub back_kept : (y : ℕ) → IsSome (partner back y) → IsSome (partner back_now y)
  pub seen_kept : (y : ℕ) → has_bit unseen y ≡ false → partner back_now y ≡ partner back y

-- the same, where the link y of the other end was freed, and no partner was sought yet
pub record IsFreed (near : List ℕ) (needed unseen y : ℕ)
    (of of_now back back_now : List (Option ℕ)) : Type 0 where
  pub freed : partner back_now y ≡ None
  pub joins_near : JoinsNear near of of_now
  pub needed_kept : (z : ℕ) → has_bit needed z ≡ true → IsSome (partner of z)
      → IsSome (partner of_now z)
  pub free_kept : (z : ℕ) → partner of z ≡ None → partner of_now z ≡ None
  pub back_kept : (w : ℕ) → w ≢ y → IsSome (partner back w) → IsSome (partner back_now w)
  pub seen_kept : (w : ℕ) → w ≢ y → has_bit unseen w ≡ false
      → partner back_now w ≡ partner back w
