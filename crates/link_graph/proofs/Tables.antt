-- A table of counts, by the places of links.
use Rattle.std.proofs.Common.{◌≡◌, ◌≢◌, ℕ, ◌-◌, ◌<◌, ◌≤◌, Some, slice_get, replicate, List, [], ◌∷◌, length, get_or, All, refl, sym, ap, subst, ◌∙◌, arith, inl, inr}
use Rattle.std.specs.Prelude.{nat_lt}
use Rattle.std.specs.List.{IsFirstBest, AllByRecursion}
use Rattle.std.proofs.lemmas.Bool.{cases_lt, ltb-true, ltb-false}
use Rattle.std.proofs.lemmas.List.{get_or-replicate, length-replicate}
use Rattle.std.proofs.lemmas.Option.{slice_get_within, get_or_from_slice_get}
use Rattle.std.proofs.lemmas.List.Elements.{All-from_get_or, All-weaker, recursion_from_All, All-head}
use Rattle.std.proofs.lemmas.List.Sums.{sum_by-cons}
use Rattle.batch.specs.declared.limits.TheConstants.{MAX_MODULES}
use Rattle.batch.specs.declared.transfer.Transfer.{Transfer}
use Rattle.batch.specs.ShapeView.{widest}
use Rattle.batch.specs.Text.{HasModules, IsWithin}
use Rattle.batch.specs.Batches.{IsBatch}
use Rattle.link_graph.specs.declared.limits.TheConstants.{LINKS}
use Rattle.link_graph.specs.declared.link.End.{End}
use Rattle.link_graph.specs.declared.link.End.TheVariants.{Zero, Three}
use Rattle.link_graph.specs.declared.link.Link.{Link}
use Rattle.link_graph.specs.Links.{StandsBefore, index_by, link_index}
use Rattle.link_graph.specs.Uses.{start_link}
use Rattle.link_graph.specs.Counts.{module_at, uses, IsBusiest}
use Rattle.link_graph.specs.Tables.{AreCounts, IsGraph}
use Rattle.link_graph.proofs.Users.{made, use_of, use_yes, use_no, uses_few}

-- the link at a place
pub link_at : (k : ℕ) → k < LINKS → (link : Link) × (link.«module» < MAX_MODULES) × (link_index link ≡ k)
link_at k lt = elim (cases_lt k MAX_MODULES) [ inl low ↦ (made Zero k, low, refl) | inr high ↦ (made Three (k - MAX_MODULES), omega arith, omega arith) ]

pub index_below : (link : Link) → link.«module» < MAX_MODULES → link_index link < LINKS
index_below link lt = below_by link.end link.«module» lt
  where
    below_by : (e : End) (m : ℕ) → m < MAX_MODULES → index_by e m < LINKS
    below_by Zero m h = omega arith
    below_by Three m h = omega arith

-- no count is above the number of transfers
pub counts_few : (counts : List ℕ) (xs : List Transfer) → AreCounts counts xs → All (λ count. count ≤ length xs) counts
counts_few counts xs table = All-from_get_or (λ count. count ≤ length xs) counts 0 (λ k lt.
    let l = link_at k (omega (arith, table.places)) in
    omega (arith, table.at l.0 l.1, uses_few xs l.0, ap (λ (i : ℕ). get_or counts i 0) l.2))

-- nothing uses a link of a module that no rack has
pub module_fits : (e : End) (x : Transfer) → HasModules widest x → module_at e x < MAX_MODULES
module_fits Zero x h = h.0
module_fits Three x h = h.1

outside_all : (xs : List Transfer) (link : Link) → MAX_MODULES ≤ link.«module» → AllByRecursion (IsWithin widest) xs → uses xs link ≡ 0
outside_all [] link le all = refl
outside_all (x ∷ xs) link le all =
    let other : module_at link.end x ≢ link.«module» = λ e. omega (arith, module_fits link.end x all.0.0) in
    omega (arith, sum_by-cons (use_of link) x xs, use_no link x other, outside_all xs link le all.1)

pub uses_outside : (batch : List Transfer) (link : Link) → IsBatch batch → MAX_MODULES ≤ link.«module» → uses batch link ≡ 0
uses_outside batch link b le = outside_all batch link le (recursion_from_All (IsWithin widest) batch b.within)

-- ---- the busiest link

before_by : (d e : End) (m n : ℕ) → StandsBefore (made d m) (made e n) → m < MAX_MODULES → n < MAX_MODULES → index_by d m < index_by e n
before_by Zero Zero m n h lt lt' = elim h [ inl p ↦ absurd (let bad : Zero ≡ Three = p.1 in cc) | inr p ↦ p.1 ]
before_by Zero Three m n h lt lt' = omega arith
before_by Three Zero m n h lt lt' = elim h [ inl p ↦ absurd (let bad : Three ≡ Zero = p.0 in cc) | inr p ↦ absurd (let bad : Three ≡ Zero = p.0 in cc) ]
before_by Three Three m n h lt lt' = elim h [ inl p ↦ absurd (let bad : Three ≡ Zero = p.0 in cc) | inr p ↦ omega (arith, p.1) ]

pub before_index : (a b : Link) → StandsBefore a b → a.«module» < MAX_MODULES → b.«module» < MAX_MODULES → link_index a < link_index b
before_index a b h = before_by a.end b.end a.«module» b.«module» h

most_at : (counts : List ℕ) (n m k : ℕ) → IsFirstBest (λ a b. nat_lt b a) counts n m → k < n → get_or counts k 0 ≤ get_or counts m 0
most_at counts n m k best lt = ltb-false _ _ (best.1 k 0 lt)

less_at : (counts : List ℕ) (n m k : ℕ) → IsFirstBest (λ a b. nat_lt b a) counts n m → k < m → get_or counts k 0 < get_or counts m 0
less_at counts n m k best lt = ltb-true _ _ (best.2 k 0 lt)

pub busiest_is : (counts : List ℕ) (batch : List Transfer) (m : ℕ) (link : Link) → IsGraph counts batch → IsFirstBest (λ a b. nat_lt b a) counts LINKS m
    → get_or counts m 0 ≢ 0 → link_index link ≡ m → link.«module» < MAX_MODULES → IsBusiest batch link
busiest_is counts batch m link g best some at lt =
    let here : get_or counts m 0 ≡ uses batch link = sym (ap (λ (i : ℕ). get_or counts i 0) at) ∙ g.counted.at link lt in
    record {
      used = omega arith;
      most = λ other. elim (cases_lt other.«module» MAX_MODULES) [
        | inl in_rack ↦ omega (arith, g.counted.at other in_rack, most_at counts LINKS m (link_index other) best (index_below other in_rack))
        | inr outside ↦ omega (arith, uses_outside batch other g.batch_fits outside)
      ];
      first = λ other before. elim (cases_lt other.«module» MAX_MODULES) [
        | inl in_rack ↦
            let earlier : link_index other < m = omega (arith, before_index other link before in_rack lt) in
            omega (arith, g.counted.at other in_rack, less_at counts LINKS m (link_index other) best earlier)
        | inr outside ↦ omega (arith, uses_outside batch other g.batch_fits outside)
      ];
    }

-- where no link is used, there is no transfer
pub none_used : (counts : List ℕ) (batch : List Transfer) (m : ℕ) → IsGraph counts batch → IsFirstBest (λ a b. nat_lt b a) counts LINKS m → get_or counts m 0
    ≡ 0 → batch ≡ []
none_used counts [] m g best zero = refl
none_used counts (x ∷ xs) m g best zero =
    let lt : x.initiator < MAX_MODULES = (All-head (IsWithin widest) x xs g.batch_fits.within).0.0 in
    absurd (omega (
      arith,
      sum_by-cons (use_of (start_link x)) x xs,
      use_yes (start_link x) x refl,
      g.counted.at (start_link x) lt,
      most_at counts LINKS m (link_index (start_link x)) best (index_below (start_link x) lt),
    ))

-- ---- counting one transfer after the other

pub no_counts : AreCounts (replicate LINKS 0) []
no_counts = record { places = length-replicate {A = ℕ} LINKS 0; at = λ link lt. get_or-replicate LINKS (link_index link) 0 0 (index_below link lt) }

pub modules_of : (batch : List Transfer) (t : ℕ) (x : Transfer) → slice_get batch t ≡ Some x → IsBatch batch → HasModules widest x
modules_of batch t x here b = subst (HasModules widest) (get_or_from_slice_get batch t x x here) (b.within t x (slice_get_within batch t x here)).0

pub room_left : (counts : List ℕ) (xs : List Transfer) (limit : ℕ) → AreCounts counts xs → length xs < limit → All (λ count. count < limit) counts
room_left counts xs limit table lt = All-weaker (λ count. count ≤ length xs) (λ count. count < limit) (λ count le. omega arith) counts
    (counts_few counts xs table)
