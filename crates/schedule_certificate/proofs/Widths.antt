-- A part with more transfers than the links of one end could have with fewer uses each.
use Rattle.std.proofs.Common.{◌≡◌, ◌==◌, ℕ, zero, suc, ◌+◌, ◌-◌, ◌*◌, ◌<◌, ◌≤◌, ◌⊎◌, inl, inr, List, [], ◌∷◌, length, get_or, All, cond, refl, ap, ◌∙◌, arith}
use Rattle.std.proofs.lemmas.Bool.{cases_lt}
use Rattle.std.proofs.lemmas.Bool.Decides.{eqb_tells}
use Rattle.std.proofs.lemmas.List.Sums.{sum_by-cons, get_or-le-sum_by}
use Rattle.std.proofs.lemmas.Option.{get_or_from_slice_get}
use Rattle.batch.specs.declared.transfer.Transfer.{Transfer}
use Rattle.link_graph.specs.declared.link.End.{End}
use Rattle.link_graph.specs.declared.link.Link.{Link}
use Rattle.link_graph.specs.Counts.{module_at, uses}
use Rattle.link_graph.specs.Marks.{members}
use Rattle.link_graph.proofs.Users.{made, use_of, use_yes}
use Rattle.link_graph.proofs.Sums.{sum_below, sum_below-add, sum_below_none}
use Rattle.euler_split.specs.Split.{uses_among}
use Rattle.euler_split.proofs.Modules.{known_transfer}
use Rattle.schedule_certificate.specs.Parts.{IsPart, IsDegree, IsWidth}

-- a link that a transfer has is used
pub used_at : (batch : List Transfer) (e : End) (t m : ℕ) (d : Transfer) → t < length batch → module_at e (get_or batch t d) ≡ m → 0 < uses batch (made e m)
used_at batch e t m d t_in at =
    let one = use_yes (made e m) (get_or batch t d) at in
    omega (arith, one, get_or-le-sum_by (λ x. use_of (made e m) x) batch t d t_in)

-- ---- sums over the first n modules

sums_same : (n : ℕ) (f g : ℕ → ℕ) → ((m : ℕ) → f m ≡ g m) → sum_below n f ≡ sum_below n g
sums_same zero f g e = refl
sums_same (suc n) f g e = omega (arith, e n, sums_same n f g e)

one_hit : (n k : ℕ) → (k < n → sum_below n (λ m. cond (k == m) 1 0) ≡ 1) × (n ≤ k → sum_below n (λ m. cond (k == m) 1 0) ≡ 0)
one_hit zero k = (λ less. absurd (omega arith), λ _. refl)
one_hit (suc n) k =
    let rest = one_hit n k in
    elim (eqb_tells k n) [
      | inl same ↦ rw same.0 (λ _. omega (arith, rest.1 (omega (arith, same.1))), λ more. absurd (omega (arith, same.1)))
      | inr other ↦ rw other.0 (λ less. omega (arith, rest.0 (omega (arith, other.1))), λ more. omega (arith, rest.1 (omega arith)))
    ]

-- one has so many, or all together are few
one_or_few : (n d : ℕ) (f : ℕ → ℕ) → ((m : ℕ) × (d ≤ f m)) ⊎ (sum_below n f ≤ n * (d - 1))
one_or_few zero d f = inr (omega arith)
one_or_few (suc n) d f = elim (cases_lt (f n) d) [
  | inl less ↦ elim (one_or_few n d f) [ inl one ↦ inl one | inr few ↦ inr (omega arith) ]
  | inr many ↦ inl (n, many)
]

-- ---- the links of one end have the uses of all transfers

module _ (batch : List Transfer) (e : End) (n : ℕ) (below : All (λ x. module_at e x < n) batch) where
  spread : (ts : List ℕ) → ((i : ℕ) → i < length ts → get_or ts i 0 < length batch) → sum_below n (λ m. uses_among batch ts (made e m)) ≡ length ts
  spread [] known = sum_below_none n
  spread (t ∷ ts) known =
      let t_in : t < length batch = known 0 (omega arith) in
      let found = known_transfer batch t t_in in
      let more : members batch (t ∷ ts) ≡ found.0 ∷ members batch ts = rw found.1 refl in
      let each : (m : ℕ) → uses_among batch (t ∷ ts) (made e m) ≡ use_of (made e m) found.0 + uses_among batch ts (made e m) =
      λ m. ap (λ (xs : List Transfer). uses xs (made e m)) more ∙ sum_by-cons (λ y. use_of (made e m) y) found.0 (members batch ts) in
      let here : get_or batch t found.0 ≡ found.0 = get_or_from_slice_get batch t found.0 found.0 found.1 in
      let low : module_at e found.0 < n = omega (arith, below t found.0 t_in, ap (module_at e) here) in
      omega (
        arith,
        sums_same n (λ m. uses_among batch (t ∷ ts) (made e m)) (λ m. use_of (made e m) found.0 + uses_among batch ts (made e m)) each,
        sum_below-add n (λ m. use_of (made e m) found.0) (λ m. uses_among batch ts (made e m)),
        (one_hit n (module_at e found.0)).0 low,
        spread ts (λ i lt. known (suc i) (omega arith)),
      )

pub reaches : (batch : List Transfer) (part : List ℕ) (width most : ℕ) → IsPart batch part → IsWidth batch width
    → ((link : Link) → uses_among batch part link ≤ most) → width * (most - 1) < length part → IsDegree (members batch part) most
reaches batch part width most is_part is_width low many = record {
  most = low;
  reached = elim (one_or_few width most (λ m. uses_among batch part (made is_width.at m))) [
    | inl one ↦ inr (made is_width.at one.0, omega (arith, one.1, low (made is_width.at one.0)))
    | inr few ↦ absurd (omega (arith, few, many, spread batch is_width.at width is_width.below part (λ i lt. is_part.known i 0 lt)))
  ];
}
