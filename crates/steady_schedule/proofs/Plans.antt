-- What follows from a shortest schedule: no setting is empty.
use Rattle.std.proofs.Common.{◌≡◌, ℕ, ◌<◌, ◌≤◌, List, [], ◌∷◌, length, get_or, take, drop, suc, Option, Some, None, All, refl, ap, ◌∙◌, inl, inr, arith}
use Rattle.std.specs.List.{remove}
use Rattle.std.proofs.lemmas.Bool.{cases_lt}
use Rattle.std.proofs.lemmas.List.Edits.{length-remove}
use Rattle.std.proofs.lemmas.List.Elements.{All-append, All-take, All-drop}
use Rattle.std.proofs.lemmas.List.Sums.{sum_by-remove}
use Rattle.batch.proofs.Lists.{count_of}
use Rattle.batch.specs.declared.transfer.Transfer.{Transfer}
use Rattle.link_graph.specs.Certificates.{Naming, IsCertificate, IsShortest}
use Rattle.link_graph.specs.declared.link.Link.{Link}
use Rattle.link_graph.specs.Counts.{uses}
use Rattle.link_graph.specs.Schedules.{times, IsScheduleOf}
use Rattle.link_graph.specs.Uses.{IsMatching}
use Rattle.link_graph.proofs.Koenig.{certified}
use Rattle.std.proofs.lemmas.List.{get_or_default}
use Rattle.steady_schedule.specs.Plans.{NamesBusiest}

no_items : (xs : List ℕ) → length xs ≤ 0 → xs ≡ []
no_items [] le = refl
no_items (x ∷ xs) le = absurd (omega arith)

module _ (batch : List Transfer) (settings : List (List ℕ)) (k : ℕ) (k_in : k < length settings) (empty : get_or settings k [] ≡ [])
    (schedule : IsScheduleOf batch settings) where
  all_fewer : (P : List ℕ → Type 0) → All P settings → All P (remove settings k)
  all_fewer P all = All-append P (take k settings) (drop (suc k) settings) (All-take P k settings all) (All-drop P (suc k) settings all)

  times_fewer : (t : ℕ) → times t (remove settings k) ≡ times t settings
  times_fewer t = omega (arith, sum_by-remove (count_of t) settings k [] k_in, ap (count_of t) empty)

  without_empty : IsScheduleOf batch (remove settings k)
  without_empty = record {
    matchings = all_fewer (IsMatching batch) schedule.matchings;
    once = λ t lt. times_fewer t ∙ schedule.once t lt;
    no_other = all_fewer (All (λ t. t < length batch)) schedule.no_other;
  }

none_empty : (batch : List Transfer) (settings : List (List ℕ)) → IsShortest batch settings → All (λ setting. 0 < length setting) settings
none_empty batch settings s k d k_in = elim (cases_lt 0 (length (get_or settings k d))) [
  | inl some ↦ some
  | inr none ↦
      let empty : get_or settings k [] ≡ [] = get_or_default settings k [] d k_in ∙ no_items (get_or settings k d) none in
      absurd (omega (arith, s.least (remove settings k) (without_empty batch settings k k_in empty s.schedule), length-remove settings k k_in))
]

pub certified_none_empty : (batch : List Transfer) (settings : List (List ℕ)) (named : Naming) → IsScheduleOf batch settings
    → IsCertificate batch settings named → All (λ setting. 0 < length setting) settings
certified_none_empty batch settings named schedule certificate = none_empty batch settings (certified batch settings named schedule certificate)

-- ---- the busiest link

pub named_most : (batch : List Transfer) (link : Option Link) (named : List ℕ) → NamesBusiest batch link named → (other : Link)
    → uses batch other ≤ length named
named_most batch None named n other = rw n.0 (omega arith)
named_most batch (Some link) named n other = omega (arith, n.0.most other, n.2)
