-- A setting that joins the same pairs as the one before: nothing is cut, and nothing joined.
use Rattle.std.proofs.Common.{◌≡◌, ◌==◌, ℕ, zero, suc, ◌+◌, ◌<◌, ◌≤◌, List, [], ◌∷◌, ◌++◌, length, map, get_or, true, ◌&&◌, All, refl, sym, ap, ◌∙◌, subst, inl, inr, add-one, arith}
use Rattle.std.specs.List.{AllByRecursion, flat_map, list_any, range_with_len}
use Rattle.std.proofs.lemmas.Bool.{cases_Bool, cases_eq, and_parts}
use Rattle.std.proofs.lemmas.Bool.Decides.{nat_tests}
use Rattle.std.proofs.lemmas.List.Elements.{All-head, All-tail}
use Rattle.std.proofs.lemmas.List.Folds.{list_any-append}
use Rattle.std.proofs.lemmas.Option.{slice_get-get_or}
use Rattle.batch.specs.declared.limits.TheConstants.{MAX_MODULES}
use Rattle.batch.specs.declared.transfer.Transfer.{Transfer}
use Rattle.batch.specs.Batches.{IsBatch}
use Rattle.batch.specs.Overlap.{no_transfer, transfer_at}
use Rattle.c004_commands.specs.declared.command.Command.TheVariants.{Settle}
use Rattle.crossbar.specs.Pairs.{is_pair, without, change}
use Rattle.crossbar.specs.declared.chip.Wiring.{Wiring}
use Rattle.crossbar.specs.declared.pair.Pair.{Pair}
use Rattle.link_graph.specs.Marks.{members}
use Rattle.module_memory.specs.Core.{setting_of}
use Rattle.switch_settings.specs.Sending.{started_by, in_order}
use Rattle.switch_settings.specs.Settings.{joined_pair, setting_pairs}
use Rattle.steady_schedule.specs.Changes.{are_partners, join_within, join_same}
use Rattle.rack_answers.specs.Laws.{HeldIsSettled}

-- the pair is among these
abbrev Among : List Pair → Pair → Type 0
Among others p = list_any (is_pair p) others ≡ true

-- ---- pairs in their order

without_none : (others pairs : List Pair) → AllByRecursion (Among others) pairs → without others pairs ≡ []
without_none others [] all = refl
without_none others (p ∷ ps) all = rw all.0 (without_none others ps all.1)

all_started : (P : Pair → Type 0) (ps : List Pair) (m : ℕ) → AllByRecursion P ps → AllByRecursion P (started_by ps m)
all_started P [] m all = tt
all_started P (p ∷ ps) m all = elim (cases_Bool (p.initiator == m)) [
  | inl same ↦ rw same (all.0, all_started P ps m all.1)
  | inr other ↦ rw other (all_started P ps m all.1)
]

all_both : (P : Pair → Type 0) (ps qs : List Pair) → AllByRecursion P ps → AllByRecursion P qs → AllByRecursion P (ps ++ qs)
all_both P [] qs all others = others
all_both P (p ∷ ps) qs all others = (all.0, all_both P ps qs all.1 others)

all_modules : (P : Pair → Type 0) (ps : List Pair) (ms : List ℕ) → AllByRecursion P ps → AllByRecursion P (flat_map (started_by ps) ms)
all_modules P ps [] all = tt
all_modules P ps (m ∷ ms) all = all_both P (started_by ps m) (flat_map (started_by ps) ms) (all_started P ps m all) (all_modules P ps ms all)

all_in_order : (P : Pair → Type 0) (ps : List Pair) → AllByRecursion P ps → AllByRecursion P (in_order ps)
unfolding in_order
all_in_order P ps all = all_modules P ps (range_with_len 0 MAX_MODULES) all

-- a pair is among those that its initiator starts
among_started : (p : Pair) (ps : List Pair) → Among ps p → Among (started_by ps p.initiator) p
among_started p [] among = among
among_started p (q ∷ ps) among = elim (cases_Bool (is_pair p q)) [
  | inl same ↦
      let start : (q.initiator == p.initiator) ≡ true = grind (arith, nat_tests) in
      rw (start, same) refl
  | inr other ↦
      let rest = among_started p ps (rw other at among) in
      elim (cases_Bool (q.initiator == p.initiator)) [
        | inl start ↦ rw (start, other) rest
        | inr start ↦ rw start rest
      ]
]

among_modules : (p : Pair) (ps : List Pair) (m n : ℕ) → m ≤ p.initiator → p.initiator < m + n → Among ps p
    → Among (flat_map (started_by ps) (range_with_len m n)) p
among_modules p ps m zero le lt among = absurd (omega arith)
among_modules p ps m (suc n) le lt among =
    let rest : List Pair = flat_map (started_by ps) (range_with_len (m + 1) n) in
    list_any-append (is_pair p) (started_by ps m) rest
    ∙ elim (cases_eq m p.initiator) [
      | inl e ↦
          let here : list_any (is_pair p) (started_by ps m) ≡ true = subst (λ (i : ℕ). list_any (is_pair p) (started_by ps i) ≡ true) (sym e)
          (among_started p ps among) in
          rw here refl
      | inr ne ↦
          let later : list_any (is_pair p) rest ≡ true = among_modules p ps (m + 1) n (omega arith) (omega arith) among in
          rw later (grind (arith, nat_tests))
    ]

among_in_order : (p : Pair) (ps : List Pair) → p.initiator < MAX_MODULES → Among ps p → Among (in_order ps) p
unfolding in_order
among_in_order p ps low among = among_modules p ps 0 MAX_MODULES (omega arith) (omega arith) among

-- ---- pairs of transfers

among_pairs : (ts : List Transfer) (p : Pair) → are_partners ts p.initiator p.responder ≡ true → Among (map joined_pair ts) p
among_pairs [] p joined = joined
among_pairs (x ∷ ts) p joined =
    let same : is_pair p (joined_pair x) ≡ (x.initiator == p.initiator && x.responder == p.responder) = grind (arith, nat_tests) in
    elim (cases_Bool (x.initiator == p.initiator && x.responder == p.responder)) [
      | inl here ↦ rw (same, here) refl
      | inr other ↦ rw (same, other) (among_pairs ts p (rw other at joined))
    ]

abbrev IsLow : Transfer → Type 0
IsLow x = x.initiator < MAX_MODULES

all_among : (ts us : List Transfer) → AllByRecursion IsLow ts → join_within ts us ≡ true → AllByRecursion (Among (in_order (map joined_pair us)))
    (map joined_pair ts)
all_among [] us low within = tt
all_among (x ∷ ts) us low within =
    let both = and_parts (are_partners us x.initiator x.responder) (join_within ts us) within in
    (among_in_order (joined_pair x) (map joined_pair us) low.0 (among_pairs us (joined_pair x) both.0), all_among ts us low.1 both.1)

none_left : (ts us : List Transfer) → AllByRecursion IsLow ts → join_within ts us ≡ true → without (in_order (map joined_pair us))
    (in_order (map joined_pair ts)) ≡ []
none_left ts us low within =
    without_none (in_order (map joined_pair us)) (in_order (map joined_pair ts)) (all_in_order (Among (in_order (map joined_pair us))) (map joined_pair ts)
    (all_among ts us low within))

-- ---- settings

members_are : (batch : List Transfer) (s : List ℕ) → All (λ t. t < length batch) s → members batch s ≡ setting_of batch s
members_are batch [] known = refl
members_are batch (t ∷ s) known =
    rw (slice_get-get_or batch t no_transfer (All-head (λ u. u < length batch) t s known))
    (ap (λ (ts : List Transfer). transfer_at batch t ∷ ts) (members_are batch s (All-tail (λ u. u < length batch) t s known)))

all_low : (batch : List Transfer) (s : List ℕ) → IsBatch batch → All (λ t. t < length batch) s → AllByRecursion IsLow (setting_of batch s)
all_low batch [] fits known = tt
all_low batch (t ∷ s) fits known = (
  (fits.within t no_transfer (All-head (λ u. u < length batch) t s known)).0.0,
  all_low batch s fits (All-tail (λ u. u < length batch) t s known),
)

same_settled : (batch : List Transfer) (one other : List ℕ) (wiring : Wiring) → IsBatch batch → All (λ t. t < length batch) one
    → All (λ t. t < length batch) other → join_same batch one other ≡ true → change wiring (in_order (setting_pairs batch one))
    (in_order (setting_pairs batch other)) ≡ Settle ∷ []
same_settled batch one other wiring fits known known_too same =
    let both = and_parts (join_within (members batch one) (members batch other)) (join_within (members batch other) (members batch one)) same in
    let one_is = members_are batch one known in
    let other_is = members_are batch other known_too in
    let within : join_within (setting_of batch one) (setting_of batch other) ≡ true = rw (one_is, other_is) at both.0 in
    let back : join_within (setting_of batch other) (setting_of batch one) ≡ true = rw (one_is, other_is) at both.1 in
    rw (
      none_left (setting_of batch one) (setting_of batch other) (all_low batch one fits known) within,
      none_left (setting_of batch other) (setting_of batch one) (all_low batch other fits known_too) back,
    ) refl

pub held_is_settled : HeldIsSettled
held_is_settled batch settings k wiring fits is lt same =
    rw (add-one k) (same_settled batch (get_or settings k []) (get_or settings (suc k) []) wiring fits (is.no_other k [] (omega arith))
    (is.no_other (suc k) [] (omega arith)) (rw (add-one k) at same))
