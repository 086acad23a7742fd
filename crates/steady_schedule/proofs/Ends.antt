-- The modules that a transfer joins, told by its number.
use Rattle.std.proofs.Common.{◌≡◌, ℕ, ◌+◌, ◌<◌, List, [], ◌∷◌, ◌++◌, length, take, slice_get, Some, ◌∙◌, ap, sym, inl, inr, arith}
use Rattle.std.specs.Prelude.{option_map}
use Rattle.std.proofs.lemmas.Option.{slice_get_cases, slice_get_within, get_or_from_slice_get, same_Some}
use Rattle.std.proofs.lemmas.List.{take_more}
use Rattle.batch.specs.Batches.{IsBatch}
use Rattle.batch.specs.declared.limits.TheConstants.{MAX_MODULES}
use Rattle.batch.specs.declared.transfer.Transfer.{Transfer}
use Rattle.link_graph.specs.declared.link.Link.{Link}
use Rattle.link_graph.specs.Uses.{start_link, answer_link}
use Rattle.link_graph.proofs.Tables.{modules_of}

pub record HasEnds (batch : List Transfer) (t a b : ℕ) : Type 0 where
  pub x : Transfer
  pub here : slice_get batch t ≡ Some x
  pub start : a ≡ x.initiator
  pub answer : b ≡ x.responder
  pub start_low : a < MAX_MODULES
  pub answer_low : b < MAX_MODULES

pub has_ends : (batch : List Transfer) (t : ℕ) (r : Link × Link) → IsBatch batch → t < length batch
    → option_map (λ (x : Transfer). let p : Link × Link = (start_link x, answer_link x) in p) (slice_get batch t) ≡ Some r
    → HasEnds batch t r.0.«module» r.1.«module»
has_ends batch t r fits t_in is = elim (slice_get_cases batch t).1 [
  | inl p ↦
      let x : Transfer = p.0 in
      let same = same_Some _ r (rw p.2 at is) in
      let start : r.0.«module» ≡ x.initiator = ap (λ (q : Link × Link). q.0.«module») (sym same) in
      let answer : r.1.«module» ≡ x.responder = ap (λ (q : Link × Link). q.1.«module») (sym same) in
      let low = modules_of batch t x p.2 fits in
      record { x = x; here = p.2; start = start; answer = answer; start_low = omega (arith, start, low.0); answer_low = omega (arith, answer, low.1) }
  | inr p ↦ absurd (omega (arith, p.0))
]

pub one_more : (batch : List Transfer) (t : ℕ) (x : Transfer) → slice_get batch t ≡ Some x → take (t + 1) batch ≡ take t batch ++ x ∷ []
one_more batch t x here =
    take_more batch t x (slice_get_within batch t x here) ∙ ap (λ (y : Transfer). take t batch ++ y ∷ []) (get_or_from_slice_get batch t x x here)
