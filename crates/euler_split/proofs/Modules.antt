-- The modules that a transfer has at its two ends.
use Rattle.std.proofs.Common.{◌≡◌, ℕ, ◌<◌, List, length, slice_get, Some, sym, ap, ◌∙◌, inl, inr, arith}
use Rattle.std.specs.Prelude.{option_map}
use Rattle.std.proofs.lemmas.List.{get_or-map}
use Rattle.std.proofs.lemmas.Option.{slice_get_cases, get_or_from_slice_get, same_Some}
use Rattle.batch.specs.Batches.{IsBatch}
use Rattle.batch.specs.declared.limits.TheConstants.{MAX_MODULES}
use Rattle.batch.specs.declared.transfer.Transfer.{Transfer}
use Rattle.link_graph.specs.declared.link.End.{End}
use Rattle.link_graph.specs.declared.link.End.TheVariants.{Zero, Three}
use Rattle.link_graph.specs.declared.link.Link.{Link}
use Rattle.link_graph.specs.Counts.{module_at}
use Rattle.link_graph.specs.Uses.{start_link, answer_link}
use Rattle.euler_split.specs.Pairs.{module_in}

-- the transfer of a number
pub known_transfer : (g : List Transfer) (t : ℕ) → t < length g → (x : Transfer) × (slice_get g t ≡ Some x)
known_transfer g t t_in = elim (slice_get_cases g t).1 [ inl p ↦ (p.0, p.2) | inr p ↦ absurd (omega (arith, p.0)) ]

-- its module at an end
pub module_is : (g : List Transfer) (e : End) (t : ℕ) (x : Transfer) → t < length g → slice_get g t ≡ Some x → module_in g e t ≡ module_at e x
unfolding module_in
module_is g e t x t_in here = get_or-map (module_at e) g t x 0 t_in ∙ ap (module_at e) (get_or_from_slice_get g t x x here)

pub ends_modules : (g : List Transfer) (t : ℕ) (r : Link × Link) → t < length g
    → option_map (λ (x : Transfer). let p : Link × Link = (start_link x, answer_link x) in p) (slice_get g t) ≡ Some r → (r.0.«module» ≡ module_in g Zero t)
    × (r.1.«module» ≡ module_in g Three t)
ends_modules g t r t_in is =
    let known = known_transfer g t t_in in
    let same = same_Some _ r (rw known.1 at is) in (
      ap (λ (p : Link × Link). p.0.«module») (sym same) ∙ sym (module_is g Zero t known.0 t_in known.1),
      ap (λ (p : Link × Link). p.1.«module») (sym same)
          ∙ sym (module_is g Three t known.0 t_in known.1),
    )

module_low : (x : Transfer) (e : End) → (x.initiator < MAX_MODULES) × (x.responder < MAX_MODULES) → module_at e x < MAX_MODULES
module_low x Zero low = low.0
module_low x Three low = low.1

pub module_in_low : (g : List Transfer) (e : End) (t : ℕ) → IsBatch g → t < length g → module_in g e t < MAX_MODULES
module_in_low g e t batch t_in =
    let known = known_transfer g t t_in in
    let within = batch.within t known.0 t_in in
    let same = get_or_from_slice_get g t known.0 known.0 known.1 in
    rw (module_is g e t known.0 t_in known.1) (module_low known.0 e (rw same at within.0))
