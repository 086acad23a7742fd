-- Before a run begins.
use Rattle.std.proofs.Common.{◌⊎◌, ◌≡◌, ◌<◌, ◌+◌, ℕ, List, length, take, drop, sym, ap₂, arith, refl, subst}
use Rattle.std.specs.Prelude.{◌↔◌}
use Rattle.std.specs.List.{concat}
use Rattle.batch.specs.ShapeView.{ShapeView}
use Rattle.batch.specs.declared.transfer.Place.{Place}
use Rattle.batch.specs.declared.transfer.Transfer.{Transfer}
use Rattle.batch.specs.Held.{AreHeldSources}
use Rattle.batch.specs.Overlap.{IsApart, IsFirstOverlap}
use Rattle.batch.specs.Places.{HasPlace}
use Rattle.batch.proofs.FirstOverlap.{one_first}
use Rattle.std.proofs.lemmas.List.Elements.{Contains-get_or}
use Rattle.module_memory.specs.Store.{Store}
use Rattle.module_memory.specs.Core.{FitsIn, IsReady, setting_of}
use Rattle.module_memory.specs.Bays.{AreBaysOf, destinations_of}
use Rattle.module_memory.specs.Lending.{AreLendable, ExistBefore, IsLendFault, bays_of, place_in, without}
use Rattle.module_memory.specs.declared.fault.LendFault.{LendFault}
use Rattle.module_memory.specs.declared.fault.LendFault.TheVariants.{SamePlace, NoPlace, NoHeld, NoMemory as NoBays}
use Rattle.module_memory.proofs.PartedSettings.{settings_have_bays}
use Rattle.setting_runner.specs.declared.outcome.Outcome.{Outcome}
use Rattle.setting_runner.specs.declared.outcome.Outcome.TheVariants.{Refused}
use Rattle.setting_runner.specs.declared.outcome.RunRefusal.{RunRefusal}
use Rattle.setting_runner.specs.declared.outcome.RunRefusal.TheVariants.{NoMemory, Overlap, Shape}
use Rattle.setting_runner.specs.Refusals.{IsRefusal}
use Rattle.setting_runner.specs.Runs.{CanMove, HasOwnBays, IsMisfit, IsRefusedRun, RunNeedsMemory, destinations_in}
use Rattle.switch_settings.specs.Settings.{numbers_in}
use Rattle.setting_runner.proofs.Schedules.{split_concat}

abbrev refused : RunRefusal → Outcome
refused r = Refused r

same_pair : (a b i j : ℕ) → refused (Overlap a b) ≡ refused (Overlap i j) → (a ≡ i) × (b ≡ j)
same_pair a b i j e = (cc, cc)

-- two transfers that overlap first aren't there where none overlap
pub no_overlap : (ts : List Transfer) (i j : ℕ) → IsApart ts → IsFirstOverlap ts i j → ⊥
no_overlap ts i j apart first = apart i j first.overlap

-- the overlap that is named is the first
pub overlap_of : (shape : ShapeView) (ts : List Transfer) (r : RunRefusal) → IsRefusal shape ts r → (i j : ℕ) → (refused r ≡ refused (Overlap i j)) ↔
    IsFirstOverlap ts i j
overlap_of shape ts (Overlap a b) first i j = (
  λ e. let same = same_pair a b i j e in subst (λ (x : ℕ). IsFirstOverlap ts x j) same.0 (subst (λ (x : ℕ). IsFirstOverlap ts a x) same.1 first),
  λ other. let same = one_first ts a b i j first other in ap₂ (λ (x y : ℕ). refused (Overlap x y)) same.0 same.1,
)
overlap_of shape ts Shape is i j = (λ e. absurd cc, λ first. absurd (no_overlap ts i j is.0 first))
overlap_of shape ts NoMemory is i j = (λ e. absurd cc, λ first. absurd (no_overlap ts i j is.apart first))

-- the shape is the cause just where nothing overlaps and a block is missing
pub shape_of : (shape : ShapeView) (ts : List Transfer) (r : RunRefusal) → IsRefusal shape ts r → (refused r ≡ refused Shape) ↔ (IsApart ts × IsMisfit shape ts)
shape_of shape ts (Overlap a b) first = (λ e. absurd cc, λ both. absurd (no_overlap ts a b both.0 first))
shape_of shape ts Shape is = (λ e. is, λ both. refl)
shape_of shape ts NoMemory is = (λ e. absurd cc, λ both. absurd (both.1 is.fits))

-- memory is the cause where there is no other
pub memory_of : (shape : ShapeView) (ts : List Transfer) (r : RunRefusal) → IsRefusal shape ts r → refused r ≡ refused NoMemory → RunNeedsMemory shape ts
memory_of shape ts (Overlap a b) first e = absurd cc
memory_of shape ts Shape is e = absurd cc
memory_of shape ts NoMemory is e = is

-- a run that isn't refused has no cause to be
not_refused : (o : Outcome) (r : RunRefusal) → (IsRefusedRun o → ⊥) → o ≡ refused r → ⊥
not_refused o r going e = going (subst IsRefusedRun (sym e) tt)

pub going_no_overlap : (shape : ShapeView) (ts : List Transfer) (o : Outcome) → (IsRefusedRun o → ⊥) → CanMove shape ts → (i j : ℕ)
    → (o ≡ refused (Overlap i j)) ↔ IsFirstOverlap ts i j
going_no_overlap shape ts o going free i j = (λ e. absurd (not_refused o (Overlap i j) going e), λ first. absurd (no_overlap ts i j free.apart first))

pub going_no_shape : (shape : ShapeView) (ts : List Transfer) (o : Outcome) → (IsRefusedRun o → ⊥) → CanMove shape ts
    → (o ≡ refused Shape) ↔ (IsApart ts × IsMisfit shape ts)
going_no_shape shape ts o going free = (λ e. absurd (not_refused o Shape going e), λ both. absurd (both.1 free.fits))

pub going_no_memory : (shape : ShapeView) (ts : List Transfer) (o : Outcome) → (IsRefusedRun o → ⊥) → o ≡ refused NoMemory → RunNeedsMemory shape ts
going_no_memory shape ts o going e = absurd (not_refused o NoMemory going e)

-- what can be lent isn't refused but for want of memory
pub lend_fault_is : (shape : ShapeView) (places held : List Place) (f : LendFault) → AreLendable shape places → ExistBefore shape held (length held)
    → IsLendFault shape places held f → (0 < length places) ⊎ (0 < length held)
lend_fault_is shape places held (SamePlace i) a h f = absurd (a.distinct f.2.again.0 i f.2.again.1 f.2.within f.2.again.2)
lend_fault_is shape places held (NoHeld i) a h f = absurd (f.1.missing (h i f.1.within))
lend_fault_is shape places held (NoPlace i) a h f = absurd (f.missing (a.exist i f.within))
lend_fault_is shape places held NoBays a h f = f.2

-- each setting of a schedule has its bays
pub setting_bays : (s : Store) (batch : List Transfer) (settings : List (List ℕ)) (k : ℕ) → IsReady s s batch (concat settings) → k < length settings
    → HasOwnBays (without s (destinations_in batch settings)) (bays_of s (destinations_in batch settings)) batch settings k
setting_bays s batch settings k r h =
    let before = concat (take k settings) in
    let after = concat (drop (k + 1) settings) in
    let e = split_concat settings k h in
    subst (λ (xs : List ℕ). AreBaysOf (without s (destinations_of batch xs)) (bays_of s (destinations_of batch xs)) (length before)
    (setting_of batch (numbers_in settings k))) (sym e)
    (settings_have_bays s batch before (numbers_in settings k) after (subst (IsReady s s batch) e r)).1

-- held sources are blocks of the rack
pub held_places : (shape : ShapeView) (batch : List Transfer) (held : List Place) → AreHeldSources batch held → FitsIn shape batch
    → ExistBefore shape held (length held)
held_places shape batch held h fits k l =
    let read = ((h.each (place_in held k)).0 (Contains-get_or held k _ l)).0 in
    subst (HasPlace shape) read.2 (fits read.0 read.1).0

-- and where there is one, there is a transfer
pub held_is_read : (batch : List Transfer) (held : List Place) → AreHeldSources batch held → 0 < length held → 0 < length batch
held_is_read batch held h l =
    let read = ((h.each (place_in held 0)).0 (Contains-get_or held 0 _ l)).0 in omega (arith, read.1)
