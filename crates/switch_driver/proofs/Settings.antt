-- The settings of a schedule, one after another.
use Rattle.std.proofs.Common.{◌≡◌, ◌+◌, ◌<◌, ◌≤◌, ℕ, Bool, true, false, List, Option, Some, Result, Ok, sym, ap, ◌∙◌, subst, add-one, arith}
use Rattle.std.proofs.lemmas.Bool.Decides.{nat_tests}
use Rattle.std.proofs.lemmas.Result.{on_ok_weaker, IfErr-weaker}
use Rattle.std.specs.Prelude.{nat_lt, OnOk, IfErr}
use Rattle.batch.specs.declared.transfer.Transfer.{Transfer}
use Rattle.crossbar.specs.Chips.{Switches}
use Rattle.crossbar.specs.declared.chip.Chip.{Chip}
use Rattle.crossbar.specs.declared.chip.Wiring.{Wiring}
use Rattle.crossbar.specs.declared.pair.Pair.{Pair}
use Rattle.crossbar.specs.declared.switch.TheConstants.{JOINED_MODULES}
use Rattle.crossbar.specs.declared.traffic.Passing.{Passing}
use Rattle.switch_settings.specs.Asking.{AreDone, BreakOff, wirings}
use Rattle.switch_settings.specs.RackWirings.{AreSetIn}
use Rattle.switch_settings.specs.Sending.{pairs_at}
use Rattle.switch_settings.specs.Settings.{numbers_in}
use Rattle.switch_settings.specs.declared.fault.SettingFault.{SettingFault}
use Rattle.switch_settings.specs.declared.rack_wiring.RackWiring.{RackWiring}
use Rattle.switch_settings.specs.declared.rack_wiring.RackWiring.TheVariants.{Usual}
use Rattle.switch_driver.specs.Driving.{Stood, HaveStood, standing_after}
use Rattle.switch_driver.specs.Steps.{HasStopped, Stands, changed, settled_steps, wirings_of}
use Rattle.switch_driver.specs.Hearings.{Hearing}

-- a setting that stands, of the pairs that were asked for
pub stands_so : (rack : RackWiring) (batch : List Transfer) (settings : List (List ℕ)) (first n k : ℕ) (known : Option (List Pair)) (pairs : List Pair)
    (old new : Option (List Passing)) → first + n ≡ k → known ≡ standing_after batch settings first n → pairs ≡ pairs_at batch settings k
    → Stands rack known pairs old new → Stood rack batch settings first n old new
stands_so rack batch settings first n k known pairs old new at e f h = rw at (rw (e, f) at h)

-- the pairs that stand after it
pub known_after : (batch : List Transfer) (settings : List (List ℕ)) (first n k : ℕ) (pairs : List Pair) → first + n ≡ k → pairs ≡ pairs_at batch settings k
    → Some pairs ≡ standing_after batch settings first (n + 1)
known_after batch settings first n k pairs at e = ap (λ (ps : List Pair). Some ps) (e ∙ ap (pairs_at batch settings) (sym at))
    ∙ ap (standing_after batch settings first) (sym (add-one n))

-- one setting more
pub one_more : {S : Type 0} (hears : Hearing S) (rack : RackWiring) (batch : List Transfer) (settings : List (List ℕ)) (first n k : ℕ) (numbers : List ℕ)
    (old : Option (List Passing)) (told : S) (mid : Option (List Passing)) (telling : S) (new : Option (List Passing))
    (tells : S) → first + n ≡ k → numbers ≡ numbers_in settings k → HaveStood hears rack batch settings first n old told mid telling
    → Stood rack batch settings first n mid new → hears telling k numbers (Ok tt) tells → HaveStood hears rack batch settings first (n + 1) old told new
    tells
one_more hears rack batch settings first n k numbers old told mid telling new tells at are before stand said =
    let here = subst (λ (ns : List ℕ). hears telling k ns (Ok tt) tells) are said in
    rw (add-one n) (mid, telling, before, stand, subst (λ (j : ℕ). hears telling j (numbers_in settings j) (Ok tt) tells) (sym at) here)

-- what the switches were set to while the port was as honest as before
pub set_later : (rack : RackWiring) (before after : Bool) (switches : Switches) (pairs others : List Pair) → pairs ≡ others → after ≡ before
    → AreSetIn rack before switches pairs → AreSetIn rack after switches others
set_later rack before after switches pairs others e f h = rw (f, sym e) h

-- ---- the switches of a rack

pub wide_wirings : (rack : RackWiring) (modules : ℕ) → rack ≡ Usual modules → JOINED_MODULES < modules → wirings_of rack ≡ wirings true
wide_wirings rack modules is wide =
    let two : nat_lt JOINED_MODULES modules ≡ true = grind (arith, nat_tests) in
    ap wirings_of is ∙ ap wirings two

pub narrow_wirings : (rack : RackWiring) (modules : ℕ) → rack ≡ Usual modules → modules ≤ JOINED_MODULES → wirings_of rack ≡ wirings false
narrow_wirings rack modules is narrow =
    let one : nat_lt JOINED_MODULES modules ≡ false = grind (arith, nat_tests) in
    ap wirings_of is ∙ ap wirings one

-- they stand where all was done with them
pub stands_in : {T E : Type 0} (r : Result T E) (rack : RackWiring) (switches : List (Chip × Wiring)) (standing : Option (List Pair)) (pairs : List Pair)
    (old new : Option (List Passing)) → wirings_of rack ≡ switches → (standing ≡ Some pairs → ⊥)
    → OnOk r (AreDone standing pairs (settled_steps switches) old new) → OnOk r (Stands rack standing pairs old new)
stands_in r rack switches standing pairs old new are other all =
    on_ok_weaker r (λ done. changed other (subst (λ (ws : List (Chip × Wiring)). AreDone standing pairs (settled_steps ws) old new) (sym are) done)) all

pub stops_in : {T : Type 0} (r : Result T SettingFault) (rack : RackWiring) (switches : List (Chip × Wiring)) (standing : Option (List Pair))
    (pairs : List Pair) (old new : Option (List Passing)) → wirings_of rack ≡ switches → (standing ≡ Some pairs → ⊥)
    → IfErr r (λ fault. BreakOff fault standing pairs (settled_steps switches) old new) → IfErr r (λ fault. HasStopped rack fault standing pairs old new)
stops_in r rack switches standing pairs old new are other broken =
    IfErr-weaker r _ _
    (λ fault breaks. (other, subst (λ (ws : List (Chip × Wiring)). BreakOff fault standing pairs (settled_steps ws) old new) (sym are) breaks)) broken
