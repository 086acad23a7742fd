-- What is told by lines, seen as the text that was told and what is left of the input.
use Rattle.std.proofs.Common.{◌≡◌, ◌++◌, ℕ, zero, suc, Bool, List, Option, Result, Ok, Err, MutBor, refl, sym, ap, ◌∙◌, subst}
use Rattle.std.specs.Prelude.{IsTrue}
use Rattle.std.specs.Io.KnownBytes.{Appends}
use Rattle.batch.specs.declared.transfer.Transfer.{Transfer}
use Rattle.crossbar.specs.declared.traffic.Passing.{Passing}
use Rattle.switch_settings.specs.declared.rack_wiring.RackWiring.{RackWiring}
use Rattle.switch_driver.specs.Driving.{HaveStood, IsDriven}
use Rattle.switch_driver.specs.Hearings.{Hearing}
use Rattle.switch_driver.specs.Lines.{driven_line, HasToldLine, TellsLine}
use Rattle.switch_driver.specs.declared.driving.DriveOutcome.{DriveOutcome}
use Rattle.switch_driver.specs.declared.driving.DriveOutcome.TheVariants.{Completed, Stopped, Halted}
use Rattle.switch_driver.specs.declared.lines.LineObserver.{LineObserver}
use Rattle.switch_driver.specs.declared.drive_observer.Halt.{Halt}
use Rattle.switch_driver.specs.declared.drive_observer.Halt.TheVariants.{Left, Unheard, Untold}

waits_so : {a b : Bool} → a ≡ b → IsTrue b → IsTrue a
waits_so {a} {b} e w = subst (λ (x : Bool). IsTrue x) (sym e) w

same_left : {I : Type 0} (remaining : I → Option (List ℕ)) (a b : MutBor I) → b ≡ a → remaining b.now ≡ remaining a.now
same_left {I} remaining a b e = ap (λ (m : MutBor I). remaining m.now) e

-- what a line appended over the same loan, and what holds of the text and of what is left
pub record LineText {I O : Type 0} (remaining : I → Option (List ℕ)) (contents : O → Option (List ℕ)) (waits : Bool) (setting : ℕ) (numbers : List ℕ)
    (said : Result (Unit {0}) Halt) (old new : LineObserver I O) : Type 0 where
  pub text : List ℕ
  pub appended : Appends (contents old.out.now) (contents new.out.now) text
  pub loan : new.out.ghost_name ≡ old.out.ghost_name
  pub kept : new.waits ≡ old.waits
  pub is : (front : List ℕ) → TellsLine waits (record { told = front; left = remaining old.input.now }) setting numbers said
      (record { told = front ++ text; left = remaining new.input.now })

pub line_text : {I O : Type 0} (remaining : I → Option (List ℕ)) (contents : O → Option (List ℕ)) (waits : Bool) (setting : ℕ) (numbers : List ℕ)
    (said : Result (Unit {0}) Halt) (old new : LineObserver I O) → old.waits ≡ waits → HasToldLine remaining contents setting numbers said old new
    → LineText remaining contents waits setting numbers said old new
line_text {I} {O} remaining contents waits setting numbers (Ok done) old new e h = record {
  text = driven_line setting numbers;
  appended = h.0;
  loan = h.1;
  kept = h.4;
  is = λ front. (refl, λ w. h.2 (waits_so e w), λ off. same_left remaining old.input new.input (h.3 (e ∙ off)));
}
line_text {I} {O} remaining contents waits setting numbers (Err Left) old new e h =
    record { text = driven_line setting numbers; appended = h.0; loan = h.1; kept = h.4; is = λ front. (refl, waits_so (sym e) h.2, h.3) }
line_text {I} {O} remaining contents waits setting numbers (Err Unheard) old new e h =
    record { text = driven_line setting numbers; appended = h.0; loan = h.1; kept = h.4; is = λ front. (refl, waits_so (sym e) h.2, h.3) }
line_text {I} {O} remaining contents waits setting numbers (Err Untold) old new e h =
    let cut = h.0 in
    record {
      text = cut.front;
      appended = cut.appended;
      loan = h.1;
      kept = h.3;
      is =
          λ front. (cut.front, cut.missing, cut.bytes_are, refl, same_left remaining old.input new.input h.2);
    }

-- What one hears of a setting that stands, another hears too, who sees this of the first.
module _ {S T X : Type 0} (hears : Hearing S) (overhears : Hearing T) (sees : S → X → T) (Is : S → X → Type 0)
    (step : (a : S) (n : ℕ) (ns : List ℕ) (said : Result (Unit {0}) Halt) (b : S) (x : X) → Is a x → hears a n ns said b → (y : X)
    × overhears (sees a x) n ns said (sees b y) × Is b y)
    (rack : RackWiring) (batch : List Transfer) (settings : List (List ℕ)) (first : ℕ) (old : Option (List Passing)) (told : S) (x : X) (is : Is told x) where
  stood_so : (k : ℕ) (new : Option (List Passing)) (tells : S) → HaveStood hears rack batch settings first k old told new tells → (y : X)
      × HaveStood overhears rack batch settings first k old (sees told x) new (sees tells y) × Is tells y
  stood_so zero new tells h = rw h.1 (x, (h.0, refl), is)
  stood_so (suc k) new tells (mid, telling, before, stood, said) =
      let so = stood_so k mid telling before in
      let here = step _ _ _ _ _ so.0 so.2 said in
      (here.0, (mid, sees telling so.0, so.1, stood, here.1), here.2)

  -- so it is of all that is driven
  pub driven_so : (how : DriveOutcome) (new : Option (List Passing)) (tells : S) → IsDriven hears rack batch settings first how old told new tells → (y : X)
      × IsDriven overhears rack batch settings first how old (sees told x) new (sees tells y) × Is tells y
  driven_so (Completed all) new tells h = let so = stood_so h.1.0 new tells h.1.2 in (so.0, (h.0, (h.1.0, h.1.1, so.1)), so.2)
  driven_so (Stopped k fault) new tells h =
      let so = stood_so h.count h.mid tells h.before in
      (so.0, record { count = h.count; at = h.at; within = h.within; mid = h.mid; before = so.1; vain = h.vain }, so.2)
  driven_so (Halted k halt) new tells h =
      let so = stood_so h.count h.mid h.telling h.before in
      let here = step _ _ _ _ _ so.0 so.2 h.said in (
        here.0,
        record {
          count = h.count;
          at = h.at;
          within = h.within;
          mid = h.mid;
          telling = sees h.telling so.0;
          before = so.1;
          stood = h.stood;
          said =
              here.1;
        },
        here.2,
      )
