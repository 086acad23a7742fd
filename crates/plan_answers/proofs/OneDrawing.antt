-- Two texts have one answer of `draw` at most, where so many changes are shown.
use Rattle.std.proofs.Common.{◌≡◌, ℕ, List, [], ◌∷◌, Option, Some, None, refl, sym, ap, ◌∙◌, arith}
use Rattle.std.specs.Prelude.{IfSome}
use Rattle.batch.specs.declared.transfer.Transfer.{Transfer}
use Rattle.batch.specs.ShapeView.{ShapeView, IsShape}
use Rattle.link_graph.specs.declared.check_fault.CheckFault.{CheckFault}
use Rattle.link_graph.specs.declared.check_fault.CheckFault.TheVariants.{WrongLink}
use Rattle.link_graph.specs.Checks.{IsSettingsFault}
use Rattle.link_graph.specs.Certificates.{Naming, naming}
use Rattle.link_graph.specs.Schedules.{IsScheduleOf}
use Rattle.link_graph.proofs.OneFault.{same_fault}
use Rattle.refusals.specs.declared.refusal.Refusal.{Refusal}
use Rattle.refusals.specs.Sources.{of_check}
use Rattle.schedule_picture.specs.declared.shown.ShownSettings.{ShownSettings}
use Rattle.plan_answers.specs.declared.setting_range.SettingRange.{SettingRange}
use Rattle.plan_answers.specs.Validities.{IsScheduleRead, IsUnscheduled, IsInvalid, unread, unscheduled}
use Rattle.plan_answers.specs.Drawings.{IsInOrder, AreWanted, AreShown, IsOutside, invalid}
use Rattle.plan_answers.proofs.OneReading.{same_texts, texts_right, one_text_wrong}

-- ---- which settings are drawn

-- what is wanted is in order
pub in_order : (settings_text : Option (List ℕ)) (range : Option SettingRange) → AreWanted settings_text range → IfSome range IsInOrder
in_order settings_text None p = tt
in_order None (Some range) p = absurd p
in_order (Some text) (Some range) p = p.some

pub not_outside : (range : Option SettingRange) (settings k : ℕ) (shown : ShownSettings) → AreShown range settings shown → IsOutside range settings k → ⊥
not_outside None settings k shown a b = b
not_outside (Some range) settings k shown a b = omega (arith, a.0, b.0)

-- ---- a schedule, or what is wrong with it

wrong_same : (t u : ℕ) → WrongLink t ≡ WrongLink u → t ≡ u
wrong_same t u e = cc

-- A schedule of the batch has no fault whatever is named with it: where one number is named, and no
-- link, that is the first fault.
no_fault : (batch : List Transfer) (settings : List (List ℕ)) (fault : CheckFault) → IsScheduleOf batch settings → IsSettingsFault batch settings fault → ⊥
no_fault batch settings fault s bad =
    let is : (t : ℕ) → fault ≡ WrongLink t = λ t.
    same_fault batch settings (naming None (t ∷ [])) fault (WrongLink t) (bad.1 (naming None (t ∷ [])))
    (s, record { before = []; after = []; parts = refl; good = λ k d lt. absurd (omega (arith, lt)); bad = λ used. used }) in
    omega (arith, wrong_same 0 1 (sym (is 0) ∙ is 1))

-- a schedule that is read has nothing wrong
pub read_right : (shape : ShapeView) → IsShape shape → (batch schedule : List ℕ) (ts : List Transfer) (xs : List (List ℕ)) (refusal : Refusal)
    → IsScheduleRead shape batch schedule ts xs → IsInvalid shape batch schedule refusal → ⊥
read_right shape valid batch schedule ts xs refusal a (unread wrong) = texts_right shape valid batch schedule ts xs a.certificate refusal a.texts wrong
read_right shape valid batch schedule ts xs refusal a (unscheduled us ys m texts wrong) =
    no_fault ts xs wrong.0 a.valid (same_texts (λ t x n. IsSettingsFault t x wrong.0) shape valid batch schedule ts us xs ys a.certificate m a.texts texts
    wrong.1)

one_unscheduled : (ts : List Transfer) (xs : List (List ℕ)) (q r : Refusal) → IsUnscheduled ts xs q → IsUnscheduled ts xs r → q ≡ r
one_unscheduled ts xs q r a b =
    let nothing : Naming = naming None [] in
    a.2 ∙ ap of_check (same_fault ts xs nothing a.0 b.0 (a.1.1 nothing) (b.1.1 nothing)) ∙ sym b.2

pub one_invalid : (shape : ShapeView) → IsShape shape → (batch schedule : List ℕ) (q r : Refusal) → IsInvalid shape batch schedule q
    → IsInvalid shape batch schedule r → q ≡ r
one_invalid shape valid batch schedule q r (unread a) (unread b) = one_text_wrong shape valid batch schedule q r a b
one_invalid shape valid batch schedule q r (unread a) (unscheduled ts xs m texts b) = absurd (texts_right shape valid batch schedule ts xs m q texts a)
one_invalid shape valid batch schedule q r (unscheduled ts xs m texts a) (unread b) = absurd (texts_right shape valid batch schedule ts xs m r texts b)
one_invalid shape valid batch schedule q r (unscheduled ts xs m texts a) (unscheduled us ys n others b) =
    one_unscheduled ts xs q r a (same_texts (λ t x c. IsUnscheduled t x r) shape valid batch schedule ts us xs ys m n texts others b)

-- ---- one answer
