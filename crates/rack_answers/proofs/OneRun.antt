-- Texts and an image have one answer of `run`, and one of `apply`, at most.
use Rattle.std.proofs.Common.{◌≡◌, ◌≢◌, ℕ, List, length, Option, None, refl, ap, ap₂, sym, ◌∙◌, subst, arith}
use Rattle.std.specs.Borrow.{Bor}
use Rattle.batch.specs.declared.transfer.Transfer.{Transfer}
use Rattle.batch.specs.ShapeView.{ShapeView, IsShape}
use Rattle.batch.specs.Text.{Denotes}
use Rattle.batch.specs.ShapeText.{DenotesShape}
use Rattle.batch.proofs.Shapes.{one_shape}
use Rattle.batch.proofs.OneReading.{one_batch}
use Rattle.batch.proofs.FirstOverlap.{one_first}
use Rattle.link_graph.specs.Certificates.{IsShortest}
use Rattle.module_memory.specs.Store.{Store}
use Rattle.module_memory.proofs.CoreLaw.{one_placed}
use Rattle.refusals.specs.declared.refusal.Refusal.{Refusal}
use Rattle.refusals.specs.declared.refusal.Refusal.TheVariants.{Overlap}
use Rattle.refusals.specs.Refusals.{refusal_words}
use Rattle.refusals.specs.Sources.{of_image}
use Rattle.plan_answers.specs.Answers.{IsOnly}
use Rattle.plan_answers.specs.Refusals.{Printed, IsRefused}
use Rattle.plan_answers.specs.Schedules.{AreRight, IsWrongFrom, said_by}
use Rattle.plan_answers.specs.declared.source.Planning.TheVariants.{Plain, Steady}
use Rattle.plan_answers.specs.declared.source.ScheduleSource.{ScheduleSource}
use Rattle.plan_answers.specs.declared.source.ScheduleSource.TheVariants.{Plan, Text}
use Rattle.plan_answers.proofs.OneReading.{same_texts}
use Rattle.plan_answers.proofs.OneSource.{from_right, one_wrong_from, right_denoted, right_or_wrong}
use Rattle.plan_answers.proofs.Printing.{printed_same, refused_same}
use Rattle.rack_answers.specs.Answers.{IsReport, IsLeftBy, IsResult, IsWrongOf, image_wrong, overlapping, IsFirstRunWrong, shape_wrong, texts_wrong, run_wrong, IsAnswerBy, ran, run_refused}
use Rattle.rack_answers.specs.Answers.{IsRunAnswer}
use Rattle.rack_answers.specs.Reports.{report_for, report_of}
use Rattle.rack_answers.proofs.Openings.{one_opening, opening_blocks, right_image, not_wrong, one_wrong}

-- ---- what is printed of a run

-- one text is printed, and only where the texts are right
record IsDeterminate (IsTold : ShapeView → List ℕ → List Transfer → Store → List ℕ → Type 0) (source : ScheduleSource (List ℕ)) : Type 0 where
  right : (extent : ShapeView) (batch : List ℕ) (ts : List Transfer) (left : Store) (text : List ℕ) → Denotes extent batch ts → IsTold extent batch ts left text
      → AreRight source extent batch ts
  one : (extent : ShapeView) → IsShape extent → (batch : List ℕ) (ts : List Transfer) (left : Store) (p q : List ℕ) → IsTold extent batch ts left p
      → IsTold extent batch ts left q → p ≡ q

-- of two shortest schedules neither has fewer settings
same_count : (ts : List Transfer) (xs ys : List (List ℕ)) → IsShortest ts xs → IsShortest ts ys → length xs ≡ length ys
same_count ts xs ys a b = omega (arith, a.least ys b.schedule, b.least xs a.schedule)

one_report_text : (source : ScheduleSource (List ℕ)) → source ≢ Plan Steady → (extent : ShapeView) → IsShape extent → (batch : List ℕ) (ts : List Transfer)
    (left : Store) (p q : List ℕ) → IsReport source extent batch ts left p → IsReport source extent batch ts left q → p ≡ q
one_report_text (Plan Plain) some extent valid batch ts left p q a b =
    a.printed ∙ ap (λ (n : ℕ). report_of ts n None left) (same_count ts a.settings b.settings a.scheduled.1.1.1.0.shortest b.scheduled.1.1.1.0.shortest)
    ∙ sym b.printed
one_report_text (Plan Steady) some extent valid batch ts left p q a b = absurd (some refl)
one_report_text (Text schedule) some extent valid batch ts left p q a b =
    a.printed
    ∙ same_texts (λ t x m. report_for (Text schedule) ts x left ≡ report_for (Text schedule) ts b.settings left) extent valid batch schedule ts ts a.settings
    b.settings a.scheduled.certificate b.scheduled.certificate a.scheduled.texts b.scheduled.texts refl
    ∙ sym b.printed

one_report : (source : ScheduleSource (List ℕ)) → source ≢ Plan Steady → IsDeterminate (IsReport source) source
one_report source some = record {
  right = λ extent batch ts left text denotes told. from_right source extent batch ts told.settings told.scheduled;
  one = one_report_text source some;
}

-- ---- one answer

-- a run leaves one store
one_left : (extent : ShapeView) → IsShape extent → (image : Option (List ℕ)) (ts : List Transfer) (a b : Store) → IsLeftBy extent image ts a
    → IsLeftBy extent image ts b → a ≡ b
one_left extent valid image ts a b x y =
    let opening : x.opening ≡ y.opening = one_opening extent image x.opening y.opening valid x.is_opening y.is_opening in
    one_placed x.opening a b ts (opening_blocks extent image x.opening valid x.is_opening) x.is_placed (rw opening y.is_placed)

-- what the texts denote, and what a run leaves, is one thing
same_result : (IsTold : ShapeView → List ℕ → List Transfer → Store → List ℕ → Type 0) (source : ScheduleSource (List ℕ)) → IsDeterminate IsTold source
    → (shape batch : List ℕ) (image : Option (List ℕ)) (p q : List ℕ) → IsResult IsTold shape batch image p → IsResult IsTold shape batch image q → p ≡ q
same_result IsTold source determinate shape batch image p q a b =
    let extents : a.extent ≡ b.extent = one_shape shape a.extent b.extent a.shape_read b.shape_read in
    let transfers : a.transfers ≡ b.transfers = one_batch a.extent a.shape_read.allowed batch a.transfers b.transfers a.batch_read (rw extents b.batch_read) in
    let left : a.left ≡ b.left = one_left a.extent a.shape_read.allowed image a.transfers a.left b.left a.is_left (rw (extents, transfers) b.is_left) in
    determinate.one a.extent a.shape_read.allowed batch a.transfers a.left p q a.told (rw (extents, transfers, left) b.told)

-- a batch is that of one shape text
same_extent : (shape batch : List ℕ) (a b : ShapeView) (ts : List Transfer) → DenotesShape shape a → DenotesShape shape b → Denotes b batch ts
    → Denotes a batch ts
same_extent shape batch a b ts one other denotes = subst (λ (x : ShapeView). Denotes x batch ts) (sym (one_shape shape a b one other)) denotes

-- what is wrong with running the batch is wrong with each that the texts say
same_run : (shape batch : List ℕ) (image : Option (List ℕ)) (a b : ShapeView) (ts us : List Transfer) (refusal : Refusal) → DenotesShape shape a
    → DenotesShape shape b → Denotes a batch ts → Denotes b batch us → IsWrongOf b image us refusal → IsWrongOf a image ts refusal
same_run shape batch image a b ts us refusal one other says tells wrong =
    let extents : a ≡ b = one_shape shape a b one other in
    let transfers : ts ≡ us = one_batch a one.allowed batch ts us says (same_extent shape batch a b us one other tells) in
    rw (extents, transfers) wrong

-- nothing is wrong with running what was run
run_right : (extent : ShapeView) (image : Option (List ℕ)) (ts : List Transfer) (left : Store) (refusal : Refusal) → IsLeftBy extent image ts left
    → IsWrongOf extent image ts refusal → ⊥
run_right extent image ts left refusal a (image_wrong fault wrong is) = not_wrong extent image fault (right_image extent image a.opening a.is_opening) wrong
run_right extent image ts left refusal a (overlapping _ found) = a.apart found.0 found.1 found.2.overlap

-- a batch that is run has nothing wrong
result_right : (IsTold : ShapeView → List ℕ → List Transfer → Store → List ℕ → Type 0) (source : ScheduleSource (List ℕ)) → IsDeterminate IsTold source
    → (shape batch : List ℕ) (image : Option (List ℕ)) (text : List ℕ) (refusal : Refusal) → IsResult IsTold shape batch image text
    → IsFirstRunWrong source shape batch image refusal → ⊥
result_right IsTold source determinate shape batch image text refusal a (shape_wrong bad is) = bad a.extent a.shape_read
result_right IsTold source determinate shape batch image text refusal a (texts_wrong extent says wrong) =
    right_or_wrong source a.extent a.shape_read.allowed batch a.transfers refusal (determinate.right a.extent batch a.transfers a.left text a.batch_read a.told)
    (subst (λ (x : ShapeView). IsWrongFrom source x batch refusal) (one_shape shape extent a.extent says a.shape_read) wrong)
result_right IsTold source determinate shape batch image text refusal a (run_wrong extent ts says right wrong) =
    run_right a.extent image a.transfers a.left refusal a.is_left
    (same_run shape batch image a.extent extent a.transfers ts refusal a.shape_read says a.batch_read (right_denoted source extent batch ts right) wrong)

-- there is one first thing that is wrong
one_of_run : (extent : ShapeView) (image : Option (List ℕ)) (ts : List Transfer) (q r : Refusal) → IsWrongOf extent image ts q → IsWrongOf extent image ts r → q
    ≡ r
one_of_run extent image ts q r (image_wrong f a is) (image_wrong g b are) = is ∙ ap of_image (one_wrong extent image f g a b) ∙ sym are
one_of_run extent image ts q r (image_wrong f a is) (overlapping right b) = absurd (not_wrong extent image f right a)
one_of_run extent image ts q r (overlapping right a) (image_wrong g b are) = absurd (not_wrong extent image g right b)
one_of_run extent image ts q r (overlapping right a) (overlapping _ b) =
    let same = one_first ts a.0 a.1 b.0 b.1 a.2 b.2 in
    a.3 ∙ ap₂ Overlap same.0 same.1 ∙ sym b.3

-- texts that are wrong against one reading of the shape aren't right against another
texts_apart : (source : ScheduleSource (List ℕ)) (shape batch : List ℕ) (x y : ShapeView) (ts : List Transfer) (refusal : Refusal) → DenotesShape shape x
    → DenotesShape shape y → IsWrongFrom source x batch refusal → AreRight source y batch ts → ⊥
texts_apart source shape batch x y ts refusal one other wrong right =
    right_or_wrong source y other.allowed batch ts refusal right (subst (λ (e : ShapeView). IsWrongFrom source e batch refusal) (one_shape shape x y one other)
    wrong)

one_run_wrong : (source : ScheduleSource (List ℕ)) (shape batch : List ℕ) (image : Option (List ℕ)) (q r : Refusal) → IsFirstRunWrong source shape batch image q
    → IsFirstRunWrong source shape batch image r → q ≡ r
one_run_wrong source shape batch image q r (shape_wrong a is) (shape_wrong b are) = is ∙ sym are
one_run_wrong source shape batch image q r (shape_wrong a is) (texts_wrong y says b) = absurd (a y says)
one_run_wrong source shape batch image q r (shape_wrong a is) (run_wrong y us says right b) = absurd (a y says)
one_run_wrong source shape batch image q r (texts_wrong x says a) (shape_wrong b are) = absurd (b x says)
one_run_wrong source shape batch image q r (texts_wrong x says a) (texts_wrong y other b) =
    one_wrong_from source x says.allowed batch q r a (subst (λ (e : ShapeView). IsWrongFrom source e batch r) (one_shape shape y x other says) b)
one_run_wrong source shape batch image q r (texts_wrong x says a) (run_wrong y us other right b) =
    absurd (texts_apart source shape batch x y us q says other a right)
one_run_wrong source shape batch image q r (run_wrong x ts says right a) (shape_wrong b are) = absurd (b x says)
one_run_wrong source shape batch image q r (run_wrong x ts says right a) (texts_wrong y other b) =
    absurd (texts_apart source shape batch y x ts r other says b right)
one_run_wrong source shape batch image q r (run_wrong x ts says right a) (run_wrong y us other rights b) =
    one_of_run x image ts q r a (same_run shape batch image x y ts us r says other (right_denoted source x batch ts right)
    (right_denoted source y batch us rights) b)

one_run : (IsTold : ShapeView → List ℕ → List Transfer → Store → List ℕ → Type 0) (source : ScheduleSource (List ℕ)) → IsDeterminate IsTold source
    → (shape batch : List ℕ) (image : Option (List ℕ)) (p q : Printed) → IsAnswerBy IsTold source shape batch image p → IsAnswerBy IsTold source shape batch
    image q → q ≡ p
one_run IsTold source determinate shape batch image p q (ran a ends) (ran b stops) =
    printed_same q p (same_result IsTold source determinate shape batch image q.text p.text b a) (stops ∙ sym ends)
one_run IsTold source determinate shape batch image p q (ran a ends) (run_refused g b is) =
    absurd (result_right IsTold source determinate shape batch image p.text g a b)
one_run IsTold source determinate shape batch image p q (run_refused f a is) (ran b stops) =
    absurd (result_right IsTold source determinate shape batch image q.text f b a)
one_run IsTold source determinate shape batch image p q (run_refused f a is) (run_refused g b was) =
    refused_same (refusal_words g) q p was (subst (λ (r : Refusal). IsRefused (refusal_words r) p) (one_run_wrong source shape batch image f g a b) is)

-- a steady plan stays one where its text is that of a lent one
not_steady : (source : ScheduleSource (Bor (List ℕ))) → source ≢ Plan Steady → said_by source ≢ Plan Steady
not_steady (Plan Plain) some same = cc
not_steady (Plan Steady) some same = some refl
not_steady (Text lent) some same = cc

pub one_reported : (source : ScheduleSource (Bor (List ℕ))) → source ≢ Plan Steady → (shape batch : List ℕ) (image : Option (List ℕ)) (p : Printed)
    → IsRunAnswer (said_by source) shape batch image p → IsOnly (IsRunAnswer (said_by source) shape batch image) p
one_reported source some shape batch image p is = λ other. one_run (IsReport (said_by source)) (said_by source)
    (one_report (said_by source) (not_steady source some)) shape batch image p other is
