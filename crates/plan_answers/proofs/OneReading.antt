-- The texts of a batch and of a schedule say one thing, or have one first fault.
use Rattle.std.proofs.Common.{◌≡◌, ◌≢◌, ℕ, List, Option, ap, sym, refl, ◌∙◌}
use Rattle.batch.specs.declared.transfer.Transfer.{Transfer}
use Rattle.batch.specs.ShapeView.{ShapeView, IsShape}
use Rattle.batch.specs.Text.{Denotes}
use Rattle.batch.proofs.OneReading.{one_batch, apart, one_fault}
use Rattle.link_graph.specs.declared.schedule_fault.ScheduleFault.{ScheduleFault}
use Rattle.link_graph.specs.declared.schedule_fault.ScheduleFault.TheVariants as schedule_fault
use Rattle.link_graph.specs.Certificates.{Naming}
use Rattle.link_graph.specs.ScheduleFaults.{IsFaultOf}
use Rattle.link_graph.specs.ScheduleText.{CertifiedSettings, said}
use Rattle.link_graph.proofs.SaidLines.{one_said, says_or_faults, one_bad_line}
use Rattle.refusals.specs.declared.refusal.Refusal.{Refusal}
use Rattle.refusals.specs.declared.refusal.Refusal.TheVariants.{ScheduleLine, NoMemory}
use Rattle.refusals.specs.Sources.{of_batch, of_schedule}
use Rattle.plan_answers.specs.Texts.{AreTexts, IsTextWrong, batch_wrong, schedule_wrong}

-- a fault of the schedule text after a batch text is what is first wrong
pub schedule_at_fault : (shape : ShapeView) (batch schedule : List ℕ) (ts : List Transfer) → Denotes shape batch ts → (fault : ScheduleFault)
    → IsFaultOf schedule fault → of_schedule fault ≢ NoMemory → IsTextWrong shape batch schedule (of_schedule fault)
schedule_at_fault shape batch schedule ts denotes (schedule_fault.Line n) bad real = schedule_wrong ts n denotes bad refl
schedule_at_fault shape batch schedule ts denotes schedule_fault.NoMemory bad real = absurd (real refl)

-- what texts say of one reading, they say of each
pub same_texts : (P : List Transfer → List (List ℕ) → Option Naming → Type 0) (shape : ShapeView) → IsShape shape
    → (batch schedule : List ℕ) (ts us : List Transfer) (xs ys : List (List ℕ)) (m n : Option Naming)
    → AreTexts shape batch schedule ts xs m → AreTexts shape batch schedule us ys n → P us ys n → P ts xs m
same_texts P shape valid batch schedule ts us xs ys m n a b p =
    let transfers : ts ≡ us = one_batch shape valid batch ts us a.batch_read b.batch_read in
    let all : said xs m ≡ said ys n = one_said schedule (said xs m) (said ys n) a.schedule_read b.schedule_read in
    let settings : xs ≡ ys = ap (λ (s : CertifiedSettings). s.settings) all in
    let named : m ≡ n = ap (λ (s : CertifiedSettings). s.certificate) all in
    rw (transfers, settings, named) p

-- texts that say something have nothing wrong
pub texts_right : (shape : ShapeView) → IsShape shape → (batch schedule : List ℕ) (ts : List Transfer) (xs : List (List ℕ)) (m : Option Naming)
    (refusal : Refusal) → AreTexts shape batch schedule ts xs m → IsTextWrong shape batch schedule refusal → ⊥
texts_right shape valid batch schedule ts xs m refusal a (batch_wrong fault wrong is) = apart shape valid batch ts fault a.batch_read wrong
texts_right shape valid batch schedule ts xs m refusal a (schedule_wrong us n denotes wrong is) = says_or_faults schedule _ n a.schedule_read wrong

-- there is one first fault
pub one_text_wrong : (shape : ShapeView) → IsShape shape → (batch schedule : List ℕ) (q r : Refusal) → IsTextWrong shape batch schedule q
    → IsTextWrong shape batch schedule r → q ≡ r
one_text_wrong shape valid batch schedule q r (batch_wrong f a is) (batch_wrong g b are) = is ∙ ap of_batch (one_fault shape valid batch f g a b) ∙ sym are
one_text_wrong shape valid batch schedule q r (batch_wrong f a is) (schedule_wrong ts n denotes b are) = absurd (apart shape valid batch ts f denotes a)
one_text_wrong shape valid batch schedule q r (schedule_wrong ts m denotes a is) (batch_wrong g b are) = absurd (apart shape valid batch ts g denotes b)
one_text_wrong shape valid batch schedule q r (schedule_wrong ts m denotes a is) (schedule_wrong us n says b are) = is
    ∙ ap ScheduleLine (one_bad_line schedule m n a b) ∙ sym are
