-- Two texts have one answer of `check` at most.
use Rattle.std.proofs.Common.{◌≡◌, ℕ, List, length, Option, Some, None, ap, sym, ◌∙◌, subst}
use Rattle.std.specs.Option.{IsSomeAnd}
use Rattle.batch.specs.declared.transfer.Transfer.{Transfer}
use Rattle.batch.specs.ShapeView.{ShapeView, IsShape}
use Rattle.link_graph.specs.Certificates.{Naming, IsCertified}
use Rattle.link_graph.proofs.Koenig.{certified}
use Rattle.link_graph.proofs.OneFault.{none_wrong, same_fault}
use Rattle.refusals.specs.declared.refusal.Refusal.{Refusal}
use Rattle.refusals.specs.Refusals.{refusal_words}
use Rattle.refusals.specs.Sources.{of_check}
use Rattle.plan_answers.specs.Refusals.{Printed, IsRefused}
use Rattle.plan_answers.specs.Texts.{AreTexts}
use Rattle.plan_answers.specs.Answers.{IsShown, IsUnshown, IsFirstWrong, unread, unshown, IsChecked, shortest, refused, shortest_line}
use Rattle.plan_answers.proofs.OneReading.{same_texts, texts_right, one_text_wrong}
use Rattle.plan_answers.proofs.Printing.{printed_same, refused_same}

-- what is judged is shown
pub shown_from : (shape : ShapeView) (batch schedule : List ℕ) (ts : List Transfer) (settings : List (List ℕ)) (certificate : Option Naming) (count : ℕ)
    → AreTexts shape batch schedule ts settings certificate → IsSomeAnd certificate (IsCertified ts settings) → count ≡ length settings
    → IsShown shape batch schedule count
shown_from shape batch schedule ts settings None count texts judged counted = absurd judged
shown_from shape batch schedule ts settings (Some named) count texts judged counted = record {
  transfers = ts;
  settings = settings;
  named = named;
  texts = texts;
  shortest = certified ts settings named judged.schedule judged.certificate;
  certificate = judged.certificate;
  counted = counted;
}

-- what is shown has nothing wrong
shown_right : (shape : ShapeView) → IsShape shape → (batch schedule : List ℕ) (count : ℕ) (refusal : Refusal) → IsShown shape batch schedule count
    → IsFirstWrong shape batch schedule refusal → ⊥
shown_right shape valid batch schedule count refusal a (unread wrong) = texts_right shape valid batch schedule a.transfers a.settings (Some a.named) refusal
    a.texts wrong
shown_right shape valid batch schedule count refusal a (unshown ts xs m texts wrong) =
    let found = same_texts (λ t x n. IsUnshown t x n refusal) shape valid batch schedule a.transfers ts a.settings xs (Some a.named) m a.texts texts wrong in
    none_wrong a.transfers a.settings a.named found.0 a.shortest.schedule a.certificate found.1

-- there is one first thing that is wrong
one_unshown : (ts : List Transfer) (xs : List (List ℕ)) (m : Option Naming) (q r : Refusal) → IsUnshown ts xs m q → IsUnshown ts xs m r → q ≡ r
one_unshown ts xs None q r a b = a ∙ sym b
one_unshown ts xs (Some named) q r a b = a.2 ∙ ap of_check (same_fault ts xs named a.0 b.0 a.1 b.1) ∙ sym b.2

one_wrong : (shape : ShapeView) → IsShape shape → (batch schedule : List ℕ) (q r : Refusal) → IsFirstWrong shape batch schedule q
    → IsFirstWrong shape batch schedule r → q ≡ r
one_wrong shape valid batch schedule q r (unread a) (unread b) = one_text_wrong shape valid batch schedule q r a b
one_wrong shape valid batch schedule q r (unread a) (unshown ts xs m texts b) = absurd (texts_right shape valid batch schedule ts xs m q texts a)
one_wrong shape valid batch schedule q r (unshown ts xs m texts a) (unread b) = absurd (texts_right shape valid batch schedule ts xs m r texts b)
one_wrong shape valid batch schedule q r (unshown ts xs m texts a) (unshown us ys n others b) =
    one_unshown ts xs m q r a (same_texts (λ t x c. IsUnshown t x c r) shape valid batch schedule ts us xs ys m n texts others b)

one_count : (shape : ShapeView) → IsShape shape → (batch schedule : List ℕ) (m n : ℕ) → IsShown shape batch schedule m → IsShown shape batch schedule n → m ≡ n
one_count shape valid batch schedule m n a b =
    a.counted ∙ same_texts (λ ts xs named. length xs ≡ n) shape valid batch schedule a.transfers b.transfers a.settings b.settings (Some a.named) (Some b.named)
    a.texts b.texts (sym b.counted)

pub one_verdict : (shape : ShapeView) → IsShape shape → (batch schedule : List ℕ) (p q : Printed) → IsChecked shape batch schedule p
    → IsChecked shape batch schedule q → q ≡ p
one_verdict shape valid batch schedule p q (shortest m a prints ends) (shortest n b says stops) =
    printed_same q p (says ∙ ap shortest_line (sym (one_count shape valid batch schedule m n a b)) ∙ sym prints) (stops ∙ sym ends)
one_verdict shape valid batch schedule p q (shortest m a prints ends) (refused r b is) = absurd (shown_right shape valid batch schedule m r a b)
one_verdict shape valid batch schedule p q (refused f a is) (shortest n b says stops) = absurd (shown_right shape valid batch schedule n f b a)
one_verdict shape valid batch schedule p q (refused f a is) (refused g b was) =
    refused_same (refusal_words g) q p was (subst (λ (r : Refusal). IsRefused (refusal_words r) p) (one_wrong shape valid batch schedule f g a b) is)
