-- A line on standard error before those of settings is told once.
use Rattle.std.proofs.Common.{◌<◌, ◌≡◌, ◌∙◌, ◌++◌, ◌∷◌, [], ℕ, List, Option, None, Some, String, Global, IfSome, false, ap, append_assoc, inl, inr, refl, sym}
use Rattle.std.specs.Prelude.{string_bytes}
use Rattle.batch.specs.Text.{number}
use Rattle.command_words.specs.declared.jobs.Request.{Request}
use Rattle.drive_answers.proofs.ToldBeside.{TellsBeside}
use Rattle.plan_answers.specs.Refusals.{Printed}
use Rattle.named_files.specs.Notes.{IsWholeLine}
use Rattle.exchange.specs.Notes.{HasHeight, IsBeside, IsTooHigh, IsWarning}
use Rattle.exchange.specs.declared.warnings.TheConstants.{MAX_DRAWN}
use Rattle.exchange.specs.Warnings.{HasToldWarned, IsWarnedOnce, MayHaveWarned}
use Rattle.exchange.specs.declared.warned.WarningObserver.{WarningObserver}

once_more : {I O E : Type 0} (contents : E → Option (List ℕ)) (a b c : WarningObserver I O E) → IsWarnedOnce contents a b → IsWarnedOnce contents b c
    → IsWarnedOnce contents a c
once_more {I} {O} {E} contents a b c first second =
    let loan = second.0 ∙ first.0 in
    elim second.1 [
      | inl same ↦ elim first.1 [
        | inl before ↦ (loan, inl (same.0 ∙ before.0, same.1 ∙ before.1))
        | inr told ↦ (loan, inr (same.0 ∙ told.0, (told.1.0, told.1.1, rw same.1 told.1.2)))
      ]
      | inr told ↦ elim first.1 [
        | inl before ↦ (loan, inr (told.0, (told.1.0, sym before.0 ∙ told.1.1, rw before.1 at told.1.2)))
        | inr earlier ↦ let bad : None ≡ Some told.1.0 = sym earlier.0 ∙ told.1.1 in absurd cc
      ]
    ]

pub tells_beside : {I O E : Type 0} (remaining : I → Option (List ℕ)) (contents : O → Option (List ℕ)) (beside : E → Option (List ℕ))
    → TellsBeside remaining contents (λ (a : WarningObserver I O E) n ns c b. HasToldWarned remaining contents beside n ns c a b)
    (λ (w : WarningObserver I O E). w.lines) (IsWarnedOnce beside)
tells_beside {I} {O} {E} remaining contents beside =
    record { none = λ s. (refl, inl (refl, refl)); more = once_more beside; tells = λ a n ns cue b told. told }

-- so it may have been told after what stood there
pub may_have : {I O E : Type 0} (contents : E → Option (List ℕ)) (told tells : WarningObserver I O E) (warning : Option (String Global))
    (before after : Option (List ℕ))
    → told.warning ≡ warning → contents told.err.now ≡ before → after ≡ contents tells.err.now → IsWarnedOnce contents told tells
    → MayHaveWarned warning before after
may_have {I} {O} {E} contents told tells warning before after is was now once =
    elim once.1 [
      | inl same ↦ inl (now ∙ same.1 ∙ was)
      | inr warned ↦ inr (warned.1.0, sym is ∙ warned.1.1, rw (now, sym was) warned.1.2)
    ]

-- such a line may stand beside an answer
pub beside_by : (cause : Type 0) (request : Request) (warning : Option (String Global)) (before after : Option (List ℕ))
    → IfSome warning (IsWarning cause request) → MayHaveWarned warning before after → IsBeside cause request before after
beside_by cause request warning before after is (inl same) = inl same
beside_by cause request None before after is (inr warned) = let bad = warned.1 in absurd cc
beside_by cause request (Some line) before after is (inr warned) =
    let one : warned.0 ≡ line = let so = warned.1 in cc in
    inr (inr (inr (inl (is.0, is.1, (string_bytes line, is.2, rw one at warned.2)))))

pub warning_by : (cause : Type 0) (request : Request) (line : Option (String Global)) → request.is_quiet ≡ false
    → IfSome line (λ l. IsWholeLine (string_bytes l)) → IfSome line (λ l. cause) → IfSome line (IsWarning cause request)
warning_by cause request None heard whole is = tt
warning_by cause request (Some line) heard whole is = (heard, is, whole)

pub high_by : (drawing : Printed → Type 0) (drawn : Printed) (line : Option (String Global)) → drawing drawn → IfSome line (λ l. IsTooHigh drawn.text)
    → IfSome line (λ l. (shown : Printed) × drawing shown × IsTooHigh shown.text)
high_by drawing drawn None is high = tt
high_by drawing drawn (Some line) is high = (drawn, is, high)

pub told_high : (line : Option (String Global)) (text : List ℕ) (height : ℕ) → HasHeight text height → MAX_DRAWN < height → IfSome line (λ l. IsTooHigh text)
told_high None text height has more = tt
told_high (Some line) text height has more = (height, has, more)

pub height_by : (front middle text size after more rest : List ℕ) (width height : ℕ) → text ≡ front ++ size → size ≡ number width 39 ++ after
    → after ≡ middle ++ more → more ≡ number height 39 ++ rest
    → (wide : ℕ) × (end : List ℕ) × (text ≡ front ++ (number wide 39 ++ (middle ++ (number height 39 ++ end))))
height_by front middle text size after more rest width height one two three four = (
  width,
  rest,
  one ∙ ap (λ (l : List ℕ). front ++ l) (two ∙ ap (λ (l : List ℕ). number width 39 ++ l) (three ∙ ap (λ (l : List ℕ). middle ++ l) four)),
)
