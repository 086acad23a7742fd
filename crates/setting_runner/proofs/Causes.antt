-- Why a setting stops.
use Rattle.std.proofs.Common.{◌≡◌, ◌<◌, ◌≤◌, inl, inr, ℕ, List, [], ◌∷◌, ◌++◌, Option, Some, None, map, refl, ap, ◌∙◌, arith, subst}
use Rattle.std.specs.Prelude.{All, IfSome, MatchOption}
use Rattle.std.proofs.lemmas.Bool.{cases_lt}
use Rattle.std.proofs.lemmas.List.Elements.{All-cons, All-push, Contains-append_left, Contains-append_right}
use Rattle.batch.specs.declared.transfer.Transfer.{Transfer}
use Rattle.crossbar.specs.declared.pair.Pair.{Pair}
use Rattle.crossbar.specs.declared.traffic.Passing.{Passing}
use Rattle.module_memory.specs.Lending.{RestView, BlockAt}
use Rattle.setting_runner.specs.declared.outcome.StopCause.TheVariants.{Wire}
use Rattle.switch_settings.specs.Answers.{IsSettingFault}
use Rattle.switch_settings.specs.Asking.{HavePassedFor}
use Rattle.switch_settings.specs.declared.fault.SettingFault.{SettingFault}
use Rattle.switch_settings.specs.declared.fault.SettingFault.TheVariants as fault
use Rattle.switch_settings.proofs.Asking.{known_output}
use Rattle.setting_runner.specs.Causes.{cause_of}
use Rattle.setting_runner.specs.Moves.{HaveMoved, all_moved, AllWhole}
use Rattle.setting_runner.specs.Runs.{RunConditions, IsStopCause, IsLeastShort, names_of}

pub all_zero : (ts : List ℕ) → All (λ (m : ℕ × ℕ). m.1 ≡ 0) (all_moved ts 0)
all_zero [] = λ k d l. absurd (omega arith)
all_zero (t ∷ ts) = All-cons (λ (m : ℕ × ℕ). m.1 ≡ 0) (t, 0) (all_moved ts 0) refl (all_zero ts)

-- a switch that can't be set stops the setting before a word has moved
pub set_fault_stops : (given : RunConditions) (f : SettingFault) (ms : List (ℕ × ℕ)) (standing : Option (List Pair)) (pairs : List Pair)
    (old new : Option (List Passing)) → IsSettingFault given.before given.after given.honest f → HavePassedFor given.shape.modules f standing pairs old new
    → All (λ (m : ℕ × ℕ). m.1 ≡ 0) ms → IsStopCause given (cause_of f) ms
set_fault_stops given fault.Port ms standing pairs old new is passed z = record { failed = is; unmoved = z }
set_fault_stops given (fault.Switch found) ms standing pairs old new is passed z =
    record { dishonest = is.0; known = known_output given.shape.modules found standing pairs old new passed; unmoved = z; unfailed = is.1 }

pub no_wire : (f : SettingFault) (t : ℕ) → cause_of f ≡ Wire t → ⊥
no_wire fault.Port t e = absurd cc
no_wire (fault.Switch found) t e = absurd cc

-- those whose wires never fail have moved all words
pub sure_moved : (sure : ℕ → Type 0) (rest : RestView) (batch : List Transfer) (ts : List ℕ) (os ns : List BlockAt) (ms : List (ℕ × ℕ))
    → HaveMoved sure rest batch ts os ns ms → All (λ (m : ℕ × ℕ). sure m.0 → m.1 ≡ rest.store.shape.words) ms
sure_moved sure rest batch [] [] [] [] a = λ k d l. absurd (omega arith)
sure_moved sure rest batch (t ∷ ts) (o ∷ os) (n ∷ ns) (m ∷ ms) a =
    All-cons (λ (x : ℕ × ℕ). sure x.0 → x.1 ≡ rest.store.shape.words) m ms (λ h. a.0.all_words (subst sure a.0.named h))
    (sure_moved sure rest batch ts os ns ms a.1)
sure_moved sure rest batch [] [] [] (m ∷ ms) a = absurd a
sure_moved sure rest batch [] [] (n ∷ ns) ms a = absurd a
sure_moved sure rest batch [] (o ∷ os) ns ms a = absurd a
sure_moved sure rest batch (t ∷ ts) [] ns ms a = absurd a
sure_moved sure rest batch (t ∷ ts) (o ∷ os) [] ms a = absurd a
sure_moved sure rest batch (t ∷ ts) (o ∷ os) (n ∷ ns) [] a = absurd a

-- the names are the setting's
pub names_moved : (sure : ℕ → Type 0) (rest : RestView) (batch : List Transfer) (ts : List ℕ) (os ns : List BlockAt) (ms : List (ℕ × ℕ))
    → HaveMoved sure rest batch ts os ns ms → names_of ms ≡ ts
names_moved sure rest batch [] [] [] [] a = refl
names_moved sure rest batch (t ∷ ts) (o ∷ os) (n ∷ ns) (m ∷ ms) a =
    ap (λ (x : ℕ). x ∷ map (λ (m : ℕ × ℕ). m.0) ms) a.0.named ∙ ap (λ (xs : List ℕ). t ∷ xs) (names_moved sure rest batch ts os ns ms a.1)
names_moved sure rest batch [] [] [] (m ∷ ms) a = absurd a
names_moved sure rest batch [] [] (n ∷ ns) ms a = absurd a
names_moved sure rest batch [] (o ∷ os) ns ms a = absurd a
names_moved sure rest batch (t ∷ ts) [] ns ms a = absurd a
names_moved sure rest batch (t ∷ ts) (o ∷ os) [] ms a = absurd a
names_moved sure rest batch (t ∷ ts) (o ∷ os) (n ∷ ns) [] a = absurd a

pub most_moved : (sure : ℕ → Type 0) (rest : RestView) (batch : List Transfer) (ts : List ℕ) (os ns : List BlockAt) (ms : List (ℕ × ℕ))
    → HaveMoved sure rest batch ts os ns ms → All (λ (m : ℕ × ℕ). m.1 ≤ rest.store.shape.words) ms
most_moved sure rest batch [] [] [] [] a = λ k d l. absurd (omega arith)
most_moved sure rest batch (t ∷ ts) (o ∷ os) (n ∷ ns) (m ∷ ms) a = All-cons (λ (x : ℕ × ℕ). x.1 ≤ rest.store.shape.words) m ms a.0.at_most
    (most_moved sure rest batch ts os ns ms a.1)
most_moved sure rest batch [] [] [] (m ∷ ms) a = absurd a
most_moved sure rest batch [] [] (n ∷ ns) ms a = absurd a
most_moved sure rest batch [] (o ∷ os) ns ms a = absurd a
most_moved sure rest batch (t ∷ ts) [] ns ms a = absurd a
most_moved sure rest batch (t ∷ ts) (o ∷ os) [] ms a = absurd a
most_moved sure rest batch (t ∷ ts) (o ∷ os) (n ∷ ns) [] a = absurd a

-- ---- the least that is short, one transfer after another

-- the least of these that is short, or none is
abbrev pub IsLeastOf : ℕ → List (ℕ × ℕ) → Option ℕ → Type 0
IsLeastOf words ms least = MatchOption least (AllWhole words ms) (λ t. IsLeastShort words t ms)

abbrev AboveShort : ℕ → ℕ → ℕ × ℕ → Type 0
AboveShort words t m = m.1 < words → t ≤ m.0

all_whole_push : (words : ℕ) (ms : List (ℕ × ℕ)) (m : ℕ × ℕ) → AllWhole words ms → words ≤ m.1 → AllWhole words (ms ++ m ∷ [])
all_whole_push words [] m all whole = (whole, tt)
all_whole_push words (x ∷ ms) m all whole = (all.0, all_whole_push words ms m all.1 whole)

above_whole : (words t : ℕ) (ms : List (ℕ × ℕ)) → AllWhole words ms → All (AboveShort words t) ms
above_whole words t [] all = λ k d l. absurd (omega arith)
above_whole words t (m ∷ ms) all =
    let whole : words ≤ m.1 = all.0 in
    All-cons (AboveShort words t) m ms (λ less. absurd (omega arith)) (above_whole words t ms all.1)

above_less : (words t u : ℕ) (ms : List (ℕ × ℕ)) → t < u → All (AboveShort words u) ms → All (AboveShort words t) ms
above_less words t u ms less all k d l short = omega (arith, all k d l short)

same_least : (words t : ℕ) (ms : List (ℕ × ℕ)) (m : ℕ × ℕ) → IsLeastShort words t ms → AboveShort words t m → IsLeastShort words t (ms ++ m ∷ [])
same_least words t ms m is above = record {
  count = is.count;
  stands = Contains-append_left ms (m ∷ []) (t, is.count) is.stands;
  short = is.short;
  least = All-push (AboveShort words t) ms m is.least above;
}

new_least : (words : ℕ) (ms : List (ℕ × ℕ)) (m : ℕ × ℕ) → m.1 < words → All (AboveShort words m.0) ms → IsLeastShort words m.0 (ms ++ m ∷ [])
new_least words ms m short above = record {
  count = m.1;
  stands = Contains-append_right ms (m ∷ []) m (0, omega arith, refl);
  short = short;
  least = All-push (AboveShort words m.0) ms m above (λ _. omega arith);
}

-- a transfer that has moved all words makes no difference
pub whole_changes_none : (words : ℕ) (ms : List (ℕ × ℕ)) (m : ℕ × ℕ) (least : Option ℕ) → IsLeastOf words ms least → words ≤ m.1
    → IsLeastOf words (ms ++ m ∷ []) least
whole_changes_none words ms m None is whole = all_whole_push words ms m is whole
whole_changes_none words ms m (Some t) is whole = same_least words t ms m is (λ less. absurd (omega arith))

-- nor does one that isn't less
pub greater_changes_none : (words : ℕ) (ms : List (ℕ × ℕ)) (m : ℕ × ℕ) (least : Option ℕ) → IsLeastOf words ms least → (IfSome least (λ t. m.0 < t) → ⊥)
    → IsLeastOf words (ms ++ m ∷ []) least
greater_changes_none words ms m None is not_less = absurd (not_less tt)
greater_changes_none words ms m (Some t) is not_less =
    same_least words t ms m is (λ _. elim (cases_lt m.0 t) [ inl less ↦ absurd (not_less less) | inr up ↦ omega arith ])

-- one that is less, and short, is the least
pub lesser_is_least : (words : ℕ) (ms : List (ℕ × ℕ)) (m : ℕ × ℕ) (least : Option ℕ) → IsLeastOf words ms least → m.1 < words → IfSome least (λ t. m.0 < t)
    → IsLeastOf words (ms ++ m ∷ []) (Some m.0)
lesser_is_least words ms m None is short less = new_least words ms m short (above_whole words m.0 ms is)
lesser_is_least words ms m (Some t) is short less = new_least words ms m short (above_less words m.0 t ms less is.least)
