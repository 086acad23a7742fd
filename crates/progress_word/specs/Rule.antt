-- The progress word: its rule, and the five kinds of step. They are this project's choice.
use Rattle.std.specs.Prelude.{◌≡◌, ◌≢◌, ℕ, ◌+◌, ◌-◌, ◌<◌, ◌≤◌, max, List, [], ◌∷◌, ◌++◌, slice_set}
use mathlib.Core.Option.{some}
use lib.ListN.{get_elem?}
use Rattle.progress_word.specs.declared.limits.TheConstants.{ALL_PARTS}
use Rattle.progress_word.specs.declared.rule.WordView.{WordView}
use Rattle.progress_word.specs.declared.rule.WordStep.{WordStep}
use Rattle.progress_word.specs.declared.rule.WordStep.TheVariants.{Make, Load, Raise, Split, Join}

abbrev pub view : ℕ → ℕ → ℕ → WordView
view seen raised parts = record { seen = seen; raised = raised; parts = parts }

-- the view that the word is made with
abbrev pub whole_view : WordView
whole_view = view 0 0 ALL_PARTS

-- a view that another has taken in
abbrev pub absorbed : WordView
absorbed = view 0 0 0

-- the word, and all views in the order in which they were made
pub record Progress : Type 0 where
  pub word : ℕ
  pub views : List WordView

abbrev pub progress : ℕ → List WordView → Progress
progress word views = record { word = word; views = views }

-- this view has this number
abbrev pub IsViewAt : List WordView → ℕ → WordView → Type 0
IsViewAt views i v = get_elem? views i ≡ some v

-- the parts of all views together
abbrev pub all_parts : List WordView → ℕ
all_parts [] = 0
all_parts (v ∷ views) = v.parts + all_parts views

-- ---- the rule

-- the word isn't after what was seen, and what was seen isn't after what was raised; and a view
-- without a part is absorbed
pub record IsBelow (word : ℕ) (v : WordView) : Type 0 where
  pub seen : v.seen ≤ word
  pub raised : v.raised ≤ v.seen
  pub no_parts : v.parts ≡ 0 → v ≡ absorbed

-- the word was raised to this value from some view
pub record IsRaised (value : ℕ) (views : List WordView) : Type 0 where
  pub number : ℕ
  pub by : WordView
  pub stands : IsViewAt views number by
  pub raised : by.raised ≡ value

-- No view has seen more than the word, or raised it above what it has seen; and some view has
-- raised it to what it is. A view without a part is absorbed, and no part is lost or added.
pub record HasRule (p : Progress) : Type 0 where
  pub below : (i : ℕ) (v : WordView) → IsViewAt p.views i v → IsBelow p.word v
  pub raised : IsRaised p.word p.views
  pub parts : all_parts p.views ≡ ALL_PARTS

-- ---- the steps

-- what the steps make of the views that step
abbrev pub loaded : ℕ → WordView → WordView
loaded word v = view word v.raised v.parts

abbrev pub raised_to : ℕ → ℕ → WordView → WordView
raised_to value word v = view (max word value) (max v.raised value) v.parts

abbrev pub without_part : WordView → WordView
without_part v = view v.seen v.raised (v.parts - 1)

-- the new view of a split: it has seen as much as the other, has raised nothing, and has one part
abbrev pub split_off : WordView → WordView
split_off v = view v.seen 0 1

abbrev pub joined : WordView → WordView → WordView
joined v w = view (max v.seen w.seen) (max v.raised w.raised) (v.parts + w.parts)

-- who steps has this view, with more parts than that
pub record CanStep (views : List WordView) (i : ℕ) (v : WordView) (few : ℕ) : Type 0 where
  pub stands : IsViewAt views i v
  pub parts : few < v.parts

-- The five kinds of step: the word is made; it is loaded; it is raised to a value, by `fetch_max`;
-- a view is split, and the new one gets a part; and a view takes in another, which is absorbed.
-- Each changes the view that steps, or the two of a split or a join, and a raise alone the word.
abbrev pub IsStep : WordStep → Progress → Progress → Type 0
IsStep Make p q = q ≡ progress 0 (whole_view ∷ [])
IsStep (Load i) p q =
    (v : WordView) × CanStep p.views i v 0
    × (q ≡ progress p.word (slice_set p.views i (loaded p.word v)))
IsStep (Raise i value) p q =
    (v : WordView) × CanStep p.views i v 0
    × (q ≡ progress (max p.word value) (slice_set p.views i (raised_to value p.word v)))
IsStep (Split i) p q =
    (v : WordView) × CanStep p.views i v 1
    × (q ≡ progress p.word (slice_set p.views i (without_part v) ++ split_off v ∷ []))
IsStep (Join i j) p q =
    (v w : WordView) × CanStep p.views i v 0 × CanStep p.views j w 0 × (j ≢ i)
    × (q ≡ progress p.word (slice_set (slice_set p.views i (joined v w)) j absorbed))

-- ---- the law

-- the rule holds of a word that is made
abbrev pub MakesRule : Type 0
MakesRule = (p q : Progress) → IsStep Make p q → HasRule q

-- each step keeps the rule
abbrev pub KeepsRule : Type 0
KeepsRule = (step : WordStep) (p q : Progress) → HasRule p → IsStep step p q → HasRule q

-- who has all parts is alone, and has raised the word to what it is
abbrev pub HasNoOther : Type 0
HasNoOther =
    (p : Progress) (i : ℕ) (v : WordView) → HasRule p → IsViewAt p.views i v → v.parts ≡ ALL_PARTS
    → (v.raised ≡ p.word) × ((j : ℕ) (w : WordView) → j ≢ i → IsViewAt p.views j w → w ≡ absorbed)
