-- The rule and the steps, as the table of `atomic_table` asks for them.
use Rattle.std.specs.Prelude.{◌≡◌, ℕ, ◌≤◌, [], ◌∷◌}
use Rattle.atomic_table.specs.Table.{State, Me}
use Rattle.atomic_table.specs.Table.{Step}
use Rattle.progress_word.specs.declared.limits.TheConstants.{ALL_PARTS}
use Rattle.progress_word.specs.declared.rule.WordView.{WordView}
use Rattle.progress_word.specs.Rule.{HasRule, progress, loaded, raised_to}

-- the table has one word, and that and the views meet the rule
abbrev pub MeetsRule : State ℕ WordView → Type 0
MeetsRule s = (word : ℕ) × (s.words ≡ word ∷ []) × HasRule (progress word s.views)

-- a load found the word; who has all parts has raised it to that
abbrev pub HasLoaded : Step ℕ → Me ℕ WordView → ℕ → Me ℕ WordView → Type 0
HasLoaded step v found w =
    (w ≡ (loaded found v.0, v.1)) × (v.0.seen ≤ found)
    × (v.0.parts ≡ ALL_PARTS → found ≡ v.0.raised)

-- the word was raised to a value from what was found
abbrev pub HasRaised : Step ℕ → Me ℕ WordView → ℕ → Me ℕ WordView → Type 0
HasRaised step v found w = (w ≡ (raised_to step.first found v.0, v.1)) × (v.0.seen ≤ found)
