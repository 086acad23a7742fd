-- Settings one after another: a run of a schedule, over the machine that moves words. This
-- project's choice.
use Rattle.std.specs.Prelude.{ℕ, ◌≡◌, List, [], ◌∷◌, length, replicate}
use Rattle.std.specs.List.{concat}
use Rattle.batch.specs.declared.transfer.Transfer.{Transfer}
use Rattle.module_memory.specs.Store.{Store}
use Rattle.module_memory.specs.Core.{Core, at_start, run, IsStepList, IsComplete, found, setting_of}

-- the machine after a step list of a setting
abbrev pub after_steps : Store → Store → List Transfer → List ℕ → List ℕ → Core
after_steps opening s batch numbers steps =
    run (found batch opening) (setting_of batch numbers)
    (at_start s (setting_of batch numbers)) steps

-- the store goes through the settings: in each of them every transfer moves all its words, in some
-- order
abbrev pub IsRun : Store → Store → List Transfer → List (List ℕ) → Store → Type 0
IsRun opening s batch [] t = t ≡ s
IsRun opening s batch (numbers ∷ settings) t =
    (steps : List ℕ) × IsComplete (setting_of batch numbers) s.shape.words steps
    × IsRun opening (after_steps opening s batch numbers steps).store batch settings t

-- the store goes through the settings, and one more that is left off after some steps
pub record IsStoppedRun (opening s : Store) (batch : List Transfer) (settings : List (List ℕ))
    (numbers : List ℕ) (steps : List ℕ) (t : Store) : Type 0 where
  pub before : Store
  pub whole_settings : IsRun opening s batch settings before
  pub step_list : IsStepList (setting_of batch numbers) s.shape.words steps
  pub stopped : t ≡ (after_steps opening before batch numbers steps).store

-- all numbers of the settings have moved all words
abbrev pub all_words : Store → List (List ℕ) → List ℕ
all_words s settings = replicate (length (concat settings)) s.shape.words
