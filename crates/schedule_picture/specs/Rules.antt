-- The rules of a picture: before the column of each setting for which the switch changes.
use Rattle.std.specs.Prelude.{ℕ, ◌+◌, ◌-◌, ◌==◌, ◌||◌, not, Bool, if◌then◌else◌, List, [], ◌++◌}
use Rattle.std.specs.Prelude.{codes}
use Rattle.std.specs.Fmt.{decimal}
use Rattle.batch.specs.declared.transfer.Transfer.{Transfer}
use Rattle.steady_schedule.specs.Changes.{join_same}
use Rattle.steady_schedule.specs.Needs.{setting_at}
use Rattle.schedule_picture.specs.declared.layout.TheConstants.{NUMBERS_HEIGHT, RULE_ABOVE}
use Rattle.schedule_picture.specs.Places.{column_place, panel_of, panel_place}

-- the switch changes for setting k: it is the first, or joins other pairs of modules than the one
-- before
abbrev pub changes_at : List Transfer → List (List ℕ) → ℕ → Bool
changes_at batch settings k =
    k == 0 || not (join_same batch (setting_at settings (k - 1)) (setting_at settings k))

-- the rule before column j, down to the last row of its panel, where the switch changes
unfoldable pub rule_text : List Transfer → ℕ → Bool → List ℕ
rule_text batch j changes =
    if changes
    then codes "<path class='change' d='M" ++ decimal (column_place j) ++ codes " "
    ++ decimal (panel_place batch (panel_of j) + NUMBERS_HEIGHT - RULE_ABOVE) ++ codes "V"
    ++ decimal (panel_place batch (panel_of j + 1) - RULE_ABOVE)
    ++ codes "'/>\n"
    else []
