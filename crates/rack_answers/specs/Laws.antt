-- What the answers of `switch` say. Proofs use it; no contract of a call cites it.
use Rattle.std.specs.Prelude.{◌≡◌, ℕ, ◌+◌, ◌<◌, List, [], ◌∷◌, length, true}
use Rattle.batch.specs.declared.transfer.Transfer.{Transfer}
use Rattle.batch.specs.Batches.{IsBatch}
use Rattle.c004_commands.specs.declared.command.Command.TheVariants.{Settle}
use Rattle.crossbar.specs.declared.chip.Wiring.{Wiring}
use Rattle.link_graph.specs.Schedules.{IsScheduleOf}
use Rattle.switch_settings.specs.Sending.{pairs_at, standing_before, turning}
use Rattle.steady_schedule.specs.Changes.{join_same}
use Rattle.steady_schedule.specs.Needs.{setting_at}

-- for a setting that joins the same pairs of modules as the one before, each switch is sent the end
-- of a sequence alone
abbrev pub HeldIsSettled : Type 0
HeldIsSettled =
    (batch : List Transfer) (settings : List (List ℕ)) (k : ℕ) (wiring : Wiring)
    → IsBatch batch → IsScheduleOf batch settings → k + 1 < length settings
    → join_same batch (setting_at settings k) (setting_at settings (k + 1)) ≡ true
    → turning wiring (standing_before batch settings (k + 1)) (pairs_at batch settings (k + 1))
    ≡ Settle ∷ []
