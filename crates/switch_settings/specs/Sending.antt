-- What the switches of a rack are sent, setting by setting. Which commands these are is this
-- project's choice.
use Rattle.std.specs.Prelude.{◌==◌, ℕ, zero, suc, List, filter, Option, Some, None}
use Rattle.std.specs.List.{flat_map, range_with_len}
use Rattle.batch.specs.declared.limits.TheConstants.{MAX_MODULES}
use Rattle.batch.specs.declared.transfer.Transfer.{Transfer}
use Rattle.c004_commands.specs.declared.command.Command.{Command}
use Rattle.crossbar.specs.Pairs.{setting, change}
use Rattle.crossbar.specs.declared.chip.Wiring.{Wiring}
use Rattle.crossbar.specs.declared.pair.Pair.{Pair}
use Rattle.switch_settings.specs.Settings.{numbers_in, setting_pairs}

-- the pairs that a module starts
abbrev pub started_by : List Pair → ℕ → List Pair
started_by pairs m = filter (λ (p : Pair). p.initiator == m) pairs

-- pairs in the order of their initiators
unfoldable pub in_order : List Pair → List Pair
in_order pairs = flat_map (started_by pairs) (range_with_len 0 MAX_MODULES)

-- what sets a switch to the pairs: from the pairs that stand where they are known, else from any
-- switch
abbrev pub turning : Wiring → Option (List Pair) → List Pair → List Command
turning wiring None pairs = setting wiring pairs
turning wiring (Some old) pairs = change wiring old pairs

-- the pairs of a setting, in the order of their initiators
abbrev pub pairs_at : List Transfer → List (List ℕ) → ℕ → List Pair
pairs_at batch settings k = in_order (setting_pairs batch (numbers_in settings k))

-- the pairs that stand before a setting: before the first none are known
abbrev pub standing_before : List Transfer → List (List ℕ) → ℕ → Option (List Pair)
standing_before batch settings zero = None
standing_before batch settings (suc k) = Some (pairs_at batch settings k)

-- what a switch is sent for a setting
abbrev pub sent_for : Wiring → List Transfer → List (List ℕ) → ℕ → List Command
sent_for wiring batch settings k =
    turning wiring (standing_before batch settings k) (pairs_at batch settings k)

-- what it is sent for the first settings, so many of them
abbrev pub sent_for_first : Wiring → List Transfer → List (List ℕ) → ℕ → List Command
sent_for_first wiring batch settings count =
    flat_map (sent_for wiring batch settings) (range_with_len 0 count)
