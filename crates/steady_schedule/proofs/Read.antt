-- Settings as they are read from slots that are filled, and what the schedule of them keeps.
use Rattle.std.proofs.Common.{◌≡◌, ℕ, List, length, slice_get, Some}
use Rattle.batch.specs.Batches.{IsBatch}
use Rattle.batch.specs.declared.transfer.Transfer.{Transfer}
use Rattle.link_graph.specs.Schedules.{IsScheduleOf}
use Rattle.steady_schedule.specs.Needs.{ChangesAtNeed}
use Rattle.steady_schedule.specs.Slots.{AreReadInto, AreFilled, AreNumberedSettings}
use Rattle.steady_schedule.specs.Waiting.{ArePairCounts}
use Rattle.link_graph.proofs.Tables.{modules_of}
use Rattle.steady_schedule.proofs.Gathered.{gathered_schedule}
use Rattle.steady_schedule.proofs.Needs.{needs_gathered}
use Rattle.steady_schedule.proofs.Slots.{are_proper, needs_read}

module _ (batch : List Transfer) (totals slots : List ℕ) (settings : ℕ) (lists : List (List ℕ)) (fits : IsBatch batch) (counted : ArePairCounts batch totals)
    (into : AreReadInto batch totals slots settings (length batch) lists) where
  pub numbered_settings : AreFilled totals slots settings → AreNumberedSettings batch settings lists
  numbered_settings f =
      let low = λ (t : ℕ) (x : Transfer) (here : slice_get batch t ≡ Some x). modules_of batch t x here fits in
      record {
        numbers = into.numbers;
        proper = are_proper batch totals f.counts slots into.numbers settings counted f.done f.numbered into.read low;
        needs = needs_read batch totals f.counts slots into.numbers settings counted f.done f.numbered into.read low f.needs;
        gathered = into.gathered;
      }

module _ (batch : List Transfer) (settings : ℕ) (lists : List (List ℕ)) (n : AreNumberedSettings batch settings lists) where
  pub read_schedule : IsScheduleOf batch lists
  read_schedule = gathered_schedule batch settings n.numbers lists n.proper n.gathered

  pub read_needs : ChangesAtNeed batch lists
  read_needs = needs_gathered batch n.numbers lists settings n.proper.sized n.gathered n.needs
