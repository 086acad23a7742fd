-- What `draw --prices` answers.
use Rattle.std.specs.Prelude.{◌≡◌, ℕ, ◌+◌, ◌*◌, List, ◌++◌, codes, drop, length, take}
use Rattle.std.specs.Fmt.{decimal}
use Rattle.std.specs.List.{flat_map, range_with_len}
use Rattle.batch.specs.declared.transfer.Transfer.{Transfer}
use Rattle.batch.specs.ShapeView.{ShapeView}
use Rattle.link_graph.specs.ScheduleText.{numbers}
use Rattle.link_graph.specs.declared.limits.TheConstants.{LINKS}
use Rattle.refusals.specs.declared.refusal.Refusal.{Refusal}
use Rattle.refusals.specs.Refusals.{refusal_words}
use Rattle.steady_schedule.specs.Prices.{IsPriceTable}
use Rattle.steady_schedule.specs.declared.priced.PriceTable.{PriceTable}
use Rattle.plan_answers.specs.declared.limits.TheConstants.{DONE}
use Rattle.plan_answers.specs.Refusals.{Printed, IsRefused}
use Rattle.plan_answers.specs.Validities.{IsScheduleRead, IsInvalid}

-- `settings S shown N`: so many changes are shown of schedules with so many settings
abbrev pub shown_line : ℕ → ℕ → List ℕ
shown_line settings changes =
    codes "settings " ++ decimal settings ++ codes " shown " ++ decimal changes ++ codes "\n"

-- `prices P0 P1 ..`: the prices of all links for a length
abbrev pub price_line : List ℕ → ℕ → List ℕ
price_line prices k =
    codes "prices" ++ numbers (take LINKS (drop (k * LINKS) prices)) ++ codes "\n"

-- the first line, and a line for each length from 1 on
abbrev pub table_text : ℕ → PriceTable → List ℕ
table_text settings priced =
    shown_line settings priced.changes
    ++ flat_map (λ shorter. price_line priced.prices.items (shorter + 1))
    (range_with_len 0 priced.top)

-- the text has prices, and says how many changes they show of each schedule of the batch with so
-- many settings
pub record SaysPrices (batch : List Transfer) (settings : ℕ) (text : List ℕ) : Type 0 where
  pub priced : PriceTable
  pub table : IsPriceTable batch settings priced
  pub says : text ≡ table_text settings priced

-- such prices for as many settings as the schedule has that the texts say, or the refusal of what
-- is first wrong, each under its status
pub data IsPriced (shape : ShapeView) (batch schedule : List ℕ) (printed : Printed) : Type 0 where
  priced : (transfers : List Transfer) (settings : List (List ℕ))
      → IsScheduleRead shape batch schedule transfers settings
      → SaysPrices transfers (length settings) printed.text → printed.status ≡ DONE
      → IsPriced shape batch schedule printed
  unpriced : (refusal : Refusal) → IsInvalid shape batch schedule refusal
      → IsRefused (refusal_words refusal) printed → IsPriced shape batch schedule printed
