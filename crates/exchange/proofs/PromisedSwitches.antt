-- The promises of `switch` and `orders`.
use Rattle.std.proofs.Common.{◌≡◌, ◌<◌, ◌+◌, ℕ, zero, suc, Bool, true, false, List, [], length, Option, Some, None, refl, sym, subst, arith}
use Rattle.std.specs.Prelude.{◌||◌, IfSome}
use Rattle.std.specs.List.{AllByRecursion}
use Rattle.batch.specs.Batches.{IsBatch}
use Rattle.batch.specs.ShapeView.{widest}
use Rattle.batch.specs.declared.transfer.Transfer.{Transfer}
use Rattle.board_wiring.specs.Boards.{IsBoardOf}
use Rattle.board_wiring.specs.declared.board.Board.{Board as BoardText}
use Rattle.clap.specs.Words.{Text}
use Rattle.command_words.specs.Jobs.{Files}
use Rattle.crossbar.specs.Pairs.{ArePairs, change, room_of}
use Rattle.crossbar.specs.Switch.{enquiries}
use Rattle.crossbar.specs.declared.board.BoardWiring.{BoardWiring}
use Rattle.crossbar.specs.declared.chip.Chip.{Chip}
use Rattle.crossbar.specs.declared.chip.Wiring.{Wiring}
use Rattle.crossbar.specs.declared.pair.Pair.{Pair}
use Rattle.crossbar.specs.declared.chip.Wiring.TheVariants.{Back, Board, Both, Forth}
use Rattle.rack_answers.proofs.ReadBatches.{all_joined}
use Rattle.rack_answers.specs.Boards.{joined_on}
use Rattle.exchange.proofs.EndStatuses.{never_done}
use Rattle.exchange.proofs.PromisedRuns.{denoted, scheduled}
use Rattle.exchange.specs.Promises.{HasOrdered, HasSwitched, SaySchedule, Turn, switches_of}
use Rattle.exchange.specs.Responses.{source_in, text_in}
use Rattle.link_graph.specs.Schedules.{IsScheduleOf}
use Rattle.module_memory.proofs.StepLists.{any_run}
use Rattle.module_orders.proofs.Obeyed.{obeyed_is_placed, run_is_obeyed}
use Rattle.module_orders.proofs.Told.{text_tells}
use Rattle.module_orders.specs.Orders.{orders_of, told_to}
use Rattle.module_orders.specs.OrdersText.{Tells}
use Rattle.plan_answers.proofs.PlanText.{plan_can_say}
use Rattle.plan_answers.specs.Refusals.{Printed}
use Rattle.plan_answers.specs.Schedules.{IsScheduleFrom}
use Rattle.plan_answers.specs.declared.limits.TheConstants.{DONE}
use Rattle.plan_answers.specs.declared.source.ScheduleSource.{ScheduleSource}
use Rattle.plan_answers.specs.declared.source.ScheduleSource.TheVariants as source
use Rattle.rack_answers.specs.Orders as ordering
use Rattle.rack_answers.specs.Orders.{IsOrdered}
use Rattle.rack_answers.specs.Switching as switching
use Rattle.rack_answers.specs.Switching.{IsOn, IsSwitched}
use Rattle.switch_settings.proofs.PairCommands.{change_commands, setting_commands, turning_commands}
use Rattle.switch_settings.proofs.Turning.{ordered_pairs, settings_turn}
use Rattle.switch_settings.specs.Racks.{HasModulesOf, is_wide}
use Rattle.switch_settings.specs.Sending.{pairs_at, sent_for, standing_before, turning}
use Rattle.switch_settings.specs.Settings.{numbers_in}
use Rattle.batch.specs.Text.{IsNumber}

-- ---- schedules

pub schedule_of : (from : ScheduleSource (List ℕ)) (text : List ℕ) (batch : List Transfer) (settings : List (List ℕ)) → SaySchedule from text batch settings
    → IsScheduleOf batch settings
schedule_of (source.Plan planning) text batch settings is = is.1.shortest.schedule
schedule_of (source.Text schedule) text batch settings is = is.valid

pub batch_of : (from : ScheduleSource (List ℕ)) (text : List ℕ) (batch : List Transfer) (settings : List (List ℕ)) → IsScheduleFrom from widest text batch
    settings → IsBatch batch
batch_of from text batch settings is = let reads = denoted from widest text batch settings is in record { few = reads.few; within = reads.within }

-- ---- what a switch is sent

-- what turns a switch asks for no reply
quiet_turning : (wiring : Wiring) (standing : Option (List Pair)) (pairs : List Pair) → IfSome standing (ArePairs (room_of wiring))
    → ArePairs (room_of wiring) pairs → enquiries (turning wiring standing pairs) ≡ 0
quiet_turning wiring None pairs were are = (setting_commands wiring pairs are).1
quiet_turning wiring (Some old) pairs were are = (change_commands wiring old pairs were are).1

module _ (batch : List Transfer) (settings : List (List ℕ)) (fits : IsBatch batch) (is : IsScheduleOf batch settings) (wiring : Wiring)
    (has : HasModulesOf (room_of wiring) batch) where
  pairs_there : (k : ℕ) → k < length settings → ArePairs (room_of wiring) (pairs_at batch settings k)
  pairs_there k lt = ordered_pairs (room_of wiring) batch (numbers_in settings k)
      (record { fits = fits; known = is.no_other k [] lt; matching = is.matchings k [] lt }) has

  standing : (k : ℕ) → k < length settings → IfSome (standing_before batch settings k) (ArePairs (room_of wiring))
  standing zero lt = tt
  standing (suc k) lt = pairs_there k (omega arith)

  pub turns : Turn wiring batch settings (sent_for wiring batch settings)
  turns = record {
    are = λ k lt. turning_commands wiring (standing_before batch settings k) (pairs_at batch settings k) (standing k lt) (pairs_there k lt);
    quiet = λ k lt. quiet_turning wiring (standing_before batch settings k) (pairs_at batch settings k) (standing k lt) (pairs_there k lt);
    turn = λ switch k lt. settings_turn batch settings (room_of wiring) wiring switch k fits is has (omega arith) lt;
    changed = λ k lt. let e : suc k ≡ k + 1 = omega arith in
        subst (λ (n : ℕ). sent_for wiring batch settings n ≡ change wiring (pairs_at batch settings k) (pairs_at batch settings n)) e refl;
  }

turned : (batch : List Transfer) (settings : List (List ℕ)) (board : Option BoardWiring) (wide : Bool) → IsBatch batch → IsScheduleOf batch settings
    → HasModulesOf (joined_on board wide) batch → AllByRecursion (λ (one : Chip × Wiring). Turn one.1 batch settings (sent_for one.1 batch settings))
    (switches_of board wide)
turned batch settings None true fits is has = (turns batch settings fits is Forth has, (turns batch settings fits is Back has, tt))
turned batch settings None false fits is has = (turns batch settings fits is Both has, tt)
turned batch settings (Some w) wide fits is has = (turns batch settings fits is (Board w) has, tt)

-- ---- `switch`

switched : (from : ScheduleSource Text) (has_two : Bool) (texts : Files (List ℕ)) (board : Option BoardText) (printed : Printed) → IsBoardOf texts.wiring board
    → printed.status ≡ DONE
    → IsSwitched (source_in from (text_in texts.schedule)) has_two board (text_in texts.list) printed → HasSwitched from has_two texts printed.text
switched from has_two texts board printed of status (switching.switched wiring transfers settings is ways filled tells) =
    let source = source_in from (text_in texts.schedule) in
    let text = text_in texts.list in
    let fits = batch_of source text transfers settings is in
    let said = scheduled source text transfers settings is in
    record {
      transfers = transfers;
      settings = settings;
      board = wiring;
      sent = λ one. sent_for one transfers settings;
      said = said;
      wired = (board, of, filled, ways);
      turned = turned transfers settings wiring (has_two || is_wide transfers) fits (schedule_of source text transfers settings said)
          (all_joined board wiring has_two transfers fits filled ways);
      prints = tells.0;
    }
switched from has_two texts board printed of status (switching.lacking refusal lacks line) = absurd (never_done printed.status line.status status)
switched from has_two texts board printed of status (switching.wrong refusal wrong has line) = absurd (never_done printed.status line.status status)

-- the same where the board is that of the wiring's text, if there is one
on_board : (from : ScheduleSource Text) (has_two : Bool) (texts : Files (List ℕ)) (wiring : Option (List ℕ)) (printed : Printed) → texts.wiring ≡ wiring
    → printed.status ≡ DONE
    → IsOn (λ board. IsSwitched (source_in from (text_in texts.schedule)) has_two board (text_in texts.list)) wiring printed
    → HasSwitched from has_two texts printed.text
on_board from has_two texts None printed same status is = switched from has_two texts None printed
    (subst (λ (w : Option (List ℕ)). IsBoardOf w None) (sym same) tt) status is
on_board from has_two texts (Some wiring) printed same status (switching.wired board denotes is) = switched from has_two texts (Some board) printed
    (subst (λ (w : Option (List ℕ)). IsBoardOf w (Some board)) (sym same) denotes) status is
on_board from has_two texts (Some wiring) printed same status (switching.miswired fault wrong line) = absurd (never_done printed.status line.status status)

pub switched_so : (from : ScheduleSource Text) (has_two : Bool) (texts : Files (List ℕ)) (printed : Printed) → printed.status ≡ DONE
    → IsOn (λ board. IsSwitched (source_in from (text_in texts.schedule)) has_two board (text_in texts.list)) texts.wiring printed
    → HasSwitched from has_two texts printed.text
switched_so from has_two texts printed status is = on_board from has_two texts texts.wiring printed refl status is

-- ---- `orders`

-- a text can say how many settings there are
few_settings : (from : ScheduleSource (List ℕ)) (text : List ℕ) (batch : List Transfer) (settings : List (List ℕ)) → IsBatch batch
    → IsScheduleFrom from widest text batch settings → IsNumber (length settings)
few_settings (source.Plan planning) text batch settings fits is = (plan_can_say planning batch settings is.1.0 fits is.1.1).settings_fit.count
few_settings (source.Text schedule) text batch settings fits is = is.texts.schedule_read.can_say.settings_fit.count

pub ordered : (from : ScheduleSource Text) (only : Option ℕ) (texts : Files (List ℕ)) (printed : Printed) → printed.status ≡ DONE
    → IsOrdered (source_in from (text_in texts.schedule)) only (text_in texts.list) printed → HasOrdered from only texts printed.text
ordered from only texts printed status (ordering.ordered transfers settings is (ordering.told apart told done)) =
    let source = source_in from (text_in texts.schedule) in
    let text = text_in texts.list in
    let fits = batch_of source text transfers settings is in
    let said = scheduled source text transfers settings is in
    let valid = schedule_of source text transfers settings said in
    record {
      transfers = transfers;
      settings = settings;
      said = said;
      apart = apart;
      move = λ opening whole places.
          let some = any_run opening opening transfers settings in (
            (some.0, run_is_obeyed transfers settings opening some.0 (record { apart = apart; schedule = valid; whole = whole; places = places }) some.1),
            λ left are. obeyed_is_placed transfers settings opening left (record { apart = apart; schedule = valid; whole = whole; places = places }) are,
          );
      tells = subst (λ (text : List ℕ). Tells text (told_to only (orders_of transfers settings))) (sym told)
          (text_tells transfers settings only fits valid (few_settings source text transfers settings fits is));
    }
ordered from only texts printed status (ordering.ordered transfers settings is (ordering.overlap i j first line)) =
    absurd (never_done printed.status line.status status)
ordered from only texts printed status (ordering.wrong refusal wrong line) = absurd (never_done printed.status line.status status)
