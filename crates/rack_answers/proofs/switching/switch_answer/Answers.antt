use Rattle.std.proofs.Common.{◌≡◌, ℕ, List, Some, length, ap, sym, ◌∙◌, add-one, arith}
use Rattle.std.specs.List.{flat_map, range_with_len}
use Rattle.crossbar.specs.Pairs.{ArePairs}
use Rattle.crossbar.specs.declared.pair.Pair.{Pair}
use Rattle.rack_answers.specs.Boards.{joined_on}
use Rattle.switch_settings.specs.Sending.{in_order, pairs_at, standing_before}
use Rattle.switch_settings.specs.Settings.{setting_pairs}
use Rattle.rack_answers.specs.Switching.{turning_lines}
use Rattle.rack_answers.proofs.Switches.{more_lines}
use Rattle.rack_answers.proofs.switching.switch_answer.Goals as goal
use Rattle.rack_answers.proofs.switching.switch_answer.Goals.{After-of_setting-pairs}

-- they are pairs of a rack that has the batch's modules
are_pairs : (c : After-of_setting-pairs) → ArePairs (joined_on c.args.board.now c.args.wide) c.of_setting-pairs.result
are_pairs c = c.of_setting-pairs.ensures.pairs (joined_on c.args.board.now c.args.wide) c.requires.modules

pub numbers_of_setting-requires-clause-within : goal.numbers_of_setting-requires-clause-within
numbers_of_setting-requires-clause-within c = omega (arith, c.settings-number-end.ensures)

pub push_setting-requires-clause-pairs : goal.push_setting-requires-clause-pairs
push_setting-requires-clause-pairs c = rw c.as_slice.ensures.pairs (are_pairs (goal.at.push_setting-requires-clause-pairs c).After-of_setting-pairs)

pub loop-number-preserved : goal.loop-number-preserved
loop-number-preserved c =
    let batch = c.args.batch.now in
    let settings = c.args.schedule.now in
    let n = c.loop-number.number in
    let invariant = c.loop-number.invariant in
    let are : c.of_setting-pairs.result ≡ pairs_at batch settings n = c.of_setting-pairs.ensures.members
    ∙ ap (λ (ts : List ℕ). in_order (setting_pairs batch ts)) c.numbers_of_setting.ensures.numbers in
    record {
      text = more_lines c.args.board.now c.args.wide batch settings n c.loop-number.standing c.as_slice.result.now c.loop-number.text.items
          c.push_setting.new.text.items invariant.standing (c.as_slice.ensures.pairs ∙ are) invariant.text c.in_ok-push_setting.ensures;
      standing = ap (λ (ps : List Pair). Some ps) are ∙ ap (standing_before batch settings) (sym (add-one n));
      pairs = are_pairs (goal.at.loop-number-preserved c).After-of_setting-pairs;
    }

pub returns : goal.returns
returns c =
    let all : length c.args.schedule.now ≡ c.loop-number.number = omega (arith, c.settings-number-end.ensures) in (
      c.done.ensures.text ∙ c.loop-number.invariant.text
          ∙ ap (λ (k : ℕ). flat_map (turning_lines c.args.board.now c.args.wide c.args.batch.now c.args.schedule.now) (range_with_len 0 k)) (sym all),
      c.done.ensures.status,
    )
