use Rattle.std.proofs.Common.{◌≡◌, ◌<◌, ◌≤◌, ◌+◌, ◌-◌, ◌*◌, ℕ, IsTrue, List, length, take, drop, arith, rules, sym, ap, ap₂, ◌∙◌, subst, add-one}
use Rattle.std.proofs.Math.Nat.{mul-le-mul_left}
use Rattle.batch.specs.declared.limits.TheConstants.{MAX_TRANSFERS, MAX_WORDS}
use Rattle.module_memory.specs.Lending.{store_rejoined}
use Rattle.setting_runner.specs.Moves.{AreMovable, HaveMoved, none_sure, all_moved}
use Rattle.setting_runner.specs.Runs.{AreSettingSwitches, ToldUpTo, IsCompleted}
use Rattle.switch_settings.specs.Schedules.{HaveAllReplied}
use Rattle.switch_settings.specs.Sending.{pairs_at}
use Rattle.switch_settings.specs.Settings.{numbers_in}
use Rattle.switch_settings.proofs.Schedules.{pairs_are, known_next, one_replied}
use Rattle.setting_runner.proofs.Going.{rack_has, setting_switches, going_next, going_stops, going_completes, next_begins, part_movable}
use Rattle.setting_runner.proofs.Passing.{stops_passing}
use Rattle.setting_runner.proofs.Schedules.{front_few, numbers_are_counted}
use Rattle.setting_runner.proofs.running.run_settings.Goals as goal

pub numbers_of_setting-numbers-requires-clause-within : goal.numbers_of_setting-numbers-requires-clause-within
numbers_of_setting-numbers-requires-clause-within g c = omega (arith, c.settings-number-end.ensures)

pub run_setting-requires-clause-movable : goal.run_setting-requires-clause-movable
run_setting-requires-clause-movable g c κs within =
    let n = c.loop-number.number in
    let batch = c.args.batch.now in
    let settings = c.args.schedule.now in
    let inv = c.loop-number.invariant in
    let numbers = c.numbers_of_setting-numbers.result.now in
    let e : numbers_in settings n ≡ numbers = sym c.numbers_of_setting-numbers.ensures.numbers in
    let below : n < length settings = omega (arith, c.settings-number-end.ensures) in
    let begun = c.requires.prepared in
    let count : c.loop-number.from + length numbers - c.loop-number.from ≡ length (numbers_in settings n) = omega (arith, ap (length {A = ℕ}) e) in
    let movable = part_movable c.args.rest.now c.args.bays.now c.loop-number.bays batch settings n c.loop-number.from
    (c.loop-number.from + length numbers - c.loop-number.from) begun inv.going below inv.from count in
    let part = take (c.loop-number.from + length numbers - c.loop-number.from) (drop c.loop-number.from c.loop-number.bays) in
    subst (λ (x : List ℕ). AreMovable c.args.rest.now batch x part) e movable

pub returns-in-Err : goal.returns-in-Err
returns-in-Err g c =
    let n = c.loop-number.number in
    let batch = c.args.batch.now in
    let settings = c.args.schedule.now in
    let inv = c.loop-number.invariant in
    let numbers = c.numbers_of_setting-numbers.result.now in
    let e : numbers_in settings n ≡ numbers = sym c.numbers_of_setting-numbers.ensures.numbers in
    let below : n < length settings = omega (arith, c.settings-number-end.ensures) in
    let begun = c.requires.prepared in
    let a = c.loop-number.from in
    let k = c.loop-number.from + length numbers - c.loop-number.from in
    let count : k ≡ length (numbers_in settings n) = omega (arith, ap (length {A = ℕ}) e) in
    let part = take k (drop a c.loop-number.bays) in
    let new = c.run_setting.new.bays in
    let ms = c.in-Err.stop.moved in
    let moves : HaveMoved none_sure c.args.rest.now batch (numbers_in settings n) part new ms =
    subst (λ (x : List ℕ). HaveMoved none_sure c.args.rest.now batch x part new ms) (sym e)
    c.in-Err.ensures.moved in
    let stops = going_stops c.args.rest.now c.args.bays.now c.loop-number.bays new batch settings n a k ms begun inv.going below inv.from count moves in
    let has = rack_has c.args.rest.now c.args.bays.now batch settings begun in
    let are : c.of_setting-pairs.result ≡ pairs_at batch settings n = pairs_are batch settings n numbers c.of_setting-pairs.result
    c.numbers_of_setting-numbers.ensures.numbers c.of_setting-pairs.ensures.members in
    record {
      rejoins = stops.1;
      memories = stops.0;
      plant = record {
        cause = search rules;
        switches = λ honest t is.
            setting_switches c.args.rest.now c.args.bays.now batch settings n numbers c.of_setting-pairs.result
            (g.P.ConfigPort.switches c.run_setting.new.plant.port)
            begun c.numbers_of_setting-numbers.ensures.numbers (λ w. c.of_setting-pairs.ensures.switch c.args.rest.now.store.shape.modules w has)
            (c.in-Err.ensures.wire t is (subst IsTrue (sym inv.honesty) honest));
        traffic = (
          g.P.ConfigPort.passed c.loop-number.plant.port,
          inv.replied,
          stops_passing _ c.in-Err.stop.cause _ _ _ _ _ _ inv.known are
              c.in-Err.ensures.passed,
        );
        refused = search rules;
        uncalled = search rules;
        others = search rules;
        counted = search rules;
        honesty = search rules;
      };
      told = search rules;
      going = search rules;
    }

pub run_setting-requires-clause-pairs : goal.run_setting-requires-clause-pairs
run_setting-requires-clause-pairs g c κs within = c.of_setting-pairs.ensures.pairs c.args.rest.now.store.shape.modules
    (rack_has c.args.rest.now c.args.bays.now c.args.batch.now c.args.schedule.now c.requires.prepared)

pub loop-number-preserved : goal.loop-number-preserved
loop-number-preserved g c =
    let n = c.loop-number.number in
    let batch = c.args.batch.now in
    let settings = c.args.schedule.now in
    let inv = c.loop-number.invariant in
    let numbers = c.numbers_of_setting-numbers.result.now in
    let e : numbers_in settings n ≡ numbers = sym c.numbers_of_setting-numbers.ensures.numbers in
    let below : n < length settings = omega (arith, c.settings-number-end.ensures) in
    let begun = c.requires.prepared in
    let a = c.loop-number.from in
    let k = c.loop-number.from + length numbers - c.loop-number.from in
    let count : k ≡ length (numbers_in settings n) = omega (arith, ap (length {A = ℕ}) e) in
    let part = take k (drop a c.loop-number.bays) in
    let new = c.run_setting.new.bays in
    let words = c.args.rest.now.store.shape.words in
    let moves : HaveMoved none_sure c.args.rest.now batch (numbers_in settings n) part new (all_moved (numbers_in settings n) words) =
    subst (λ (x : List ℕ). HaveMoved none_sure c.args.rest.now batch x part new (all_moved x words)) (sym e)
    c.in_default.ensures.moved in
    let has = rack_has c.args.rest.now c.args.bays.now batch settings begun in
    let pairs = c.of_setting-pairs.result in
    let are : pairs ≡ pairs_at batch settings n = pairs_are batch settings n numbers pairs c.numbers_of_setting-numbers.ensures.numbers
    c.of_setting-pairs.ensures.members in
    record {
      from = omega (arith, next_begins batch settings n a k below inv.from count);
      going = going_next c.args.rest.now c.args.bays.now c.loop-number.bays new batch settings n a k begun inv.going below inv.from count moves;
      told = subst (λ (x : ℕ). ToldUpTo g.N.Notice.hears c.args.notice.now x c.done-in-loop-number.new.self) (sym (add-one n)) (
        c.loop-number.notice,
        inv.told,
        subst (λ (x : ℕ). g.N.Notice.hears c.loop-number.notice x c.done-in-loop-number.new.self) (add-one n)
            c.done-in-loop-number.ensures,
      );
      standing = (
        c.of_setting-pairs.ensures.pairs c.args.rest.now.store.shape.modules has,
        λ honest. c.in_default.ensures.set (subst IsTrue (sym inv.honesty) honest),
      );
      known = known_next batch settings n pairs are;
      replied = one_replied _ batch settings n _ pairs _ _ _ inv.known are inv.replied c.in_default.ensures.replied;
      switches = λ j last honest.
          let at : n ≡ j = omega arith in
          subst (λ (x : ℕ). AreSettingSwitches c.args.rest.now.store.shape batch settings x (g.P.ConfigPort.switches c.run_setting.new.plant.port)) at
          (setting_switches c.args.rest.now c.args.bays.now batch settings n numbers c.of_setting-pairs.result
          (g.P.ConfigPort.switches c.run_setting.new.plant.port)
          begun c.numbers_of_setting-numbers.ensures.numbers (λ w. c.of_setting-pairs.ensures.switch c.args.rest.now.store.shape.modules w has)
          (c.in_default.ensures.set (subst IsTrue (sym inv.honesty) honest)));
      uncalled = λ none. absurd (omega arith);
      plant = search rules;
      unfailed = c.in_default.ensures.unfailed ∙ inv.unfailed;
      honesty = c.run_setting.ensures.honesty ∙ inv.honesty;
    }

pub overflow_mul-result : goal.overflow_mul-result
overflow_mul-result g c =
    let batch = c.args.batch.now in
    let settings = c.args.schedule.now in
    let few : c.loop-number.from ≤ MAX_TRANSFERS = omega (
      arith,
      c.loop-number.invariant.from,
      front_few settings c.loop-number.number,
      numbers_are_counted batch settings c.requires.prepared.schedule,
      c.len-batch.ensures.batch.few,
    ) in
    let wide : c.words.result ≤ MAX_WORDS = omega (arith, c.words.ensures.value, c.words.ensures.shape.few_words) in
    omega (arith, mul-le-mul_left c.loop-number.from wide)

pub returns-clause-memories : goal.returns-clause-memories
returns-clause-memories g c =
    let batch = c.args.batch.now in
    let settings = c.args.schedule.now in
    let begun = c.requires.prepared in
    let size : length settings ≡ c.settings.result = search rules in
    let done : length settings ≤ c.loop-number.number = omega (arith, c.settings-number-end.ensures) in
    let wide : c.words.result ≡ c.args.rest.now.store.shape.words = search rules in
    let completed = going_completes c.args.rest.now c.args.bays.now c.loop-number.bays batch settings c.loop-number.number begun c.loop-number.invariant.going
    done (c.loop-number.from * c.words.result) (ap₂ (λ (x y : ℕ). x * y) c.loop-number.invariant.from wide) in
    subst (λ (x : ℕ). IsCompleted (store_rejoined c.args.rest.now.store c.args.bays.now) batch settings x (c.loop-number.from * c.words.result)
    (store_rejoined c.args.rest.now.store c.loop-number.bays)) size completed

pub returns-clause-plant : goal.returns-clause-plant
returns-clause-plant g c =
    let settings = c.args.schedule.now in
    let all : c.loop-number.number ≡ length settings = omega (arith, c.settings-number-end.ensures) in
    record {
      cause = search rules;
      switches = search rules;
      traffic = subst (λ (n : ℕ). HaveAllReplied c.args.rest.now.store.shape.modules c.args.batch.now settings n (g.P.ConfigPort.passed c.args.plant.now.port)
          (g.P.ConfigPort.passed c.loop-number.plant.port)) all c.loop-number.invariant.replied;
      refused = search rules;
      uncalled = λ empty.
          let none : length c.args.schedule.now ≡ 0 = ap (length {A = List ℕ}) empty in
          let first : c.loop-number.number ≡ 0 = omega (arith, c.settings-number-end.ensures) in
          c.loop-number.invariant.uncalled first;
      others = search rules;
      counted = search rules;
      honesty = search rules;
    }
