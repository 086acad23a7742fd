-- The promise of `drive`.
use Rattle.std.proofs.Common.{◌≡◌, ◌<◌, ◌≤◌, ◌+◌, ◌∙◌, ◌++◌, ℕ, zero, suc, Bool, true, false, not, List, [], ◌∷◌, length, Option, Some, None, Err, inl, inr, ◌⊎◌, refl, sym, ap, ap₂, subst}
use Rattle.std.proofs.Common.{append_assoc, arith}
use Rattle.std.specs.Prelude.{◌==◌, codes}
use Rattle.std.specs.List.{AllByRecursion}
use Rattle.std.proofs.lemmas.List.{append-nil}
use Rattle.batch.specs.Batches.{IsBatch}
use Rattle.batch.specs.ShapeView.{widest}
use Rattle.batch.specs.declared.transfer.Transfer.{Transfer}
use Rattle.board_wiring.specs.Boards.{IsBoardOf, IsFilled}
use Rattle.board_wiring.specs.Missing.{HasWaysOn}
use Rattle.board_wiring.specs.declared.board.Board.{Board as BoardText}
use Rattle.c004_commands.specs.Commands.{text}
use Rattle.c004_commands.specs.declared.command.Command.TheVariants.{Settle}
use Rattle.clap.specs.Words.{Text}
use Rattle.command_words.specs.Jobs.{Files}
use Rattle.crossbar.proofs.Conversed.{conversed_bytes}
use Rattle.crossbar.specs.Pairs.{room_of, switch_of}
use Rattle.crossbar.specs.Switch.{Switch}
use Rattle.c004_commands.specs.declared.command.Command.{Command}
use Rattle.crossbar.specs.Traffic.{Passes, PassesFront, conversed}
use Rattle.crossbar.specs.declared.board.BoardWiring.{BoardWiring}
use Rattle.crossbar.specs.declared.chip.Chip.{Chip}
use Rattle.crossbar.specs.declared.chip.Chip.TheVariants.{A, B}
use Rattle.crossbar.specs.declared.chip.Wiring.{Wiring}
use Rattle.crossbar.specs.declared.chip.Wiring.TheVariants.{Back, Board, Both, Forth}
use Rattle.crossbar.specs.declared.pair.Pair.{Pair}
use Rattle.crossbar.specs.declared.traffic.Passing.{Passing}
use Rattle.drive_answers.specs.Answers as drives
use Rattle.drive_answers.specs.Answers.{HasFailed, IsDriveAnswer, IsDrivenOver, IsFirstDriveWrong, IsStart, IsTried, is_wide_over, rack_for, switches_in}
use Rattle.drive_answers.specs.declared.fault.DriveFault.TheVariants as drive_fault
use Rattle.drive_answers.specs.Endings.{completed_line, fault_words, left_line, stopped_line}
use Rattle.drive_answers.specs.Ways.{IsUnopened, Names, how_many, used}
use Rattle.exchange.proofs.EndStatuses.{done_is}
use Rattle.exchange.proofs.PromisedRuns.{scheduled}
use Rattle.exchange.proofs.PromisedSwitches.{batch_of, schedule_of}
use Rattle.exchange.specs.Promises.{AreNoWays, FilesSaySchedule, HasAnswered, HasDriven, IsFirstWrongOn, IsRefusalLine, IsWired, Stands, StoodInTurn, World, lines_told, lacking, no_setting}
use Rattle.exchange.specs.Promises.{switches_of, texts_wrong, wiring_wrong}
use Rattle.exchange.specs.Responses.{source_in, text_in}
use Rattle.link_graph.specs.Schedules.{IsScheduleOf}
use Rattle.plan_answers.specs.Refusals.{IsRefused, Printed}
use Rattle.plan_answers.specs.Schedules.{IsScheduleFrom}
use Rattle.plan_answers.specs.declared.limits.TheConstants.{DONE, REFUSED}
use Rattle.plan_answers.specs.declared.source.ScheduleSource.{ScheduleSource}
use Rattle.plan_answers.specs.declared.source.ScheduleSource.TheVariants as source
use Rattle.rack_answers.proofs.ReadBatches.{all_joined}
use Rattle.rack_answers.specs.Boards.{joined_on}
use Rattle.refusals.specs.Refusals.{refusal_words}
use Rattle.refusals.specs.declared.refusal.Refusal.{Refusal}
use Rattle.switch_driver.proofs.Telling.{replies_tell}
use Rattle.switch_driver.specs.Driving.{EndsWith, HaveStood, Stood, standing_after}
use Rattle.switch_driver.specs.Lines.{Dialogue, TellsLine, driven_line}
use Rattle.switch_driver.specs.Steps.{Stands as StandsOn, changed, kept, settled_steps, wirings_of}
use Rattle.switch_driver.specs.declared.driving.DriveOutcome.TheVariants.{Completed, Halted, Stopped}
use Rattle.switch_driver.specs.declared.drive_observer.Halt.{Halt}
use Rattle.switch_driver.specs.declared.drive_observer.Halt.TheVariants.{Left, Unheard, Untold}
use Rattle.switch_settings.proofs.Turning.{ordered_switch}
use Rattle.switch_settings.specs.Asking.{AreDone, BreakOff, Breaks, IsDone as IsStepDone, Step, ask, hear, miss, settle, turn}
use Rattle.switch_settings.specs.Pairs.{all_enquiries}
use Rattle.switch_settings.specs.Racks.{HasModulesOf}
use Rattle.switch_settings.specs.Sending.{pairs_at, turning}
use Rattle.switch_settings.specs.Settings.{numbers_in, setting_pairs}
use Rattle.switch_settings.specs.declared.fault.SettingFault.{SettingFault}
use Rattle.switch_settings.specs.declared.fault.SettingFault.TheVariants.{Port, Switch as Disagrees}

-- ---- traffic that is known

passes_some : (old : List Passing) (new : Option (List Passing)) (more : List Passing) → Passes (Some old) new more → new ≡ Some (old ++ more)
passes_some old None more p = absurd p
passes_some old (Some new) more p = ap Some p

-- one step more, where what had passed is known
passes_on : (known : List Passing) (old new : Option (List Passing)) (more : List Passing) → old ≡ Some known → Passes old new more → new ≡ Some (known ++ more)
passes_on known old new more same p = passes_some known new more (subst (λ (o : Option (List Passing)). Passes o new more) same p)

-- ---- one setting

-- it stood after something more
record Grows (old : List Passing) (new : Option (List Passing)) (P : List Passing → Type 0) : Type 0 where
  passed : List Passing
  more : List Passing
  known : new ≡ Some passed
  parts : passed ≡ old ++ more
  is : P passed

-- the two switches, or the one, are those of these pairs
abbrev AreAnswered : List (Chip × Wiring) → List Pair → List Passing → Type 0
AreAnswered switches pairs passed = AllByRecursion (λ (one : Chip × Wiring). HasAnswered one.0 (switch_of one.1 pairs) passed) switches

rest2 : (b x y z : List Passing) → b ++ x ++ y ++ z ≡ b ++ (x ++ (y ++ (z ++ [])))
rest2 b x y z = ap (λ (l : List Passing). b ++ x ++ y ++ l) (sym (append-nil z)) ∙ append_assoc (b ++ x) y (z ++ []) ∙ append_assoc b x (y ++ (z ++ []))

rest3 : (b x y z u : List Passing) → b ++ x ++ y ++ z ++ u ≡ b ++ (x ++ (y ++ (z ++ u)))
rest3 b x y z u = append_assoc (b ++ x ++ y) z u ∙ append_assoc (b ++ x) y (z ++ u) ∙ append_assoc b x (y ++ (z ++ u))

rest5 : (b v w x y z u : List Passing) → b ++ v ++ w ++ x ++ y ++ z ++ u ≡ b ++ (v ++ (w ++ (x ++ (y ++ (z ++ u)))))
rest5 b v w x y z u = rest3 (b ++ v ++ w) x y z u ∙ append_assoc (b ++ v) w (x ++ (y ++ (z ++ u))) ∙ append_assoc b v (w ++ (x ++ (y ++ (z ++ u))))

one_done : (wiring : Wiring) (standing : Option (List Pair)) (pairs : List Pair) (old : List Passing) (new : Option (List Passing))
    → AreDone standing pairs (settled_steps ((A, wiring) ∷ [])) (Some old) new → Grows old new (AreAnswered ((A, wiring) ∷ []) pairs)
one_done wiring standing pairs old new d =
    let t = conversed A (turning wiring standing pairs) [] in
    let r = d.2.1 in
    let a = conversed A all_enquiries r.replies in
    let s = conversed A (Settle ∷ []) [] in
    let m1 = passes_on old (Some old) d.0 t refl d.1 in
    let m2 = passes_on (old ++ t) d.0 d.2.0 a m1 r.passed in
    let m3 = passes_on (old ++ t ++ a) d.2.0 d.2.2.0 s m2 d.2.2.1 in
    record {
      passed = old ++ t ++ a ++ s;
      more = t ++ (a ++ s);
      known = d.2.2.2 ∙ m3;
      parts = append_assoc (old ++ t) a s ∙ append_assoc old t (a ++ s);
      is = (
        record {
          before = old ++ t;
          replies = r.replies;
          between = [];
          behind = [];
          parts = append_assoc (old ++ t) a s ∙ ap (λ (x : List Passing). (old ++ t) ++ (a ++ x)) (sym (append-nil s));
          all = r.all;
          agree = r.are;
          nothing_between = refl;
          nothing_after = refl;
          joins = λ switch same. replies_tell wiring pairs switch r.replies same r.are;
        },
        tt,
      );
    }

both_done : (standing : Option (List Pair)) (pairs : List Pair) (old : List Passing) (new : Option (List Passing))
    → AreDone standing pairs (settled_steps ((A, Forth) ∷ (B, Back) ∷ [])) (Some old) new → Grows old new (AreAnswered ((A, Forth) ∷ (B, Back) ∷ []) pairs)
both_done standing pairs old new d =
    let ta = conversed A (turning Forth standing pairs) [] in
    let tb = conversed B (turning Back standing pairs) [] in
    let ra = d.2.2.1 in
    let rb = d.2.2.2.1 in
    let aa = conversed A all_enquiries ra.replies in
    let ab = conversed B all_enquiries rb.replies in
    let sa = conversed A (Settle ∷ []) [] in
    let sb = conversed B (Settle ∷ []) [] in
    let m1 = passes_on old (Some old) d.0 ta refl d.1 in
    let m2 = passes_on (old ++ ta) d.0 d.2.0 tb m1 d.2.1 in
    let m3 = passes_on (old ++ ta ++ tb) d.2.0 d.2.2.0 aa m2 ra.passed in
    let m4 = passes_on (old ++ ta ++ tb ++ aa) d.2.2.0 d.2.2.2.0 ab m3 rb.passed in
    let m5 = passes_on (old ++ ta ++ tb ++ aa ++ ab) d.2.2.2.0 d.2.2.2.2.0 sa m4 d.2.2.2.2.1 in
    let m6 = passes_on (old ++ ta ++ tb ++ aa ++ ab ++ sa) d.2.2.2.2.0 d.2.2.2.2.2.0 sb m5 d.2.2.2.2.2.1 in
    record {
      passed = old ++ ta ++ tb ++ aa ++ ab ++ sa ++ sb;
      more = ta ++ (tb ++ (aa ++ (ab ++ (sa ++ sb))));
      known = d.2.2.2.2.2.2 ∙ m6;
      parts = rest5 old ta tb aa ab sa sb;
      is = (
        record {
          before = old ++ ta ++ tb;
          replies = ra.replies;
          between = ab;
          behind = sb;
          parts = rest3 (old ++ ta ++ tb) aa ab sa sb;
          all = ra.all;
          agree = ra.are;
          nothing_between = conversed_bytes A B all_enquiries rb.replies;
          nothing_after = conversed_bytes A B (Settle ∷ []) [];
          joins = λ switch same. replies_tell Forth pairs switch ra.replies same ra.are;
        },
        (
          record {
            before = old ++ ta ++ tb ++ aa;
            replies = rb.replies;
            between = sa;
            behind = [];
            parts = rest2 (old ++ ta ++ tb ++ aa) ab sa sb;
            all = rb.all;
            agree = rb.are;
            nothing_between = conversed_bytes B A (Settle ∷ []) [];
            nothing_after = refl;
            joins = λ switch same. replies_tell Back pairs switch rb.replies same rb.are;
          },
          tt,
        ),
      );
    }

-- the switches of a rack, for its wiring
setting_done : (board : Option BoardWiring) (wide : Bool) (standing : Option (List Pair)) (pairs : List Pair) (old : List Passing) (new : Option (List Passing))
    → AreDone standing pairs (settled_steps (wirings_of (rack_for board wide))) (Some old) new → Grows old new (AreAnswered (switches_of board wide) pairs)
setting_done (Some w) wide standing pairs old new d = one_done (Board w) standing pairs old new d
setting_done None true standing pairs old new d = both_done standing pairs old new d
setting_done None false standing pairs old new d = one_done Both standing pairs old new d

-- ---- settings of a schedule

record Given (board : Option BoardWiring) (wide : Bool) (batch : List Transfer) (settings : List (List ℕ)) : Type 0 where
  fits : IsBatch batch
  is : IsScheduleOf batch settings
  has : HasModulesOf (joined_on board wide) batch

module _ (board : Option BoardWiring) (wide : Bool) (batch : List Transfer) (settings : List (List ℕ)) (g : Given board wide batch settings) where
  -- the pairs in order are those of the setting
  in_order_is : (w : Wiring) → HasModulesOf (room_of w) batch → (k : ℕ) → k < length settings → switch_of w (pairs_at batch settings k)
      ≡ switch_of w (setting_pairs batch (numbers_in settings k))
  in_order_is w has k lt = ordered_switch (room_of w) w batch (numbers_in settings k)
      (record { fits = g.fits; known = g.is.no_other k [] lt; matching = g.is.matchings k [] lt }) has (omega arith)

  turned_one : (chip : Chip) (w : Wiring) (k : ℕ) (pairs : List Pair) (passed : List Passing) → pairs ≡ pairs_at batch settings k
      → HasModulesOf (room_of w) batch → k < length settings → HasAnswered chip (switch_of w pairs) passed
      → HasAnswered chip (switch_of w (setting_pairs batch (numbers_in settings k))) passed
  turned_one chip w k pairs passed same has lt a = subst (λ (s : Switch). HasAnswered chip s passed) (ap (switch_of w) same ∙ in_order_is w has k lt) a

  turned_all : (k : ℕ) (pairs : List Pair) (passed : List Passing) → pairs ≡ pairs_at batch settings k → k < length settings
      → AreAnswered (switches_of board wide) pairs passed → Stands board wide batch settings k passed
  turned_all k pairs passed same lt a = by_board board wide g.has a
    where
      by_board : (b : Option BoardWiring) (two : Bool) → HasModulesOf (joined_on b two) batch → AreAnswered (switches_of b two) pairs passed
          → Stands b two batch settings k passed
      by_board None true has a = (turned_one A Forth k pairs passed same has lt a.0, (turned_one B Back k pairs passed same has lt a.1.0, tt))
      by_board None false has a = (turned_one A Both k pairs passed same has lt a.0, tt)
      by_board (Some w) two has a = (turned_one A (Board w) k pairs passed same has lt a.0, tt)

  -- what stood and was told
  record Told (first count : ℕ) (new : Option (List Passing)) (tells : Dialogue) : Type 0 where
    passed : List Passing
    known : new ≡ Some passed
    stood : StoodInTurn board wide batch settings first count passed
    lines : tells.told ≡ lines_told settings first count
    last : (n : ℕ) → count ≡ suc n → AreAnswered (switches_of board wide) (pairs_at batch settings (first + n)) passed

  one_more : (first n : ℕ) (earlier : List Passing) (new : Option (List Passing)) → first + n < length settings
      → ((m : ℕ) → n ≡ suc m → AreAnswered (switches_of board wide) (pairs_at batch settings (first + m)) earlier)
      → StandsOn (rack_for board wide) (standing_after batch settings first n) (pairs_at batch settings (first + n)) (Some earlier) new
      → Grows earlier new (AreAnswered (switches_of board wide) (pairs_at batch settings (first + n)))
  one_more first n earlier new lt before (changed other d) = setting_done board wide _ _ earlier new d
  one_more first zero earlier new lt before (kept same nothing) = absurd (let bad : None ≡ Some (pairs_at batch settings (first + 0)) = same in cc)
  one_more first (suc m) earlier new lt before (kept same nothing) =
      let pairs : pairs_at batch settings (first + m) ≡ pairs_at batch settings (first + suc m) =
      (let e : Some (pairs_at batch settings (first + m)) ≡ Some (pairs_at batch settings (first + suc m)) = same in cc) in
      record {
        passed = earlier;
        more = [];
        known = nothing;
        parts = sym (append-nil earlier);
        is = subst (λ (ps : List Pair). AreAnswered (switches_of board wide) ps earlier) pairs (before m refl);
      }

  have_stood : (waits : Bool) (first count : ℕ) (told tells : Dialogue) (new : Option (List Passing)) → first + count ≤ length settings → told.told ≡ []
      → HaveStood (TellsLine waits) (rack_for board wide) batch settings first count (Some []) told new tells → Told first count new tells
  have_stood waits first zero told tells new few none (same, says) = record {
    passed = [];
    known = same;
    stood = refl;
    lines = ap (λ (d : Dialogue). d.told) says ∙ none;
    last = λ n is. absurd (omega (arith, is));
  }
  have_stood waits first (suc n) told tells new few none (mid, telling, before, stood, hears) =
      let t = have_stood waits first n told telling mid (omega arith) none before in
      let grown = one_more first n t.passed new (omega arith) t.last
      (subst (λ (o : Option (List Passing)). Stood (rack_for board wide) batch settings first n o new) t.known stood) in
      record {
        passed = grown.passed;
        known = grown.known;
        stood = (
          t.passed,
          grown.more,
          grown.parts,
          t.stood,
          turned_all (first + n) (pairs_at batch settings (first + n)) grown.passed refl (omega arith)
              grown.is,
        );
        lines = hears.0 ∙ ap (λ (x : List ℕ). x ++ driven_line (first + n) (numbers_in settings (first + n))) t.lines;
        last = λ m is. subst (λ (j : ℕ). AreAnswered (switches_of board wide) (pairs_at batch settings (first + j)) grown.passed) (omega (arith, is)) grown.is;
      }

-- ---- a setting that couldn't be set

-- what had passed, and something more
abbrev IsFront : List Passing → Option (List Passing) → Type 0
IsFront old new = (more : List Passing) × (new ≡ Some (old ++ more))

front_of : (chip : Chip) (commands : List Command) (known : List Passing) (old new : Option (List Passing)) → old ≡ Some known
    → PassesFront chip commands old new → IsFront known new
front_of chip commands known None new same p = absurd (let bad : None ≡ Some known = same in cc)
front_of chip commands known (Some old) None same p = absurd p
front_of chip commands known (Some old) (Some new) same p =
    (p.0, ap Some (p.1 ∙ ap (λ (x : List Passing). x ++ p.0) (let e : old ≡ known = (let h : Some old ≡ Some known = same in cc) in e)))

passed_front : (known : List Passing) (old new : Option (List Passing)) (more : List Passing) → old ≡ Some known → Passes old new more → IsFront known new
passed_front known old new more same p = (more, passes_on known old new more same p)

breaks_front : (fault : SettingFault) (standing : Option (List Pair)) (pairs : List Pair) (step : Step) (known : List Passing) (old new : Option (List Passing))
    → old ≡ Some known → Breaks fault standing pairs step old new → IsFront known new
breaks_front Port standing pairs (turn chip wiring) known old new same p = front_of chip _ known old new same p
breaks_front (Disagrees found) standing pairs (turn chip wiring) known old new same p = absurd p
breaks_front Port standing pairs (hear chip wiring) known old new same p = front_of chip _ known old new same p
breaks_front (Disagrees found) standing pairs (hear chip wiring) known old new same p = absurd p
breaks_front Port standing pairs (ask chip wiring) known old new same p = front_of chip _ known old new same p
breaks_front (Disagrees found) standing pairs (ask chip wiring) known old new same p = passed_front known old new _ same p.passed
breaks_front Port standing pairs (miss found chip wiring) known old new same p = absurd p
breaks_front (Disagrees other) standing pairs (miss found chip wiring) known old new same p = absurd p
breaks_front Port standing pairs (settle chip wiring) known old new same p = front_of chip _ known old new same p
breaks_front (Disagrees found) standing pairs (settle chip wiring) known old new same p = absurd p

step_front : (standing : Option (List Pair)) (pairs : List Pair) (step : Step) (known : List Passing) (old new : Option (List Passing)) → old ≡ Some known
    → IsStepDone standing pairs step old new → IsFront known new
step_front standing pairs (turn chip wiring) known old new same p = passed_front known old new _ same p
step_front standing pairs (hear chip wiring) known old new same p = passed_front known old new _ same p.passed
step_front standing pairs (ask chip wiring) known old new same p = passed_front known old new _ same p.passed
step_front standing pairs (miss found chip wiring) known old new same p = passed_front known old new _ same p.passed
step_front standing pairs (settle chip wiring) known old new same p = passed_front known old new _ same p

break_front : (fault : SettingFault) (standing : Option (List Pair)) (pairs : List Pair) (steps : List Step) (known : List Passing)
    (old new : Option (List Passing)) → old ≡ Some known → BreakOff fault standing pairs steps old new → IsFront known new
break_front fault standing pairs [] known old new same p = absurd p
break_front fault standing pairs (step ∷ steps) known old new same (inl p) = breaks_front fault standing pairs step known old new same p
break_front fault standing pairs (step ∷ steps) known old new same (inr (mid, done, p)) =
    let f = step_front standing pairs step known old mid same done in
    let g = break_front fault standing pairs steps (known ++ f.0) mid new f.1 p in
    (f.0 ++ g.0, g.1 ∙ ap Some (append_assoc known f.0 g.0))

-- ---- the answer

-- so many switches
many_switches : (filled : Option BoardWiring) (wide : Bool) → switches_in (rack_for filled wide) ≡ length (switches_of filled wide)
many_switches (Some board) wide = refl
many_switches None true = refl
many_switches None false = refl

-- what is so of the texts, however the drive went
record Read (from : ScheduleSource Text) (names : Names) (texts : Files (List ℕ)) (board : Option BoardWiring) (transfers : List Transfer)
    (settings : List (List ℕ)) : Type 0 where
  said : FilesSaySchedule from texts transfers settings
  wired : IsWired texts.wiring transfers board
  given : Given board (is_wide_over names transfers) transfers settings

read_so : (from : ScheduleSource Text) (names : Names) (texts : Files (List ℕ)) (board : Option BoardText) (filled : Option BoardWiring)
    (transfers : List Transfer) (settings : List (List ℕ))
    → IsBoardOf texts.wiring board → IsScheduleFrom (source_in from (text_in texts.schedule)) widest (text_in texts.list) transfers settings
    → HasWaysOn board transfers → IsFilled board filled → Read from names texts filled transfers settings
read_so from names texts board filled transfers settings of is ways fills =
    let source = source_in from (text_in texts.schedule) in
    let text = text_in texts.list in
    let said = scheduled source text transfers settings is in
    let fits = batch_of source text transfers settings is in
    record {
      said = said;
      wired = (board, of, fills, ways);
      given = record {
        fits = fits;
        is = schedule_of source text transfers settings said;
        has = all_joined board filled (how_many names == 2) transfers fits
            fills ways;
      };
    }

more_lines : (settings : List (List ℕ)) (first n k : ℕ) → first + n ≡ k → lines_told settings first n ++ driven_line k (numbers_in settings k)
    ≡ lines_told settings first (n + 1)
more_lines settings first n k at = let e : suc n ≡ n + 1 = omega arith in subst (λ (m : ℕ). lines_told settings first n ++ driven_line k (numbers_in settings k)
    ≡ lines_told settings first m) e (ap (λ (m : ℕ). lines_told settings first n ++ driven_line m (numbers_in settings m)) (sym at))

suc_stood : (board : Option BoardWiring) (wide : Bool) (batch : List Transfer) (settings : List (List ℕ)) (first n : ℕ) (earlier more passed : List Passing)
    → passed ≡ earlier ++ more → StoodInTurn board wide batch settings first n earlier → Stands board wide batch settings (first + n) passed
    → StoodInTurn board wide batch settings first (suc n) passed
suc_stood board wide batch settings first n earlier more passed parts stood stands = (earlier, more, parts, stood, stands)

stood_more : (board : Option BoardWiring) (wide : Bool) (batch : List Transfer) (settings : List (List ℕ)) (first n : ℕ) (earlier more passed : List Passing)
    → passed ≡ earlier ++ more → StoodInTurn board wide batch settings first n earlier → Stands board wide batch settings (first + n) passed
    → StoodInTurn board wide batch settings first (n + 1) passed
stood_more board wide batch settings first n earlier more passed parts stood stands = let e : suc n ≡ n + 1 =
    omega arith in subst (λ (m : ℕ). StoodInTurn board wide batch settings first m passed) e
    (suc_stood board wide batch settings first n earlier more passed parts stood stands)

-- settings stood, the last one was told, and no other came
ended_at : (halt : Halt) (waits : Bool) (old : Dialogue) (k : ℕ) (numbers : List ℕ) (new : Dialogue) → (halt ≡ Left) ⊎ (halt ≡ Unheard)
    → TellsLine waits old k numbers (Err halt) new → new.told ≡ old.told ++ driven_line k numbers
ended_at Left waits old k numbers new which is = is.0
ended_at Unheard waits old k numbers new which is = is.0
ended_at Untold waits old k numbers new (inl which) is = absurd (cc)
ended_at Untold waits old k numbers new (inr which) is = absurd (cc)

module _ (w : World) (from : ScheduleSource Text) (first : ℕ) (names : Names) (texts : Files (List ℕ)) (waits : Bool) (filled : Option BoardWiring)
    (transfers : List Transfer) (settings : List (List ℕ)) (start final : Dialogue) (r : Read from names texts filled transfers settings)
    (none : start.told ≡ []) where
  abbrev Stopping : Halt → ℕ → Option (List Passing) → Type 0
  Stopping halt k carried = EndsWith (TellsLine waits) halt (rack_for filled (is_wide_over names transfers)) transfers settings first k (Some []) start carried
      final

  abbrev Drove : List ℕ → Type 0
  Drove printed = HasDriven w names from first texts printed

  -- all settings stood
  completed : (all : ℕ) (printed : Printed) → w.run.status ≡ DONE → how_many names ≡ switches_in (rack_for filled (is_wide_over names transfers))
      → IsDrivenOver (TellsLine waits) (rack_for filled (is_wide_over names transfers)) transfers settings first (Completed all) names w.before w.after start
      final → printed.text ≡ completed_line all → IsStart first settings → Drove (final.told ++ printed.text)
  completed all printed status many over line starts =
      let went = over.went in
      let all_of : all ≡ length settings = went.0 in
      let sum : first + went.1.0 ≡ length settings = went.1.1 ∙ all_of in
      let t = have_stood filled (is_wide_over names transfers) transfers settings r.given waits first went.1.0 start final over.carried (omega (arith, sum))
      none went.1.2 in
      record {
        transfers = transfers;
        settings = settings;
        board = filled;
        earlier = t.passed;
        more = [];
        count = went.1.0;
        failed = 0;
        line = completed_line (length settings);
        said = r.said;
        wired = r.wired;
        starts = starts;
        opened = over.ways ∙ ap (λ (c : Option (List Passing)). used names c over.failed w.before) (t.known ∙ ap Some (sym (append-nil t.passed)))
            ∙ ap (λ (n : ℕ). used names (Some (t.passed ++ [])) n w.before) over.cause;
        stood = t.stood;
        all = λ done. (many ∙ many_switches filled (is_wide_over names transfers), sum, refl, refl, refl);
        last = λ refused. absurd (done_is w.run.status status refused);
        prints = ap₂ (λ (x y : List ℕ). x ++ y) t.lines (line ∙ ap (λ (n : ℕ). completed_line n) all_of);
      }

  -- what was told before the last setting that stood
  told_before : (halt : Halt) (k : ℕ) (carried : Option (List Passing)) → (went : Stopping halt k carried) → went.telling.told
      ≡ lines_told settings first went.count
  told_before halt k carried went = (have_stood filled (is_wide_over names transfers) transfers settings r.given waits first went.count start went.telling
      went.mid (omega (arith, went.at, went.within)) none went.before).lines

  -- it stood itself, and nothing more passed
  last_stood : (halt : Halt) (k : ℕ) (line : List ℕ) (carried : Option (List Passing)) (failed : ℕ) → w.run.status ≡ REFUSED → (went : Stopping halt k carried)
      → w.after ≡ used names carried failed w.before → (line ≡ left_line k) ⊎ (line ≡ stopped_line k (codes "input"))
      → Drove (lines_told settings first (went.count + 1) ++ line)
  last_stood halt k line carried failed status went ways is =
      let t = have_stood filled (is_wide_over names transfers) transfers settings r.given waits first went.count start went.telling went.mid
      (omega (arith, went.at, went.within)) none went.before in
      let grown = one_more filled (is_wide_over names transfers) transfers settings r.given first went.count t.passed carried
      (omega (arith, went.at, went.within)) t.last
      (subst (λ (o : Option (List Passing)). Stood (rack_for filled (is_wide_over names transfers)) transfers settings first went.count o carried) t.known
      went.stood) in
      record {
        transfers = transfers;
        settings = settings;
        board = filled;
        earlier = grown.passed;
        more = [];
        count = went.count + 1;
        failed = failed;
        line = line;
        said = r.said;
        wired = r.wired;
        starts = inr (omega (arith, went.at, went.within));
        opened = ways ∙ ap (λ (c : Option (List Passing)). used names c failed w.before) (grown.known ∙ ap Some (sym (append-nil grown.passed)));
        stood = stood_more filled (is_wide_over names transfers) transfers settings first went.count t.passed grown.more grown.passed grown.parts t.stood
            (turned_all filled (is_wide_over names transfers) transfers settings r.given (first + went.count) (pairs_at transfers settings (first + went.count))
            grown.passed refl (omega (arith, went.at, went.within)) grown.is);
        all = λ done. absurd (done_is w.run.status done status);
        last = λ refused. inr (k, omega (arith, went.at), went.within, omega (arith, went.at), refl, is);
        prints = refl;
      }

  stopped_at : (k : ℕ) (fault : SettingFault) (printed : Printed) → w.run.status ≡ REFUSED
      → IsDrivenOver (TellsLine waits) (rack_for filled (is_wide_over names transfers)) transfers settings first (Stopped k fault) names w.before w.after start
      final → printed.text ≡ stopped_line k (fault_words fault) → Drove (final.told ++ printed.text)
  stopped_at k fault printed status over line =
      let went = over.went in
      let t = have_stood filled (is_wide_over names transfers) transfers settings r.given waits first went.count start final went.mid
      (omega (arith, went.at, went.within)) none went.before in
      let f = break_front fault _ _ (settled_steps (wirings_of (rack_for filled (is_wide_over names transfers)))) t.passed went.mid over.carried t.known
      went.vain.1 in
      record {
        transfers = transfers;
        settings = settings;
        board = filled;
        earlier = t.passed;
        more = f.0;
        count = went.count;
        failed = over.failed;
        line = stopped_line k (fault_words fault);
        said = r.said;
        wired = r.wired;
        starts = inr (omega (arith, went.at, went.within));
        opened = over.ways ∙ ap (λ (c : Option (List Passing)). used names c over.failed w.before) f.1;
        stood = t.stood;
        all = λ done. absurd (done_is w.run.status done status);
        last = λ refused. inl (fault, omega (arith, went.at, went.within), ap (λ (n : ℕ). stopped_line n (fault_words fault)) (sym went.at));
        prints = ap₂ (λ (x y : List ℕ). x ++ y) t.lines line;
      }

  left_at : (halt : Halt) (k : ℕ) (line : List ℕ) (carried : Option (List Passing)) (failed : ℕ) (printed : Printed) → w.run.status ≡ REFUSED → (halt ≡ Left)
      ⊎ (halt ≡ Unheard) → Stopping halt k carried → w.after ≡ used names carried failed w.before → printed.text ≡ line → (line ≡ left_line k)
      ⊎ (line ≡ stopped_line k (codes "input"))
      → Drove (final.told ++ printed.text)
  left_at halt k line carried failed printed status which went ways text is =
      let told : final.told ≡ lines_told settings first (went.count + 1) = ended_at halt waits went.telling k (numbers_in settings k) final which went.said
      ∙ ap (λ (x : List ℕ). x ++ driven_line k (numbers_in settings k)) (told_before halt k carried went) ∙ more_lines settings first went.count k went.at in
      subst Drove (ap₂ (λ (x y : List ℕ). x ++ y) (sym told) (sym text)) (last_stood halt k line carried failed status went ways is)

-- what is first wrong with the texts
wrong_on : (from : ScheduleSource (List ℕ)) (text : List ℕ) (wiring : Option (List ℕ)) (first : ℕ) (refusal : Refusal) → IsFirstDriveWrong from text wiring
    first refusal → IsFirstWrongOn from text wiring first refusal
wrong_on from text wiring first refusal (drives.wiring_wrong fault wrong is) = wiring_wrong fault wrong is
wrong_on from text wiring first refusal (drives.lacking board of lacks) = lacking board of lacks
wrong_on from text wiring first refusal (drives.texts_wrong board of wrong has) = texts_wrong board of wrong has
wrong_on from text wiring first refusal (drives.no_setting board batch settings of is ways other same) =
    no_setting board batch settings of (scheduled from text batch settings is) ways other same

-- what a drive printed, or its refusal; then no port was opened
abbrev pub DroveOr : World → Names → ScheduleSource Text → ℕ → Files (List ℕ) → List ℕ → Type 0
DroveOr w names from first texts printed =
    HasDriven w names from first texts printed
    ⊎ ((IsRefusalLine (λ refusal. IsFirstWrongOn (source_in from (text_in texts.schedule)) (text_in texts.list) texts.wiring first refusal
    ⊎ AreNoWays names from texts refusal) printed
    × (w.after ≡ w.before)) × (w.run.status ≡ REFUSED))

module _ (w : World) (from : ScheduleSource Text) (first : ℕ) (names : Names) (texts : Files (List ℕ)) (goes_on : Bool) where
  module _ (start final : Dialogue) (printed : Printed) (none : start.told ≡ []) (status : w.run.status ≡ printed.status) where
    -- the refusal was all that was printed, and no port was opened
    refused_so : (refusal : Refusal) → final ≡ start → IsRefused (refusal_words refusal) printed → w.after ≡ w.before
        → IsFirstWrongOn (source_in from (text_in texts.schedule)) (text_in texts.list) texts.wiring first refusal ⊎ AreNoWays names from texts refusal
        → DroveOr w names from first texts (final.told ++ printed.text)
    refused_so refusal same line left wrong =
        let told : final.told ≡ [] = ap (λ (d : Dialogue). d.told) same ∙ none in
        inr (((refusal, wrong, ap (λ (x : List ℕ). x ++ printed.text) told ∙ line.line), left), status ∙ line.status)

    tried_so : (filled : Option BoardWiring) (transfers : List Transfer) (settings : List (List ℕ)) → Read from names texts filled transfers settings
        → IsStart first settings
        → IsTried (TellsLine (not goes_on)) (rack_for filled (is_wide_over names transfers)) transfers settings first names w.before w.after start final printed
        → DroveOr w names from first texts (final.told ++ printed.text)
    tried_so filled transfers settings r starts (drives.driven (Completed all) many over ends) =
        inl (completed w from first names texts (not goes_on) filled transfers settings start final r none all printed (status ∙ ends.1) many over ends.0 starts)
    tried_so filled transfers settings r starts (drives.driven (Stopped k fault) many over ends) =
        inl (stopped_at w from first names texts (not goes_on) filled transfers settings start final r none k fault printed (status ∙ ends.1) over ends.0)
    tried_so filled transfers settings r starts (drives.driven (Halted k Left) many over ends) =
        inl (left_at w from first names texts (not goes_on) filled transfers settings start final r none Left k (left_line k) over.carried over.failed printed
        (status ∙ ends.1) (inl refl) over.went over.ways ends.0 (inl refl))
    tried_so filled transfers settings r starts (drives.driven (Halted k Unheard) many over ends) =
        inl (left_at w from first names texts (not goes_on) filled transfers settings start final r none Unheard k (stopped_line k (codes "input")) over.carried
        over.failed printed (status ∙ ends.1) (inr refl) over.went over.ways ends.0 (inr refl))
    tried_so filled transfers settings r starts (drives.driven (Halted k Untold) many over ends) = absurd ends
    tried_so filled transfers settings r starts (drives.unopened refusal why refuses same left) =
        refused_so refusal same refuses.1 left
        (inr (
          transfers,
          settings,
          filled,
          r.said,
          r.wired,
          subst (λ (n : ℕ). IsUnopened names n refusal)
              (many_switches filled (is_wide_over names transfers)) why,
        ))

    pub drove_so : IsDriveAnswer (TellsLine (not goes_on)) (source_in from (text_in texts.schedule)) (text_in texts.list) texts.wiring first names w.before
        w.after start final printed → DroveOr w names from first texts (final.told ++ printed.text)
    drove_so (drives.tried board filled transfers settings of is ways fills begins tries) =
        tried_so filled transfers settings (read_so from names texts board filled transfers settings of is ways fills) begins tries
    drove_so (drives.wrong refusal wrong refuses same left) = refused_so refusal same refuses.1 left
        (inl (wrong_on _ (text_in texts.list) texts.wiring first refusal wrong))

  -- settings stood, and the line of the last one couldn't all be written
  pub cut_so : (input left : Option (List ℕ)) (told : List ℕ) → w.run.status ≡ REFUSED
      → HasFailed (TellsLine (not goes_on)) (source_in from (text_in texts.schedule)) (text_in texts.list) texts.wiring first names w.before w.after
      (record { told = []; left = input }) (record { told = told; left = left }) drive_fault.Untold
      → (missing : List ℕ) × HasDriven w names from first texts (told ++ missing)
  cut_so input left told status failed =
      let over = failed.8.2 in
      let start : Dialogue = record { told = []; left = input } in
      let final : Dialogue = record { told = told; left = left } in
      let read = read_so from names texts failed.0 failed.1 failed.2 failed.3 failed.4 failed.5 failed.6 failed.7 in
      let lines = told_before w from first names texts (not goes_on) failed.1 failed.2 failed.3 start final read refl Untold failed.8.0 over.carried
      over.went in
      let said = over.went.said in
      let line = driven_line failed.8.0 (numbers_in failed.3 failed.8.0) in
      let more = said.1 ++ left_line failed.8.0 in
      let whole : told ++ more ≡ lines_told failed.3 first (over.went.count + 1) ++ left_line failed.8.0 =
      ap (λ (x : List ℕ). x ++ more) (said.3 ∙ ap (λ (x : List ℕ). x ++ said.0) lines) ∙ append_assoc (lines_told failed.3 first over.went.count) said.0 more
      ∙ ap (λ (x : List ℕ). lines_told failed.3 first over.went.count ++ x) (sym (append_assoc said.0 said.1 (left_line failed.8.0))
      ∙ ap (λ (x : List ℕ). x ++ left_line failed.8.0) (sym said.2))
      ∙ sym (append_assoc (lines_told failed.3 first over.went.count) line (left_line failed.8.0)) ∙ ap (λ (x : List ℕ). x ++ left_line failed.8.0)
      (more_lines failed.3 first over.went.count failed.8.0 over.went.at) in (
        more,
        subst (HasDriven w names from first texts) (sym whole) (last_stood w from first names texts (not goes_on) failed.1 failed.2 failed.3 start final
            read refl Untold failed.8.0 (left_line failed.8.0) over.carried over.failed status over.went over.ways (inl refl)),
      )
