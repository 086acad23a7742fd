-- Texts by which a job can be done have nothing wrong.
use Rattle.std.proofs.Common.{◌≡◌, ◌&&◌, ◌||◌, ℕ, Bool, true, false, List, [], ◌∷◌, length, All, Option, Some, None, refl, ap, subst, sym, inl, inr, ◌⊎◌}
use Rattle.std.specs.Prelude.{◌==◌, is_some}
use Rattle.std.specs.List.{list_any}
use Rattle.std.proofs.lemmas.Bool.{false≢true}
use Rattle.batch.specs.ShapeView.{widest, ShapeView, IsShape}
use Rattle.batch.specs.declared.transfer.Transfer.{Transfer}
use Rattle.batch.proofs.Shapes.{widest_shape, one_shape}
use Rattle.clap.specs.Words.{Text}
use Rattle.exchange.specs.Promises.{HasChecked, HasDrawn, HasMoved, SaySchedule, IsFirstOverlapIn, IsFirstWrongOn, lacking, no_setting as no_first, texts_wrong, wiring_wrong}
use Rattle.plan_answers.proofs.OneDrawing.{read_right, not_outside}
use Rattle.plan_answers.proofs.OneReading.{same_texts}
use Rattle.plan_answers.proofs.OneSource.{right_or_wrong, right_denoted}
use Rattle.plan_answers.proofs.Ranges.{one_range}
use Rattle.plan_answers.specs.Schedules.{AreRight, IsWrongFrom}
use Rattle.plan_answers.specs.Drawings.{IsFirstUndrawn, invalid, no_range, no_setting, AreWanted, IsBadSettingsText, IsOutside}
use Rattle.plan_answers.specs.declared.setting_range.SettingRange.{SettingRange}
use Rattle.plan_answers.specs.declared.source.ScheduleSource.{ScheduleSource}
use Rattle.plan_answers.specs.declared.source.ScheduleSource.TheVariants as source
use Rattle.module_memory.specs.Store.{Store}
use Rattle.refusals.specs.declared.refusal.Refusal.{Refusal}
use Rattle.batch.proofs.OneReading as batch_reading
use Rattle.batch.specs.Overlap.{IsApart, transfer_at}
use Rattle.batch.specs.Text.{Denotes, IsWithin}
use Rattle.board_wiring.specs.Boards.{IsBoardOf, IsMiswired, modules_of}
use Rattle.board_wiring.specs.Laws.{NeverBoth, OneWiring}
use Rattle.board_wiring.specs.Missing.{HasWays, HasWaysOn, IsLackOn}
use Rattle.board_wiring.specs.declared.board.Board.{Board as BoardText}
use Rattle.board_wiring.specs.declared.fault.WiringFault.{WiringFault}
use Rattle.board_wiring.specs.declared.wired_module.WiredModule.{WiredModule}
use Rattle.command_words.specs.declared.jobs.TextJob.TheVariants.{Apply, Check, Direct, Draw, Orders, Plan, Prices, Replay, Run as RunJob, Switch as SwitchJob}
use Rattle.exchange.specs.Responses.{source_in, text_in}
use Rattle.move_directions.proofs.OneReading as moves_reading
use Rattle.plan_answers.proofs.OneVerdict.{one_verdict}
use Rattle.plan_answers.specs.Answers as answers
use Rattle.plan_answers.specs.Answers.{IsFirstWrong, shortest_line}
use Rattle.plan_answers.specs.Refusals.{Printed}
use Rattle.plan_answers.specs.declared.limits.TheConstants.{DONE, REFUSED}
use Rattle.rack_answers.proofs.Openings.{not_wrong, right_image}
use Rattle.rack_answers.specs.Answers.{IsFirstRunWrong, image_wrong, overlapping, run_wrong, shape_wrong, texts_wrong as run_texts_wrong}
use Rattle.rack_answers.specs.Openings.{IsRightImage}
use Rattle.refusals.specs.Refusals.{refusal_line}
use Rattle.exchange.specs.Rights.{RightIsNotWrong}
use Rattle.exchange.proofs.EndStatuses.{done_is}

-- ---- pictures

same_wanted : (chosen : Option Text) (one other : Option SettingRange) → AreWanted chosen one → AreWanted chosen other → one ≡ other
same_wanted None None None a b = refl
same_wanted None None (Some other) a b = absurd b
same_wanted None (Some one) other a b = absurd a
same_wanted (Some text) None other a b = absurd a
same_wanted (Some text) (Some one) None a b = absurd b
same_wanted (Some text) (Some one) (Some other) a b = ap Some (one_range text one other a b)

no_bad_range : (chosen : Option Text) (range : Option SettingRange) → AreWanted chosen range → IsBadSettingsText chosen → ⊥
no_bad_range None range wanted bad = bad
no_bad_range (Some text) None wanted bad = wanted
no_bad_range (Some text) (Some range) wanted bad = bad range wanted

drawings_right : (text schedule : List ℕ) (chosen : Option Text) (printed : List ℕ) (refusal : Refusal) → HasDrawn text schedule chosen printed
    → IsFirstUndrawn widest text schedule chosen refusal → ⊥
drawings_right text schedule chosen printed refusal can (no_range bad is) = no_bad_range chosen can.range can.wanted bad
drawings_right text schedule chosen printed refusal can (invalid range wanted wrong) = read_right widest widest_shape text schedule can.transfers can.settings refusal
    can.read wrong
drawings_right text schedule chosen printed refusal can (no_setting range batch settings k wanted read out is) =
    let at : IsOutside can.range (length settings) k = subst (λ (r : Option SettingRange). IsOutside r (length settings) k)
    (same_wanted chosen range can.range wanted can.wanted) out in
    not_outside can.range (length can.settings) k can.shown can.are_shown
    (same_texts (λ b s n. IsOutside can.range (length s) k) widest widest_shape text schedule can.transfers batch can.settings settings can.read.certificate
    read.certificate can.read.texts read.texts at)

-- ---- schedules

said_right : (from : ScheduleSource (List ℕ)) (text : List ℕ) (batch : List Transfer) (settings : List (List ℕ)) → SaySchedule from text batch settings
    → AreRight from widest text batch
said_right (source.Plan planning) text batch settings said = said.0
said_right (source.Text schedule) text batch settings said = (settings, said)

-- the same on a rack that has the blocks
narrow : (shape : ShapeView) (text : List ℕ) (batch : List Transfer) → All (IsWithin shape) batch → Denotes widest text batch → Denotes shape text batch
narrow shape text batch within is = record { spelled = is.spelled; few = is.few; within = within }

said_on : (from : ScheduleSource (List ℕ)) (shape : ShapeView) (text : List ℕ) (batch : List Transfer) (settings : List (List ℕ)) → All (IsWithin shape) batch
    → SaySchedule from text batch settings → AreRight from shape text batch
said_on (source.Plan planning) shape text batch settings within said = narrow shape text batch within said.0
said_on (source.Text schedule) shape text batch settings within said = (
  settings,
  record {
    certificate = said.certificate;
    texts = record { batch_read = narrow shape text batch within said.texts.batch_read; schedule_read = said.texts.schedule_read };
    valid = said.valid;
  },
)

-- ---- switches

both_so : (a b c d : Bool) → (a ≡ true → c ≡ true) → (b ≡ true → d ≡ true) → (a && b) ≡ true → (c && d) ≡ true
both_so true b c d one other is = subst (λ (x : Bool). (x && d) ≡ true) (sym (one refl)) (other is)
both_so false b c d one other is = absurd (false≢true is)

first_so : (p q a b : Bool) → (a ≡ true → b ≡ true) → ((p && q) || a) ≡ true → (p || b) ≡ true
first_so true q a b so is = refl
first_so false q a b so is = so is

-- modules that have such a link are there
are_there : (of has : WiredModule → Bool) (modules : List WiredModule) → list_any (λ on. of on && has on) modules ≡ true → list_any of modules ≡ true
are_there of has [] is = is
are_there of has (on ∷ modules) is = first_so (of on) (has on) _ _ (are_there of has modules) is

module _ (one_wiring : OneWiring) (one_or_bad : NeverBoth) where
  same_board : (wiring : Option (List ℕ)) (one other : Option BoardText) (batch : List Transfer) (refusal : Refusal) → IsBoardOf wiring one
      → IsBoardOf wiring other → HasWaysOn one batch → IsLackOn other batch refusal → ⊥
  same_board wiring one None batch refusal is of ways lack = lack
  same_board None one (Some other) batch refusal is of ways lack = of
  same_board (Some text) None (Some other) batch refusal is of ways lack = is
  same_board (Some text) (Some one) (Some other) batch refusal is of ways lack =
      let way = subst (λ (ms : List WiredModule). HasWays ms batch) (one_wiring text (modules_of one) (modules_of other) is of) ways lack.t lack.within in
      let t = transfer_at batch lack.t in
      elim lack.why [
        | inl none ↦ none.0 (both_so _ _ _ _ (are_there (λ on. on.number == t.initiator) (λ on. is_some on.link0) (modules_of other))
            (are_there (λ on. on.number == t.responder) (λ on. is_some on.link3) (modules_of other)) way)
        | inr some ↦ some.1 way
      ]

  well_wired : (wiring : Option (List ℕ)) (board : Option BoardText) (fault : WiringFault) → IsBoardOf wiring board → IsMiswired wiring fault → ⊥
  well_wired None board fault is wrong = wrong
  well_wired (Some text) None fault is wrong = is
  well_wired (Some text) (Some board) fault is wrong = one_or_bad text (modules_of board) fault is wrong

  switches_right : (from : ScheduleSource (List ℕ)) (text : List ℕ) (wiring : Option (List ℕ)) (board : Option BoardText) (batch : List Transfer)
      (refusal : Refusal) → AreRight from widest text batch → IsBoardOf wiring board → HasWaysOn board batch → IsFirstWrongOn from text wiring 0 refusal → ⊥
  switches_right from text wiring board batch refusal right of ways (wiring_wrong fault wrong is) = well_wired wiring board fault of wrong
  switches_right from text wiring board batch refusal right of ways (lacking other is lack) =
      let same = batch_reading.one_batch widest widest_shape text batch lack.0 (right_denoted from widest text batch right) lack.1 in
      same_board wiring board other lack.0 refusal of is (subst (HasWaysOn board) same ways) lack.2
  switches_right from text wiring board batch refusal right of ways (texts_wrong other is wrong misses) =
      right_or_wrong from widest widest_shape text batch refusal right wrong
  switches_right from text wiring board batch refusal right of ways (no_first other read settings is says ways_too starts same) = starts (inl refl)

-- ---- each job

checks_right : (text other printed : List ℕ) (refusal : Refusal) → HasChecked text other printed → IsFirstWrong widest text other refusal → ⊥
checks_right text other printed refusal shown wrong =
    let line : Printed = record { text = shortest_line (length shown.settings); status = DONE } in
    let refuses : Printed = record { text = refusal_line refusal; status = REFUSED } in
    let is = answers.shortest (length shown.settings) (record {
      transfers = shown.batch;
      settings = shown.settings;
      named = shown.named;
      texts = shown.says;
      shortest = shown.shortest;
      certificate = shown.certificate;
      counted = refl;
    }) refl refl in
    let same : refuses ≡ line = one_verdict widest widest_shape text other line refuses is
    (answers.refused refusal wrong (record { line = refl; status = refl })) in
    done_is REFUSED (ap (λ (p : Printed). p.status) same) refl

of_apart : (shape : ShapeView) → IsShape shape → (from : ScheduleSource (List ℕ)) (text : List ℕ) (one other : List Transfer) → AreRight from shape text one
    → AreRight from shape text other → IsApart one → IsApart other
of_apart shape valid from text one other a b apart =
    subst IsApart (batch_reading.one_batch shape valid text one other (right_denoted from shape text one a) (right_denoted from shape text other b)) apart

runs_right : (from : ScheduleSource (List ℕ)) (shape text : List ℕ) (image : Option (List ℕ)) (batch : List Transfer) (left : Store) (refusal : Refusal)
    → (m : HasMoved shape image batch left) → AreRight from m.extent text batch → IsFirstRunWrong from shape text image refusal → ⊥
runs_right from shape text image batch left refusal m right (shape_wrong bad is) = bad m.extent m.shaped
runs_right from shape text image batch left refusal m right (run_texts_wrong extent denotes wrong) =
    right_or_wrong from extent denotes.allowed text batch refusal
    (subst (λ (e : ShapeView). AreRight from e text batch) (one_shape shape m.extent extent m.shaped denotes) right) wrong
runs_right from shape text image batch left refusal m right (run_wrong extent transfers denotes reads (image_wrong fault wrong is)) =
    not_wrong extent image fault (subst (λ (e : ShapeView). IsRightImage e image) (one_shape shape m.extent extent m.shaped denotes)
    (right_image m.extent image m.opening m.begins)) wrong
runs_right from shape text image batch left refusal m right (run_wrong extent transfers denotes reads (overlapping fits over)) =
    of_apart extent denotes.allowed from text batch transfers
    (subst (λ (e : ShapeView). AreRight from e text batch) (one_shape shape m.extent extent m.shaped denotes) right) reads m.apart over.0 over.1 over.2.overlap

orders_right : (from : ScheduleSource (List ℕ)) (text : List ℕ) (transfers : List Transfer) (refusal : Refusal) → AreRight from widest text transfers
    → IsApart transfers → (IsWrongFrom from widest text refusal ⊎ IsFirstOverlapIn from text refusal) → ⊥
orders_right from text transfers refusal right apart (inl wrong) = right_or_wrong from widest widest_shape text transfers refusal right wrong
orders_right from text transfers refusal right apart (inr over) = of_apart widest widest_shape from text transfers over.0 right over.1 apart over.2.0 over.2.1
    over.2.2.overlap

pub not_right : OneWiring → NeverBoth → RightIsNotWrong
not_right wired bad (Plan file planning workers) texts printed refusal done wrong =
    absurd (batch_reading.apart widest widest_shape (text_in texts.list) done.batch wrong.0 done.denotes wrong.1)
not_right wired bad (Check batch schedule) texts printed refusal done wrong =
    absurd (checks_right (text_in texts.list) (text_in texts.schedule) printed refusal done wrong)
not_right wired bad (Draw batch schedule chosen) texts printed refusal done wrong =
    absurd (drawings_right (text_in texts.list) (text_in texts.schedule) chosen printed refusal done wrong)
not_right wired bad (Prices batch schedule) texts printed refusal done wrong =
    absurd (read_right widest widest_shape (text_in texts.list) (text_in texts.schedule) done.transfers done.settings refusal done.read wrong)
not_right wired bad (SwitchJob batch scheduled wiring has_two workers) texts printed refusal done wrong =
    absurd (switches_right wired bad (source_in scheduled (text_in texts.schedule)) (text_in texts.list) texts.wiring done.wired.0 done.transfers refusal
    (said_right _ _ done.transfers done.settings done.said) done.wired.1 done.wired.3 wrong)
not_right wired bad (Orders batch scheduled only workers) texts printed refusal done wrong =
    absurd (orders_right (source_in scheduled (text_in texts.schedule)) (text_in texts.list) done.transfers refusal
    (said_right _ _ done.transfers done.settings done.said) done.apart wrong)
not_right wired bad (Direct moves) texts printed refusal done wrong =
    absurd (moves_reading.apart (text_in texts.list) done.moves wrong.0 done.denotes wrong.1)
not_right wired bad (Apply shape batch image workers) texts printed refusal done wrong =
    absurd (runs_right _ shape (text_in texts.list) (Some (text_in texts.schedule)) done.transfers done.left refusal done.moved
    (narrow done.moved.extent (text_in texts.list) done.transfers done.moved.within done.denotes) wrong)
not_right wired bad (RunJob shape batch scheduled image workers) texts printed refusal done wrong =
    absurd (runs_right (source_in scheduled (text_in texts.schedule)) shape (text_in texts.list) texts.image done.transfers done.left refusal done.moved
    (said_on _ done.moved.extent _ done.transfers done.settings done.moved.within done.said) wrong)
not_right wired bad (Replay shape recorded image first) texts printed refusal done wrong = tt
