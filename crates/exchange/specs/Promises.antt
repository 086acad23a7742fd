-- What the program promises: for each command, in few definitions, what is so where it is asked for
-- and ends with status 0, with 1, or with 3. The clause of the function `answer` is
-- `KeepsPromises`, which stands last. It is proved of the contract of `respond`, which nobody has
-- to read to know what it says.
use Rattle.std.specs.Prelude.{false, true, ◌||◌, ◌≡◌, ◌≢◌, ◌<◌, ◌≤◌, ◌+◌, ℕ, zero, suc, Bool, List}
use Rattle.std.specs.Prelude.{[], ◌∷◌, ◌++◌, ◌⊎◌, All, Option, Some, None, IfSome, MatchOption, ⊤}
use Rattle.std.specs.Prelude.{codes, if◌then◌else◌, is_some, length, map, option_map}
use Rattle.std.specs.Prelude.{option_to_list, slice_get, slice_index_or, sum_by}
use Rattle.std.specs.Fmt.{decimal}
use Rattle.std.specs.List.{AllByRecursion, flat_map, list_any, range_with_len}
use Rattle.batch.specs.declared.transfer.Transfer.{Transfer}
use Rattle.batch.specs.ShapeView.{ShapeView, widest}
use Rattle.batch.specs.Overlap.{IsApart}
use Rattle.batch.specs.ShapeText.{DenotesShape}
use Rattle.batch.specs.Text.{Denotes, IsWithin}
use Rattle.c004_commands.specs.Commands.{AreCommands}
use Rattle.c004_commands.specs.declared.command.Command.{Command}
use Rattle.clap.specs.Words.{IsAmong, Text}
use Rattle.clap.specs.declared.error.kind.ErrorKind.TheVariants.{DisplayHelp, DisplayVersion}
use Rattle.command_words.specs.Jobs.{AskFor, Files, all_files, live_names, faults_of, file_uses}
use Rattle.command_words.specs.Jobs.{files_of, input_name, recorded_in}
use Rattle.command_words.specs.declared.jobs.Job.{Job}
use Rattle.command_words.specs.declared.jobs.Job.TheVariants.{Texts, Ports as OverPorts, Sessions}
use Rattle.command_words.specs.declared.jobs.TextJob.{TextJob}
use Rattle.command_words.specs.declared.jobs.TextJob.TheVariants.{Apply, Check, Direct, Draw}
use Rattle.command_words.specs.declared.jobs.TextJob.TheVariants.{Orders, Plan, Prices, Replay}
use Rattle.command_words.specs.declared.jobs.TextJob.TheVariants.{Run as RunJob}
use Rattle.command_words.specs.declared.jobs.TextJob.TheVariants.{Switch as SwitchJob}
use Rattle.command_words.specs.declared.jobs.PortJob.TheVariants.{C004, Drive}
use Rattle.command_words.specs.declared.jobs.SessionJob.{SessionJob}
use Rattle.command_words.specs.declared.jobs.SessionJob.TheVariants.{Host, Serve, Talk}
use Rattle.crossbar.specs.Pairs.{change, switch_of}
use Rattle.crossbar.specs.Switch.{Switch, after_all, answers, enquiries, idle}
use Rattle.crossbar.specs.declared.board.BoardWiring.{BoardWiring}
use Rattle.crossbar.specs.declared.chip.Wiring.{Wiring}
use Rattle.crossbar.specs.declared.chip.Wiring.TheVariants.{Back, Board, Both, Forth}
use Rattle.link_devices.specs.Answering.{HasRun}
use Rattle.link_devices.specs.End.{EndState}
use Rattle.link_graph.specs.Certificates.{IsCertificate, IsCertified, IsShortest, Naming}
use Rattle.link_graph.specs.ScheduleText.{Says, said}
use Rattle.link_graph.specs.Schedules.{IsScheduleOf}
use Rattle.module_memory.specs.Core.{FitsIn, IsPlaced}
use Rattle.module_memory.specs.Images.{image_of}
use Rattle.module_memory.specs.Store.{IsWhole, Store}
use Rattle.module_orders.specs.Obeying.{AreObeyed}
use Rattle.module_orders.specs.Orders.{RackTold, orders_of, told_to}
use Rattle.module_orders.specs.OrdersText.{Tells}
use Rattle.move_directions.specs.declared.moves.Move.{Move}
use Rattle.move_directions.specs.Directions.{NoneIsShorter}
use Rattle.move_directions.specs.Moves.{Directs}
use Rattle.move_directions.specs.Text.{Denotes as DenotesMoves}
use Rattle.named_files.specs.DistinctFiles.{AreSeenApart, Leading}
use Rattle.named_files.specs.Contents.{Holding, StandAmong}
use Rattle.link_graph.specs.declared.link.End.{End}
use Rattle.plan_answers.specs.Drawings.{AreShown, AreWanted}
use Rattle.plan_answers.specs.Pricing.{SaysPrices}
use Rattle.plan_answers.specs.declared.limits.TheConstants.{DONE, REFUSED}
use Rattle.plan_answers.specs.declared.setting_range.SettingRange.{SettingRange}
use Rattle.schedule_picture.specs.Laws.{AreFewest, CellsOverlap, IsDrawnAt}
use Rattle.schedule_picture.specs.Picture.{changes_words, columns_text, heading_text}
use Rattle.schedule_picture.specs.declared.shown.ShownSettings.{ShownSettings}
use Rattle.steady_schedule.specs.Changes.{changes}
use Rattle.plan_answers.specs.declared.source.Planning.{Planning}
use Rattle.plan_answers.specs.declared.source.Planning.TheVariants.{Plain, Steady}
use Rattle.plan_answers.specs.declared.source.ScheduleSource.{ScheduleSource}
use Rattle.plan_answers.specs.declared.source.ScheduleSource.TheVariants as source
use Rattle.rack_answers.specs.Reports.{report_for}
use Rattle.rack_answers.specs.Switching.{lines_on}
use Rattle.steady_schedule.specs.Needs.{ChangesAtNeed}
use Rattle.steady_schedule.specs.Prices.{AreNeeded}
use Rattle.switch_settings.specs.Racks.{is_wide}
use Rattle.switch_settings.specs.Sending.{pairs_at}
use Rattle.switch_settings.specs.Settings.{numbers_in, setting_pairs}
use Rattle.batch.specs.Faults.{IsFirstFault}
use Rattle.batch.specs.declared.fault.BatchFault.{BatchFault}
use Rattle.exchange.specs.Drives.{names_in}
use Rattle.exchange.specs.Opened.{Opened}
use Rattle.exchange.specs.Responses.{source_in, text_in}
use Rattle.move_directions.specs.Faults.{IsFirstFault as IsFirstMovesFault}
use Rattle.plan_answers.specs.Answers.{IsFirstWrong}
use Rattle.plan_answers.specs.Directing.{of_moves}
use Rattle.plan_answers.specs.Drawings.{IsFirstUndrawn}
use Rattle.plan_answers.specs.Texts.{AreTexts}
use Rattle.plan_answers.specs.Validities.{IsInvalid, IsScheduleRead}
use Rattle.board_wiring.specs.Boards.{IsBoardOf, IsFilled, IsMiswired}
use Rattle.board_wiring.specs.Missing.{HasWaysOn, IsMissingFor, MissesNothing}
use Rattle.board_wiring.specs.Sources.{of_wiring}
use Rattle.board_wiring.specs.declared.board.Board.{Board as BoardText}
use Rattle.board_wiring.specs.declared.fault.WiringFault.{WiringFault}
use Rattle.plan_answers.specs.Schedules.{AreRight, IsWrongFrom}
use Rattle.rack_answers.specs.Answers.{IsFirstRunWrong, IsOverlapOf}
use Rattle.refusals.specs.Refusals.{refusal_line}
use Rattle.refusals.specs.Sources.{of_batch}
use Rattle.refusals.specs.declared.refusal.Refusal.{Refusal}
use Rattle.refusals.specs.declared.refusal.Refusal.TheVariants.{NoSetting, RecordHead, Threads}
use Rattle.c004_commands.specs.declared.command.Command.TheVariants.{Settle}
use Rattle.c004_commands.specs.declared.port.TheConstants.{PORTS}
use Rattle.crossbar.specs.Traffic.{bytes_to, conversed}
use Rattle.crossbar.specs.declared.chip.Chip.{Chip}
use Rattle.crossbar.specs.declared.chip.Chip.TheVariants.{A, B}
use Rattle.crossbar.specs.declared.traffic.Passing.{Passing}
use Rattle.drive_answers.specs.Answers.{IsStart, is_wide_over}
use Rattle.drive_answers.specs.Endings.{completed_line, fault_words, left_line, stopped_line}
use Rattle.drive_answers.specs.Ways.{IsUnopened, Names, Ways, how_many, used}
use Rattle.switch_driver.specs.Laws.{JoinsAs}
use Rattle.switch_driver.specs.Lines.{driven_line}
use Rattle.switch_settings.specs.declared.fault.SettingFault.{SettingFault}
use Rattle.switch_settings.specs.Answers.{AllAgree}
use Rattle.switch_settings.specs.Pairs.{all_enquiries}
use Rattle.batch_book.specs.History.{IsPrefix}
use Rattle.batch_book.specs.Machine.{Machine, opened}
use Rattle.batch_book.specs.Seats.{own}
use Rattle.batch_book.specs.Values.{greatest}
use Rattle.batch_book.specs.declared.entry.Entry.{Entry}
use Rattle.client_session.specs.Sessions.{EndByBye, GoOn, IsEndOfLastLine, MayEnd, added_entries}
use Rattle.client_session.specs.Sessions.{lines_of}
use Rattle.client_session.specs.Turns.{AreReadings, IsFetching, IsTurn, Turn as Turned, turn_text}
use Rattle.command_words.specs.declared.jobs.Request.{Request}
use Rattle.command_words.specs.declared.jobs.SharedRack.{SharedRack}
use Rattle.session_answers.specs.Frames.{end_line as line_of_end, end_text, heading}
use Rattle.session_answers.specs.Histories.{status_at}
use Rattle.session_answers.specs.HostAnswers.{ending_line, has_failed}
use Rattle.session_answers.specs.declared.ended_session.Ending.{Ending}
use Rattle.session_answers.specs.declared.ended_session.Ending.TheVariants.{Served, Unopened}
use Rattle.client_session.specs.declared.limits.TheConstants.{REPLY_BUFFER_BYTES}
use Rattle.client_session.specs.declared.fault.ServeFault.{ServeFault}
use Rattle.client_session.specs.declared.fault.ServeFault.TheVariants.{Record, Write}
use Rattle.command_words.specs.declared.jobs.RecordFile.{RecordFile}
use Rattle.named_files.specs.Streams.{Closed, IsFrontOf, closed}
use Rattle.named_files.specs.declared.outputs.Receipts.{Receipts}
use Rattle.recorded_sessions.specs.Records.{BeginsFor, IsRecordStart as BeginsRecord}
use Rattle.book_record.specs.Heads.{BeginsWithNoHead, record_of, whole_record}
use Rattle.recorded_sessions.specs.Answers.{IsWrongStart}
use Rattle.rack_answers.specs.Openings.{IsOfImageOrMarked, IsRackOf, IsWrongRack}
use Rattle.record_replay.specs.ReplayAnswers.{IsNoRecordOn, IsRecordOn, IsShapeOf, of_record}
use Rattle.record_replay.specs.Replays.{IsRecordError, IsRemade}
use Rattle.record_replay.specs.Steps.{AreSeenSteps}
use Rattle.record_replay.specs.declared.fault.RecordError.{RecordError}
use Rattle.exchange.specs.declared.limits.TheConstants.{MISUSED, UNWRITTEN}

-- ---- a run of the program

-- What a run of the program was given, and what it left: its arguments, which texts the files of
-- names hold, that a text was printed and nothing else, and the status that it ended with.
pub record Run : Type 1 where
  pub words : List Text
  pub holds : Text → List ℕ → Type 0
  pub prints : List ℕ → Type 0
  pub status : ℕ

-- The file of this name holds the text. `-` is standard input, whose bytes are known or not.
abbrev pub HoldsText : Holding → Option (List ℕ) → Text → List ℕ → Type 0
HoldsText holds input name text =
    (name ≡ input_name → IfSome input (λ known. text ≡ known))
    × (name ≢ input_name → holds name text)

-- the run of a program that has these files and this standard input, prints so, and ends so
abbrev pub run_of : Holding → (input : Option (List ℕ)) → (List ℕ → Type 0) → List Text → ℕ → Run
run_of holds input prints words status =
    record {
      words = words;
      holds = HoldsText holds input;
      prints = prints;
      status = status;
    }

-- what is left of the files that were opened for a record, and for an image
pub record SavedFiles : Type 0 where
  pub recorded : Option Closed
  pub image : Option Closed

abbrev pub saved_by : {C : Type 0} → (C → Closed) → Receipts C → SavedFiles
saved_by received receipts =
    record {
      recorded = option_map received receipts.recorded;
      image = option_map received receipts.image;
    }

-- what is known of the files of live clients: what comes from one, where that is known; and what
-- one held as it was opened to be written; and how the session of each client ended, with what its
-- file holds then
pub record Clients : Type 0 where
  pub comes : Text → Option (List ℕ)
  pub had : Text → List ℕ
  pub ends : List (Ending (List ℕ))

abbrev pub clients_of : (Text → Option (List ℕ)) → (Text → List ℕ) → List (Ending (List ℕ))
    → Clients
clients_of comes had ends = record { comes = comes; had = had; ends = ends }

-- a run, and whether all could be written; the ways to ports before it and after it; the files of a
-- record and of an image; live clients; and which files were opened to be read, or as a client's
pub record World : Type 1 where
  pub run : Run
  pub whole : Bool
  pub before : Ways
  pub after : Ways
  pub kept : SavedFiles
  pub clients : Clients
  pub opened : Opened

abbrev pub world_of : Run → (before after : Ways) → SavedFiles → Clients → Opened → World
world_of run before after kept clients opened =
    record {
      run = run;
      whole = true;
      before = before;
      after = after;
      kept = kept;
      clients = clients;
      opened = opened;
    }

-- the arguments ask for this job
abbrev pub AsksFor : Run → Job → Type 0
AsksFor run job = (quiet : Bool) × AskFor run.words (record { job = job; is_quiet = quiet })

-- the arguments ask for one thing at most
abbrev pub AskForOne : List Text → Type 0
AskForOne words = (one other : Request) → AskFor words one → AskFor words other → one ≡ other

-- ---- batches and schedules in texts

-- the settings are a schedule of the batch, of which none is shorter; where it is to be steady, it
-- changes the switch only at need
pub record IsPlanOf (planning : Planning) (batch : List Transfer) (settings : List (List ℕ))
    : Type 0 where
  pub shortest : IsShortest batch settings
  pub at_need : planning ≡ Steady → ChangesAtNeed batch settings

-- the texts say this batch and a schedule of it: a plan of it, or the user's own
abbrev pub SaySchedule : ScheduleSource (List ℕ) → List ℕ → List Transfer → List (List ℕ) → Type 0
SaySchedule (source.Plan planning) text batch settings =
    Denotes widest text batch × IsPlanOf planning batch settings
SaySchedule (source.Text schedule) text batch settings =
    IsScheduleRead widest text schedule batch settings

-- the same of the texts of a job's files
abbrev pub FilesSaySchedule : ScheduleSource Text → Files (List ℕ) → List Transfer → List (List ℕ)
    → Type 0
FilesSaySchedule scheduled texts =
    SaySchedule (source_in scheduled (text_in texts.schedule)) (text_in texts.list)

-- each of these files holds its text
abbrev pub AreAllHeld : (Text → List ℕ → Type 0) → List Text → List (List ℕ) → Type 0
AreAllHeld holds [] [] = ⊤
AreAllHeld holds [] (text ∷ texts) = ⊥
AreAllHeld holds (name ∷ names) [] = ⊥
AreAllHeld holds (name ∷ names) (text ∷ texts) = holds name text × AreAllHeld holds names texts

-- the files that a job reads hold these texts
pub record HoldTexts (holds : Text → List ℕ → Type 0) (names : Files Text) (texts : Files (List ℕ))
    : Type 0 where
  pub image : AreAllHeld holds (option_to_list names.image) (option_to_list texts.image)
  pub list : AreAllHeld holds (option_to_list names.list) (option_to_list texts.list)
  pub schedule : AreAllHeld holds (option_to_list names.schedule) (option_to_list texts.schedule)
  pub wiring : AreAllHeld holds (option_to_list names.wiring) (option_to_list texts.wiring)
  pub scripts : AreAllHeld holds names.scripts texts.scripts

-- The files of a job hold texts, and something was printed, and nothing else, of which this is so.
abbrev pub Comes : Run → Job → (Files (List ℕ) → List ℕ → Type 0) → Type 0
Comes run job is =
    (texts : Files (List ℕ)) × (printed : List ℕ) × HoldTexts run.holds (files_of job) texts
    × run.prints printed × is texts printed

-- it is the one line of such a refusal
abbrev pub IsRefusalLine : (Refusal → Type 0) → List ℕ → Type 0
IsRefusalLine is_wrong printed =
    (refusal : Refusal) × is_wrong refusal × (printed ≡ refusal_line refusal)

-- There was no answer: so a run may end at any time.
abbrev pub HasGivenUp : Run → Type 0
HasGivenUp run =
    run.prints (codes "refused no memory\n") ⊎ run.prints (codes "refused file\n")

-- ---- 1 and 2: plans

-- The text is that of a batch. A plan of it was printed, and nothing else, with a certificate: a
-- link, and as many transfers that use it as there are settings.
pub record HasPlanned (planning : Planning) (text printed : List ℕ) : Type 0 where
  pub batch : List Transfer
  pub settings : List (List ℕ)
  pub named : Naming
  pub denotes : Denotes widest text batch
  pub plan : IsPlanOf planning batch settings
  pub certificate : IsCertificate batch settings named
  pub says : Says printed (said settings (Some named))

-- ---- 3: checks

-- The texts say a batch and a schedule of it, none is shorter, and what is named with it shows
-- that. `shortest S` was printed, and nothing else, where S is how many settings that has.
pub record HasChecked (text schedule printed : List ℕ) : Type 0 where
  pub batch : List Transfer
  pub settings : List (List ℕ)
  pub named : Naming
  pub says : AreTexts widest text schedule batch settings (Some named)
  pub shortest : IsShortest batch settings
  pub certificate : IsCertificate batch settings named
  pub prints : printed ≡ codes "shortest " ++ decimal (length settings) ++ codes "\n"

-- ---- 4: runs

-- The word is that of a rack's shape, which has the blocks of the batch, and no two transfers of it
-- write one block. The rack begins with the words of the image, or each tells where it stands. In
-- the words that are left each destination has what its source had before, and all else is as it
-- was.
pub record HasMoved (shape : Text) (image : Option (List ℕ)) (batch : List Transfer)
    (left : Store) : Type 0 where
  pub extent : ShapeView
  pub opening : Store
  pub shaped : DenotesShape shape extent
  pub within : All (IsWithin extent) batch
  pub apart : IsApart batch
  pub begins : IsOfImageOrMarked extent image opening
  pub placed : IsPlaced opening batch left

-- The texts say a batch and its schedule, by which it was moved. Printed was the report of that,
-- with the words that it wrote, and nothing else.
pub record HasRunBatch (shape : Text) (scheduled : ScheduleSource Text) (texts : Files (List ℕ))
    (printed : List ℕ) : Type 0 where
  pub transfers : List Transfer
  pub settings : List (List ℕ)
  pub left : Store
  pub said : FilesSaySchedule scheduled texts transfers settings
  pub moved : HasMoved shape texts.image transfers left
  pub prints : printed ≡ report_for scheduled transfers settings left

-- the same of `apply`: printed was the image of all words that are left
pub record HasApplied (shape : Text) (text image printed : List ℕ) : Type 0 where
  pub transfers : List Transfer
  pub left : Store
  pub denotes : Denotes widest text transfers
  pub moved : HasMoved shape (Some image) transfers left
  pub prints : printed ≡ image_of left

-- ---- 5: directions

-- The text is that of moves. Printed was the text of a batch that does them, in their order, and
-- nothing else. A schedule of this batch that has a certificate, as a plan has, has as few settings
-- as any schedule of any batch that does the moves.
pub record HasDirected (text printed : List ℕ) : Type 0 where
  pub moves : List Move
  pub batch : List Transfer
  pub denotes : DenotesMoves text moves
  pub directs : Directs moves batch
  pub fewest : (settings : List (List ℕ)) (named : Naming) → IsCertified batch settings named
      → NoneIsShorter moves (length settings)
  pub says : Denotes widest printed batch

-- ---- 6: switches

-- The rack of a batch is wired as usual; or as a text says, by which the links that the batch needs
-- are on links of the board's one switch.
abbrev pub IsWired : Option (List ℕ) → List Transfer → Option BoardWiring → Type 0
IsWired wiring batch wired =
    (board : Option BoardText) × IsBoardOf wiring board × IsFilled board wired
    × HasWaysOn board batch

-- the switches of a rack, and what is wired to each: that of a board, or two, or one
abbrev pub switches_of : Option BoardWiring → (wide : Bool) → List (Chip × Wiring)
switches_of (Some board) wide = (A, Board board) ∷ []
switches_of None wide = if wide then (A, Forth) ∷ (B, Back) ∷ [] else (A, Both) ∷ []

-- The commands are those of a C004, and none of them asks for a reply. Whatever the switch was,
-- after those for the settings up to each it joins just the pairs of links that this one needs,
-- and is ready. From one setting to the next just the pairs that go are cut, and those that come
-- are joined.
pub record Turn (wiring : Wiring) (batch : List Transfer) (settings : List (List ℕ))
    (commands : ℕ → List Command) : Type 0 where
  pub are : (k : ℕ) → k < length settings → AreCommands (commands k)
  pub quiet : (k : ℕ) → k < length settings → enquiries (commands k) ≡ 0
  pub turn : (switch : Switch) (k : ℕ) → k < length settings
      → after_all (flat_map commands (range_with_len 0 (k + 1))) switch
      ≡ switch_of wiring (setting_pairs batch (numbers_in settings k))
  pub changed : (k : ℕ) → k + 1 < length settings
      → commands (k + 1)
      ≡ change wiring (pairs_at batch settings k) (pairs_at batch settings (k + 1))

-- Printed were, for each setting of a schedule and nothing else, the bytes of such commands for
-- each switch. They are two where that was said, or where the batch names a module that one doesn't
-- join.
pub record HasSwitched (scheduled : ScheduleSource Text) (has_two : Bool) (texts : Files (List ℕ))
    (printed : List ℕ) : Type 0 where
  pub transfers : List Transfer
  pub settings : List (List ℕ)
  pub board : Option BoardWiring
  pub sent : Wiring → ℕ → List Command
  pub said : FilesSaySchedule scheduled texts transfers settings
  pub wired : IsWired texts.wiring transfers board
  pub turned : AllByRecursion (λ one. Turn one.1 transfers settings (sent one.1))
      (switches_of board (has_two || is_wide transfers))
  pub prints : printed ≡ flat_map
      (λ k. lines_on board (has_two || is_wide transfers) k (λ one. sent one k))
      (range_with_len 0 (length settings))

-- On each rack with the blocks of the batch modules can obey all these orders, setting by setting,
-- in whatever order words pass within one; and however they do, they leave there what a run leaves.
abbrev pub MoveAll : RackTold → List Transfer → List (List ℕ) → Type 0
MoveAll told batch settings =
    (opening : Store) → IsWhole opening → FitsIn opening.shape batch
    → ((left : Store) × AreObeyed told batch settings opening left)
    × ((left : Store) → AreObeyed told batch settings opening left → IsPlaced opening batch left)

-- No two transfers of the batch write one block. Printed was the text of the orders for a schedule,
-- and nothing else: those of all modules that have some, or of one alone. Together they move the
-- batch.
pub record HasOrdered (scheduled : ScheduleSource Text) (only : Option ℕ) (texts : Files (List ℕ))
    (printed : List ℕ) : Type 0 where
  pub transfers : List Transfer
  pub settings : List (List ℕ)
  pub said : FilesSaySchedule scheduled texts transfers settings
  pub apart : IsApart transfers
  pub move : MoveAll (told_to None (orders_of transfers settings)) transfers settings
  pub tells : Tells printed (told_to only (orders_of transfers settings))

-- ---- `drive`

-- In what passed the switch was asked all its outputs, and they answered what is wanted. Then it
-- was sent nothing but the end of the sequence. Whatever it was when it was asked, if it answered
-- as a C004 does, it joins what is wanted then.
pub record HasAnswered (chip : Chip) (wanted : Switch) (passed : List Passing) : Type 0 where
  pub before : List Passing
  pub replies : List ℕ
  pub between : List Passing
  pub behind : List Passing
  pub parts : passed
      ≡ before ++ (conversed chip all_enquiries replies
      ++ (between ++ (conversed chip (Settle ∷ []) [] ++ behind)))
  pub all : length replies ≡ PORTS
  pub agree : AllAgree wanted replies
  pub nothing_between : bytes_to chip between ≡ []
  pub nothing_after : bytes_to chip behind ≡ []
  pub joins : (switch : Switch) → replies ≡ answers all_enquiries switch
      → JoinsAs (after_all (all_enquiries ++ Settle ∷ []) switch) wanted

-- after what passed each switch of the rack has answered as the setting calls for
abbrev pub Stands : Option BoardWiring → (wide : Bool) → List Transfer → List (List ℕ) → ℕ
    → List Passing → Type 0
Stands board wide batch settings k passed =
    AllByRecursion
    (λ one. HasAnswered one.0
    (switch_of one.1 (setting_pairs batch (numbers_in settings k))) passed)
    (switches_of board wide)

-- So many settings stood, from the first one on. Each stood after all that had passed for the ones
-- before it, and maybe more.
abbrev pub StoodInTurn : Option BoardWiring → (wide : Bool) → List Transfer → List (List ℕ)
    → (first count : ℕ) → List Passing → Type 0
StoodInTurn board wide batch settings first zero passed = passed ≡ []
StoodInTurn board wide batch settings first (suc n) passed =
    (earlier more : List Passing) × (passed ≡ earlier ++ more)
    × StoodInTurn board wide batch settings first n earlier
    × Stands board wide batch settings (first + n) passed

-- the lines of so many settings, from the first one on
abbrev pub lines_told : List (List ℕ) → (first count : ℕ) → List ℕ
lines_told settings first zero = []
lines_told settings first (suc n) =
    lines_told settings first n ++ driven_line (first + n) (numbers_in settings (first + n))

-- What is first wrong with the texts: a line of the wiring, where one is given; the batch's text;
-- what the batch needs and the board hasn't; the schedule's text, or the schedule; and last that
-- this hasn't the setting with which to begin.
pub data IsFirstWrongOn (from : ScheduleSource (List ℕ)) (text : List ℕ) (wiring : Option (List ℕ))
    (first : ℕ) (refusal : Refusal) : Type 0 where
  wiring_wrong : (fault : WiringFault) → IsMiswired wiring fault → refusal ≡ of_wiring fault
      → IsFirstWrongOn from text wiring first refusal
  lacking : (board : Option BoardText) → IsBoardOf wiring board → IsMissingFor board text refusal
      → IsFirstWrongOn from text wiring first refusal
  texts_wrong : (board : Option BoardText) → IsBoardOf wiring board
      → IsWrongFrom from widest text refusal → MissesNothing board text
      → IsFirstWrongOn from text wiring first refusal
  no_setting : (board : Option BoardText) (batch : List Transfer) (settings : List (List ℕ))
      → IsBoardOf wiring board → SaySchedule from text batch settings → HasWaysOn board batch
      → (IsStart first settings → ⊥) → refusal ≡ NoSetting first
      → IsFirstWrongOn from text wiring first refusal

-- The last line of a drive that ends early, where this setting of so many is next, and this passed
-- after the ones that stood, from the first one on. It couldn't be set, as its port failed or an
-- output answered otherwise; or none was wanted after the one before, or the line for it couldn't
-- be read, and nothing more passed.
abbrev pub IsLastLine : (first next all : ℕ) → List Passing → List ℕ → Type 0
IsLastLine first next all more line =
    ((fault : SettingFault) × (next < all) × (line ≡ stopped_line next (fault_words fault)))
    ⊎ ((k : ℕ) × (first ≤ k) × (k < all) × (next ≡ k + 1) × (more ≡ [])
    × ((line ≡ left_line k) ⊎ (line ≡ stopped_line k (codes "input"))))

-- The schedule has the first setting, or that is 0. The ports of these names were opened, once. A
-- front of what passed over them is that of settings that stood, each with its line, and after
-- these lines stands the last one. With status 0 all settings from the first one on stood, and
-- nothing more passed. A rack that is wired as usual has then two switches where there are two
-- ports, or where the batch needs two; there is a port for each.
pub record HasDriven (w : World) (names : Names) (scheduled : ScheduleSource Text) (first : ℕ)
    (texts : Files (List ℕ)) (printed : List ℕ) : Type 0 where
  pub transfers : List Transfer
  pub settings : List (List ℕ)
  pub board : Option BoardWiring
  pub earlier : List Passing
  pub more : List Passing
  pub count : ℕ
  pub failed : ℕ
  pub line : List ℕ
  pub said : FilesSaySchedule scheduled texts transfers settings
  pub wired : IsWired texts.wiring transfers board
  pub starts : IsStart first settings
  pub opened : w.after ≡ used names (Some (earlier ++ more)) failed w.before
  pub stood : StoodInTurn board (is_wide_over names transfers) transfers settings first count
      earlier
  pub all : w.run.status ≡ DONE
      → (how_many names ≡ length (switches_of board (is_wide_over names transfers)))
      × (first + count ≡ length settings) × (more ≡ []) × (failed ≡ 0)
      × (line ≡ completed_line (length settings))
  pub last : w.run.status ≡ REFUSED → IsLastLine first (first + count) (length settings) more line
  pub prints : printed ≡ lines_told settings first count ++ line

-- Why no port was opened, or handed over: there are no ways to the switches of the batch's rack.
abbrev pub AreNoWays : Names → ScheduleSource Text → Files (List ℕ) → Refusal → Type 0
AreNoWays names scheduled texts refusal =
    (transfers : List Transfer) × (settings : List (List ℕ)) × (board : Option BoardWiring)
    × FilesSaySchedule scheduled texts transfers settings × IsWired texts.wiring transfers board
    × IsUnopened names (length (switches_of board (is_wide_over names transfers))) refusal

-- `c004` was handed what stands on standard input, or the first part of it, and replied to it as a
-- switch of the data sheet does; nothing else was printed.
pub record HasReplied (run : Run) (printed : List ℕ) : Type 0 where
  pub came : List ℕ
  pub rest : List ℕ
  pub told : List ℕ
  pub left : EndState
  pub held : run.holds input_name (came ++ rest)
  pub all : run.status ≡ DONE → rest ≡ []
  pub replied : HasRun (record { switch = idle; begun = [] }) came printed told left

-- ---- 7: pictures

-- the part stands somewhere in the text
abbrev pub IsPartOf : (part text : List ℕ) → Type 0
IsPartOf part text = (front rest : List ℕ) × (text ≡ front ++ (part ++ rest))

-- The title begins with `transfers N, settings S` and `, changes C`, each with what is shown of it.
-- Where it says `the fewest` after the settings, no schedule has fewer: they are `fewest`.
-- Where it says so of the changes, they are as many as `partners`, or as `least`, and no schedule
-- changes the switch less often, or none with as many settings.
pub record IsTitled (batch : List Transfer) (settings : List (List ℕ)) (text : List ℕ)
    : Type 0 where
  pub fewest : ℕ
  pub partners : ℕ
  pub least : ℕ
  pub stands : IsPartOf
      (heading_text (length batch) (length settings) fewest ++ codes ", "
      ++ changes_words (changes batch settings) partners least) text
  pub are_fewest : AreFewest batch fewest
  pub needed : (other : List (List ℕ)) → IsScheduleOf batch other
      → (partners ≤ changes batch other)
      × (length other ≡ length settings → least ≤ changes batch other)

-- no two cells have a part in common: those of two transfers that are shown, or of one
abbrev pub AreCellsApart : List Transfer → List (List ℕ) → ShownSettings → Type 0
AreCellsApart batch settings shown =
    (j i : ℕ) (x : Transfer) (e : End) (l k : ℕ) (y : Transfer) (f : End)
    → IsDrawnAt batch settings shown j i x → IsDrawnAt batch settings shown l k y
    → CellsOverlap batch j x e l y f → (j ≡ l) × (i ≡ k) × (e ≡ f)

-- The texts say a batch and a schedule of it. Printed was a picture with its title, and with a
-- column for each setting that is shown, in which its transfers have their cells; and nothing else
-- than that picture.
pub record HasDrawn (text schedule : List ℕ) (chosen : Option Text) (printed : List ℕ)
    : Type 0 where
  pub transfers : List Transfer
  pub settings : List (List ℕ)
  pub range : Option SettingRange
  pub shown : ShownSettings
  pub read : IsScheduleRead widest text schedule transfers settings
  pub wanted : AreWanted chosen range
  pub are_shown : AreShown range (length settings) shown
  pub titled : IsTitled transfers settings printed
  pub columns : IsPartOf (columns_text transfers settings shown) printed
  pub apart : AreCellsApart transfers settings shown

-- The texts say a batch and a schedule of it. Printed was a table of prices, with how many changes
-- they show, and nothing else. Each schedule of the batch with as many settings has so many.
pub record HasPriced (text schedule printed : List ℕ) : Type 0 where
  pub transfers : List Transfer
  pub settings : List (List ℕ)
  pub read : IsScheduleRead widest text schedule transfers settings
  pub prices : SaysPrices transfers (length settings) printed
  pub needed : AreNeeded transfers (length settings) prices.priced.changes

-- ---- 8: clients

-- a session: its number; its commands, each with its lines and with what it did: those of which it
-- was told, and those after them of which it wasn't; what it was told; what is left of what came;
-- and the fault that ended it, where one did
pub record Session : Type 0 where
  pub number : ℕ
  pub turns : List Turned
  pub held : List Turned
  pub told : List ℕ
  pub rest : List ℕ
  pub fault : Option ServeFault

-- all commands that it did
abbrev pub all_turns : Session → List Turned
all_turns s = s.turns ++ s.held

-- How a session ended, where this of its commands' lines wasn't told, and no command that was done
-- made these entries. By itself: all was told, and all was read, or `bye` was the last command.
-- Where it couldn't be told, an end of its lines is missing, no more than a session holds; without
-- a record, of its last line. Where calls couldn't be recorded, nothing was told of the last
-- commands that were done, whose lines are no more than that, and one more may have fetched a
-- batch, which changes nothing. No command was done after `bye`.
abbrev pub EndsSo : (recorded : Bool) → Session → (untold : List ℕ) → List Entry → Option ServeFault
    → Type 0
EndsSo recorded s untold unseen None =
    (s.held ≡ []) × (untold ≡ []) × (unseen ≡ [])
    × ((GoOn s.turns × (s.rest ≡ [])) ⊎ EndByBye s.turns)
EndsSo recorded s untold unseen (Some Write) =
    (s.held ≡ []) × (unseen ≡ []) × MayEnd s.turns × (length untold ≤ REPLY_BUFFER_BYTES)
    × (recorded ≡ false → IsEndOfLastLine s.turns untold)
EndsSo recorded s untold unseen (Some Record) =
    (recorded ≡ true) × (untold ≡ []) × ((id : ℕ) × IsFetching s.number id unseen)
    × MayEnd (all_turns s)
    × (length (lines_of s.held) ≤ REPLY_BUFFER_BYTES)
EndsSo recorded s untold unseen (Some fault) =
    (s.held ≡ []) × (untold ≡ []) × (unseen ≡ []) × GoOn s.turns

-- Calls, in one order: the words with which their rack began; those of an earlier record, with
-- which sessions began; theirs; whether these are recorded as they are made; the first of them,
-- which stand in that record, or all; and what all lead to.
pub record Calls : Type 0 where
  pub opening : Store
  pub earlier : List Entry
  pub made : List Entry
  pub recorded : Bool
  pub standing : List Entry
  pub left : Machine

abbrev pub all_calls : Calls → List Entry
all_calls calls = calls.earlier ++ calls.made

-- It read what came, where that is known, command by command, and did what each asks for. It was
-- told the lines of what the first of them did, in their order. The calls that have its number are
-- those that its commands made, in their order. Those of which it was told stand in the record.
pub record IsSessionOf (calls : Calls) (came : Option (List ℕ)) (s : Session) : Type 0 where
  pub untold : List ℕ
  pub unseen : List Entry
  pub read : IfSome came (λ text. text ≡ flat_map turn_text (all_turns s) ++ s.rest)
  pub each : AllByRecursion (IsTurn calls.opening.shape s.number) (all_turns s)
  pub lines : lines_of s.turns ≡ s.told ++ untold
  pub entries : own s.number calls.made ≡ added_entries (all_turns s) ++ unseen
  pub stand : IsPrefix (added_entries s.turns) (own s.number calls.standing)
  pub ends : EndsSo calls.recorded s untold unseen s.fault

-- Each answer follows from the calls before it. Just the calls of these sessions stand there after
-- the earlier ones, and the first of them in the record. The progress that a session saw never fell
-- back, was no less than that of the earlier calls, and no more than that of all.
pub record HaveOneOrder (calls : Calls) (sessions : List Session) : Type 0 where
  pub right : AreSeenSteps (opened calls.opening) (all_calls calls) calls.left
  pub no_other : length calls.made ≡ sum_by (λ s. length (own s.number calls.made)) sessions
  pub front : IsPrefix calls.standing calls.made
  pub seen : AllByRecursion
      (λ s. AreReadings (greatest calls.earlier) (greatest (all_calls calls)) (all_turns s))
      sessions

-- The file of this name holds a front of the text: all of it, where it was put in its place, and
-- where all was written it was. Without a name none was opened.
abbrev pub IsKept : (whole : Bool) → Option Text → List ℕ → Option Closed → Type 0
IsKept whole None text file = file ≡ None
IsKept whole (Some name) text None = ⊥
IsKept whole (Some name) text (Some file) =
    (file.name ≡ name) × IsFrontOf text file.bytes
    × (file.durable ≡ true → file.bytes ≡ Some text) × (whole ≡ true → file.durable ≡ true)

-- So are both files: the record of all calls, and the image of the words to which they lead.
abbrev pub AreKept : World → SharedRack → List Text → Calls → Type 0
AreKept w rack names calls =
    IsKept w.whole (recorded_in rack) (whole_record names calls.opening (all_calls calls))
    w.kept.recorded
    × IsKept w.whole rack.image_out (image_of calls.left.store) w.kept.image

-- So they are, and the record of live sessions has all calls that are to stand there. Where it
-- isn't whole, no image was put in its place.
abbrev pub AreToldKept : World → SharedRack → List Text → Calls → Type 0
AreToldKept w rack names calls =
    AreKept w rack names calls
    × IfSome w.kept.recorded (λ file. (rest : List ℕ) × (file.bytes
    ≡ Some (record_of names calls.opening (calls.earlier ++ calls.standing) ++ rest)))
    × (IsKept true (recorded_in rack) (whole_record names calls.opening (all_calls calls))
    w.kept.recorded
    ⊎ IfSome w.kept.image (λ image. image.durable ≡ false))

-- what a session was told, below its heading; where a fault ended it, a line says so after that
abbrev pub told_text : Session → List ℕ
told_text s = heading s.number ++ (s.told ++ end_text s.told s.fault)

-- Each script had its session. Their calls have one order. Printed was what each session was told,
-- in the order of the scripts, and nothing else. The status is 0 where no fault ended one of them.
pub record HasServed (w : World) (rack : SharedRack) (texts : Files (List ℕ)) (printed : List ℕ)
    : Type 0 where
  pub calls : Calls
  pub sessions : List Session
  pub of : IsRackOf rack.shape texts.image calls.opening
  pub numbers : map (λ s. s.number) sessions ≡ range_with_len 0 (length texts.scripts)
  pub each : AllByRecursion (λ s. IsSessionOf calls (slice_get texts.scripts s.number) s) sessions
  pub order : HaveOneOrder calls sessions
  pub no_earlier : calls.earlier ≡ []
  pub unrecorded : calls.recorded ≡ false
  pub whole : calls.standing ≡ calls.made
  pub status : w.run.status ≡ status_at (list_any (λ s. is_some s.fault) sessions)
  pub prints : printed ≡ flat_map told_text sessions
  pub kept : AreKept w rack [] calls

-- a file that was opened is the one of this name, is empty, and wasn't put in its place
abbrev pub IsEmpty : Option Text → Option Closed → Type 0
IsEmpty name file =
    IfSome file (λ file. MatchOption name ⊥ (λ name. file ≡ closed name (Some []) false))

-- The file that was opened for the record of live sessions holds what it held; or what the record
-- tells of the calls with which they began, or of a new one a front of its head.
abbrev pub IsAsItWas : Run → Option RecordFile → List Text → Option Closed → Type 0
IsAsItWas run record_out names file =
    IfSome file (λ file. MatchOption record_out ⊥ (λ out. (held text : List ℕ)
    × run.holds out.name held × (file ≡ closed out.name (Some text) false)
    × ((text ≡ held) ⊎ BeginsRecord out.resumes held names text)))

-- ---- live clients

-- Sessions begin with no calls, or with those that stood whole in the file of their record; without
-- one no call is missing in the end.
abbrev pub GoesOnFrom : Run → Option RecordFile → List Text → Calls → Type 0
GoesOnFrom run record_out names calls =
    BeginsFor run.holds record_out calls.opening names calls.earlier
    × (record_out ≡ None → (calls.recorded ≡ false) × (calls.standing ≡ calls.made))

-- a client's session at a host, and how it ended
pub record Hosted : Type 0 where
  pub its : Session
  pub end : Ending (List ℕ)

-- It had a session with what comes from `NAME.in`. What it was told stands in `NAME.out`, after
-- what that held. Or these couldn't be opened, and it asked nothing.
abbrev pub IsHosted : Calls → Clients → Text → Session → Ending (List ℕ) → Type 0
IsHosted calls clients name s Unopened = own s.number calls.made ≡ []
IsHosted calls clients name s (Served fault holds) =
    IsSessionOf calls (clients.comes (name ++ codes ".in")) s × (s.fault ≡ fault)
    × (holds ≡ clients.had (name ++ codes ".out") ++ s.told)

-- the name of a client by its number
abbrev pub name_at : List Text → ℕ → Text
name_at names k = slice_index_or names k []

-- `session I NAME`, and how it ended, unless it did by itself
abbrev pub hosted_text : List Text → Hosted → List ℕ
hosted_text names h =
    (codes "session " ++ decimal h.its.number ++ codes " " ++ name_at names h.its.number
    ++ codes "\n") ++ ending_line h.end

-- Each client had its session, and just their files were opened, those of each once. Their calls
-- have one order, after those with which they began. Printed was how each ended. The status is 0
-- where each did by itself.
pub record HasHosted (w : World) (rack : SharedRack) (names : List Text) (texts : Files (List ℕ))
    (printed : List ℕ) : Type 0 where
  pub calls : Calls
  pub sessions : List Hosted
  pub of : IsRackOf rack.shape texts.image calls.opening
  pub goes_on : GoesOnFrom w.run rack.record_out names calls
  pub numbers : map (λ h. h.its.number) sessions ≡ range_with_len 0 (length names)
  pub ends : map (λ h. h.end) sessions ≡ w.clients.ends
  pub each : AllByRecursion
      (λ h. IsHosted calls w.clients (name_at names h.its.number) h.its h.end) sessions
  pub order : HaveOneOrder calls (map (λ h. h.its) sessions)
  pub once : w.opened.admitted ≡ names
  pub status : w.run.status ≡ status_at (list_any has_failed w.clients.ends)
  pub prints : printed ≡ flat_map (hosted_text names) sessions
  pub kept : AreToldKept w rack names calls

-- The one client had a session with what comes of standard input. Printed was what it was told; and
-- after that, where a fault ended it, a line says so.
pub record HasTalked (w : World) (rack : SharedRack) (texts : Files (List ℕ)) (printed : List ℕ)
    : Type 0 where
  pub calls : Calls
  pub its : Session
  pub came : List ℕ
  pub of : IsRackOf rack.shape texts.image calls.opening
  pub goes_on : GoesOnFrom w.run rack.record_out [] calls
  pub held : w.run.holds input_name came
  pub number : its.number ≡ 0
  pub is : IsSessionOf calls (Some came) its
  pub order : HaveOneOrder calls (its ∷ [])
  pub status : w.run.status ≡ status_at (is_some its.fault)
  pub prints : printed ≡ its.told ++ line_of_end its.fault
  pub kept : AreToldKept w rack [] calls

-- why no session begins: the rack is wrong, live ones can't go on with their record, or there are
-- no threads
abbrev pub IsNoStart : World → SharedRack → SessionJob → Option (List ℕ) → Refusal → Type 0
IsNoStart w rack (Serve scripts workers) image refusal = IsWrongRack rack.shape image refusal
IsNoStart w rack (Host names workers) image refusal =
    IsWrongStart w.run.holds rack names image refusal ⊎ (refusal ≡ Threads)
IsNoStart w rack Talk image refusal = IsWrongStart w.run.holds rack [] image refusal

-- ---- `replay`

-- The text is the record of sessions on a rack that began with these words: a head that says so,
-- and entries after it, each a call with its answer, which follows from those before it. These are
-- as many as are wanted, or all that stand there whole; and then the record ends, or was torn off.
-- Printed was the image of the words to which they lead, and nothing else.
pub record HasReplayed (shape : Option Text) (text : List ℕ) (image : Option (List ℕ))
    (first : Option ℕ) (printed : List ℕ) : Type 0 where
  pub word : List ℕ
  pub opening : Store
  pub body : List ℕ
  pub limit : ℕ
  pub history : List Entry
  pub left : Machine
  pub rest : List ℕ
  pub of : IsShapeOf shape text word
  pub rack : IsRackOf word image opening
  pub on : IsRecordOn opening text body limit
  pub right : IsRemade limit body opening first history left rest
  pub prints : printed ≡ image_of left.store

-- What is first wrong: the record has no head, by which to know the shape that wasn't given; the
-- shape or the image; the head, which is that of another rack; or an entry, or what stands in its
-- place.
pub data IsFirstWrongReplayed (shape : Option Text) (text : List ℕ) (image : Option (List ℕ))
    (first : Option ℕ) (refusal : Refusal) : Type 0 where
  no_head : shape ≡ None → BeginsWithNoHead text → refusal ≡ RecordHead
      → IsFirstWrongReplayed shape text image first refusal
  rack_wrong : (word : List ℕ) → IsShapeOf shape text word → IsWrongRack word image refusal
      → IsFirstWrongReplayed shape text image first refusal
  other_head : (word : List ℕ) (opening : Store) → IsShapeOf shape text word
      → IsRackOf word image opening → IsNoRecordOn opening text → refusal ≡ RecordHead
      → IsFirstWrongReplayed shape text image first refusal
  entry_wrong : (word body : List ℕ) (opening : Store) (limit : ℕ) (error : RecordError)
      → IsShapeOf shape text word → IsRackOf word image opening
      → IsRecordOn opening text body limit → IsRecordError limit body opening first error
      → refusal ≡ of_record error.fault → IsFirstWrongReplayed shape text image first refusal

-- ---- 9: texts

-- the first two transfers of the batch that write one block
abbrev pub IsFirstOverlapIn : ScheduleSource (List ℕ) → List ℕ → Refusal → Type 0
IsFirstOverlapIn from text refusal =
    (batch : List Transfer) × AreRight from widest text batch × IsOverlapOf batch refusal

-- what is first wrong with the texts of a job
abbrev pub IsFirstWrongIn : TextJob → Files (List ℕ) → Refusal → Type 0
IsFirstWrongIn (Plan file planning workers) texts refusal =
    (fault : BatchFault) × IsFirstFault widest (text_in texts.list) fault
    × (refusal ≡ of_batch fault)
IsFirstWrongIn (Check batch schedule) texts refusal =
    IsFirstWrong widest (text_in texts.list) (text_in texts.schedule) refusal
IsFirstWrongIn (Draw batch schedule chosen) texts refusal =
    IsFirstUndrawn widest (text_in texts.list) (text_in texts.schedule) chosen refusal
IsFirstWrongIn (Prices batch schedule) texts refusal =
    IsInvalid widest (text_in texts.list) (text_in texts.schedule) refusal
IsFirstWrongIn (SwitchJob batch scheduled wiring has_two workers) texts refusal =
    IsFirstWrongOn (source_in scheduled (text_in texts.schedule)) (text_in texts.list)
    texts.wiring 0 refusal
IsFirstWrongIn (Orders batch scheduled only workers) texts refusal =
    IsWrongFrom (source_in scheduled (text_in texts.schedule)) widest (text_in texts.list) refusal
    ⊎ IsFirstOverlapIn (source_in scheduled (text_in texts.schedule)) (text_in texts.list) refusal
IsFirstWrongIn (Direct moves) texts refusal =
    (fault : BatchFault) × IsFirstMovesFault (text_in texts.list) fault
    × (refusal ≡ of_moves fault)
IsFirstWrongIn (Apply shape batch image workers) texts refusal =
    IsFirstRunWrong (source.Plan Plain) shape (text_in texts.list) (Some (text_in texts.schedule))
    refusal
IsFirstWrongIn (RunJob shape batch scheduled image workers) texts refusal =
    IsFirstRunWrong (source_in scheduled (text_in texts.schedule)) shape (text_in texts.list)
    texts.image refusal
IsFirstWrongIn (Replay shape recorded image first) texts refusal =
    IsFirstWrongReplayed shape (text_in texts.list) texts.image first refusal

-- ---- nothing but what is asked for

-- no live client had a session, and no client's files were opened
abbrev pub NoneServed : World → Type 0
NoneServed w = (w.clients.ends ≡ []) × (w.opened.admitted ≡ [])

-- no port was opened, no file for a record or for an image, and no live client had a session
abbrev pub LeavesAll : World → Type 0
LeavesAll w =
    (w.after ≡ w.before) × (w.kept.recorded ≡ None) × (w.kept.image ≡ None) × NoneServed w

-- what a job doesn't ask for stays as it was: only `drive` opens ports, only sessions leave files,
-- and only `host` has live clients
abbrev pub LeavesOthers : World → Job → Type 0
LeavesOthers w (OverPorts (Drive batch port port_b scheduled wiring first goes_on workers)) =
    (w.kept.recorded ≡ None) × (w.kept.image ≡ None) × NoneServed w
LeavesOthers w (Sessions rack (Host names workers)) = w.after ≡ w.before
LeavesOthers w (Sessions rack job) = (w.after ≡ w.before) × NoneServed w
LeavesOthers w job = LeavesAll w

-- the grammar finds that the arguments ask for help, or for the version
abbrev pub AskForHelp : List Text → Type 0
AskForHelp words =
    IsAmong DisplayHelp (faults_of words) ⊎ IsAmong DisplayVersion (faults_of words)

-- The status is 2, and nothing was printed; or there was no memory to say so; or not all could be
-- written.
abbrev pub IsMisused : Run → Type 0
IsMisused run =
    ((run.status ≡ MISUSED) × run.prints [])
    ⊎ (((run.status ≡ REFUSED) × run.prints (codes "refused no memory\n"))
    ⊎ (run.status ≡ UNWRITTEN))

-- where nothing is asked for, nothing was opened, and the status says so, or help was asked for
abbrev pub KeepsNothing : World → Type 0
KeepsNothing w =
    ((request : Request) → AskFor w.run.words request → ⊥)
    → (LeavesAll w × (w.opened.read ≡ []))
    × (IsMisused w.run ⊎ ((w.run.status ≡ DONE) × AskForHelp w.run.words))

-- so it is, without help, where the arguments can't be had as texts
abbrev pub KeepsUnread : World → Type 0
KeepsUnread w = (LeavesAll w × (w.opened.read ≡ [])) × IsMisused w.run

-- ---- each command

-- what came of a job of texts that ended with status 0
abbrev pub IsTextDone : TextJob → Files (List ℕ) → List ℕ → Type 0
IsTextDone (Plan file planning workers) texts printed =
    HasPlanned planning (text_in texts.list) printed
IsTextDone (Check batch schedule) texts printed =
    HasChecked (text_in texts.list) (text_in texts.schedule) printed
IsTextDone (Draw batch schedule chosen) texts printed =
    HasDrawn (text_in texts.list) (text_in texts.schedule) chosen printed
IsTextDone (Prices batch schedule) texts printed =
    HasPriced (text_in texts.list) (text_in texts.schedule) printed
IsTextDone (SwitchJob batch scheduled wiring has_two workers) texts printed =
    HasSwitched scheduled has_two texts printed
IsTextDone (Orders batch scheduled only workers) texts printed =
    HasOrdered scheduled only texts printed
IsTextDone (Direct moves) texts printed = HasDirected (text_in texts.list) printed
IsTextDone (Apply shape batch image workers) texts printed =
    HasApplied shape (text_in texts.list) (text_in texts.schedule) printed
IsTextDone (RunJob shape batch scheduled image workers) texts printed =
    HasRunBatch shape scheduled texts printed
IsTextDone (Replay shape recorded image first) texts printed =
    HasReplayed shape (text_in texts.list) texts.image first printed

-- what came of any job that did
abbrev pub IsDone : World → Job → Files (List ℕ) → List ℕ → Type 0
IsDone w (Texts job) texts printed = IsTextDone job texts printed
IsDone w (OverPorts (Drive batch port port_b scheduled wiring first goes_on workers)) texts
    printed =
    HasDriven w (names_in port port_b) scheduled first texts printed
IsDone w (OverPorts C004) texts printed = HasReplied w.run printed
IsDone w (Sessions rack (Serve scripts workers)) texts printed = HasServed w rack texts printed
IsDone w (Sessions rack (Host names workers)) texts printed = HasHosted w rack names texts printed
IsDone w (Sessions rack Talk) texts printed = HasTalked w rack texts printed

-- what is left where no session began, or where there was no answer
abbrev pub IsUndone : World → Job → Type 0
IsUndone w (Sessions rack (Serve scripts workers)) =
    IsEmpty (recorded_in rack) w.kept.recorded × IsEmpty rack.image_out w.kept.image
IsUndone w (Sessions rack job) =
    IsAsItWas w.run rack.record_out (live_names job) w.kept.recorded
    × IsEmpty rack.image_out w.kept.image × NoneServed w
IsUndone w job = LeavesAll w

-- the same with status 1: what was first wrong, or what had come of it where it ended early
abbrev pub IsRefused : World → Job → Files (List ℕ) → List ℕ → Type 0
IsRefused w (Texts job) texts printed = IsRefusalLine (IsFirstWrongIn job texts) printed
IsRefused w (OverPorts (Drive batch port port_b scheduled wiring first goes_on workers)) texts
    printed =
    HasDriven w (names_in port port_b) scheduled first texts printed
    ⊎ (IsRefusalLine (λ refusal. IsFirstWrongOn (source_in scheduled (text_in texts.schedule))
    (text_in texts.list) texts.wiring first refusal
    ⊎ AreNoWays (names_in port port_b) scheduled texts refusal) printed
    × (w.after ≡ w.before))
IsRefused w (OverPorts C004) texts printed = HasReplied w.run printed
IsRefused w (Sessions rack job) texts printed =
    IsDone w (Sessions rack job) texts printed
    ⊎ (IsRefusalLine (IsNoStart w rack job texts.image) printed × IsUndone w (Sessions rack job))

-- what comes of a job that is asked for; its files are read once at most, and no other is
pub record KeepsJob (w : World) (job : Job) : Type 0 where
  pub done : w.run.status ≡ DONE → Comes w.run job (IsDone w job)
  pub refused : w.run.status ≡ REFUSED
      → Comes w.run job (IsRefused w job) ⊎ (HasGivenUp w.run × IsUndone w job)
  pub used : w.run.status ≢ MISUSED
  pub others : LeavesOthers w job
  pub read : StandAmong w.opened.read (all_files (files_of job))

abbrev pub KeepsJobs : World → Type 0
KeepsJobs w = (job : Job) → AsksFor w.run job → KeepsJob w job

-- ---- all promises

-- Where not all could be written, a front was printed of what such a run prints, and what passed
-- over ports is as there; so it is with the files of sessions, but that the record of live ones has
-- all of which somebody was told.
abbrev pub KeepsFronts : World → (front : List ℕ → Type 0) → Type 0
KeepsFronts w front =
    w.run.status ≡ UNWRITTEN → (other : ℕ) × ((other ≡ DONE) ⊎ (other ≡ REFUSED))
    × KeepsJobs
    (record w { run = record w.run { prints = front; status = other }; whole = false })

-- The files that a job writes were seen to be others than those that it reads, and than each other,
-- as far as it is told where their names lead. Or there was no answer, and nothing is left of it.
abbrev pub KeepsApart : Leading → World → Type 0
KeepsApart leads w =
    (job : Job) → AsksFor w.run job
    → AreSeenApart leads (file_uses job)
    ⊎ ((HasGivenUp w.run ⊎ (w.run.status ≡ UNWRITTEN)) × IsUndone w job)

-- A run of the program keeps them, and its status is 3 at most: it, and where a front was printed.
-- Its arguments ask for one thing at most.
pub record KeepsPromises (leads : Leading) (w : World) (front : List ℕ → Type 0) : Type 0 where
  pub one : AskForOne w.run.words
  pub ends : w.run.status ≤ UNWRITTEN
  pub jobs : KeepsJobs w
  pub apart : KeepsApart leads w
  pub nothing : KeepsNothing w
  pub fronts : KeepsFronts w front
