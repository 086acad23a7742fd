-- How a run ends, and what it leaves and tells. The outcomes and their causes are this project's
-- choice.
use Rattle.std.specs.Prelude.{◌≡◌, ℕ, ◌<◌, ◌≤◌, ◌+◌, ◌*◌, Bool, false, List, ◌++◌, zero, suc}
use Rattle.std.specs.Prelude.{length, map, take, slice_index, All, Contains}
use Rattle.std.specs.List.{concat}
use Rattle.batch.specs.ShapeView.{ShapeView}
use Rattle.batch.specs.declared.transfer.Transfer.{Transfer}
use Rattle.batch.specs.declared.transfer.Place.{Place}
use Rattle.batch.specs.Overlap.{IsApart}
use Rattle.crossbar.specs.Chips.{Switches}
use Rattle.crossbar.specs.Pairs.{AreSwitchesOf}
use Rattle.module_memory.specs.Store.{Store}
use Rattle.module_memory.specs.Bays.{AreBaysOf, AreFound, destinations_of}
use Rattle.module_memory.specs.Core.{FitsIn, IsMoved, IsPlaced, IsReady, setting_of, times}
use Rattle.module_memory.specs.Lending.{BlockAt, RestView, Rejoins, found_in, store_rejoined}
use Rattle.link_graph.specs.Schedules.{IsScheduleOf}
use Rattle.module_memory.specs.Settings.{IsRun, IsStoppedRun, all_words}
use Rattle.setting_runner.specs.declared.outcome.Outcome.{Outcome}
use Rattle.setting_runner.specs.declared.outcome.Outcome.TheVariants.{Completed, Refused, Stopped}
use Rattle.setting_runner.specs.declared.outcome.StopCause.{StopCause}
use Rattle.setting_runner.specs.declared.outcome.StopCause.TheVariants.{Port, SwitchDisagrees, Wire}
use Rattle.switch_settings.specs.Answers.{HasOutput}
use Rattle.switch_settings.specs.Settings.{numbers_in, setting_pairs}

-- the bays of a setting stand after those of the settings before it
abbrev pub HasOwnBays : Store → List BlockAt → List Transfer → List (List ℕ) → ℕ → Type 0
HasOwnBays rest bays batch settings k =
    AreBaysOf rest bays
    (length (concat (take k settings))) (setting_of batch (numbers_in settings k))

-- the switches of a setting, in a rack of this shape
abbrev pub AreSettingSwitches : ShapeView → List Transfer → List (List ℕ) → ℕ → Switches → Type 0
AreSettingSwitches shape batch settings k switches =
    AreSwitchesOf shape.modules (setting_pairs batch (numbers_in settings k)) switches

-- the numbers of transfers with their words
abbrev pub names_of : List (ℕ × ℕ) → List ℕ
names_of moved = map (λ m. m.0) moved

-- the words of transfers with their words
abbrev pub words_of : List (ℕ × ℕ) → List ℕ
words_of moved = map (λ m. m.1) moved

-- ---- before the first setting

-- the blocks that a schedule of a batch writes, setting by setting
abbrev pub destinations_in : List Transfer → List (List ℕ) → List Place
destinations_in batch settings = destinations_of batch (concat settings)

-- the bays of all settings are lent, setting by setting, from a rack that is ready for the batch
pub record IsPrepared (rest : RestView) (bays : List BlockAt) (batch : List Transfer)
    (settings : List (List ℕ)) : Type 0 where
  pub schedule : IsScheduleOf batch settings
  pub ready :
      IsReady (store_rejoined rest.store bays) (store_rejoined rest.store bays) batch
      (concat settings)
  pub own_bays : (k : ℕ) → k < length settings → HasOwnBays rest.store bays batch settings k
  pub rejoins : Rejoins rest.store bays
  -- transfers find what their sources have before the first setting
  pub found : AreFound (found_in rest) (store_rejoined rest.store bays) batch

-- ---- the memories

-- all settings were run, and all blocks are placed
pub record IsCompleted (old : Store) (batch : List Transfer) (settings : List (List ℕ))
    (done words : ℕ) (new : Store) : Type 0 where
  pub all_settings : done ≡ length settings
  pub all_moved : words ≡ length batch * old.shape.words
  pub machine : IsRun old old batch settings new
  pub placed : IsPlaced old batch new

-- the transfers of the settings before one, and its own
abbrev pub up_to : List Transfer → List (List ℕ) → ℕ → List Transfer
up_to batch settings k = setting_of batch (concat (take k settings) ++ numbers_in settings k)

-- The run has stopped in this setting. The settings before it were run, and each transfer of it has
-- moved so many words. The machine has made these steps, and the store is that of the counts.
pub record HasStoppedIn (old : Store) (batch : List Transfer) (settings : List (List ℕ))
    (setting : ℕ) (moved : List (ℕ × ℕ)) (new : Store) : Type 0 where
  pub within : setting < length settings
  pub named : names_of moved ≡ numbers_in settings setting
  pub at_most : All (λ m. m.1 ≤ old.shape.words) moved
  pub steps : List ℕ
  pub counted : (i : ℕ) → i < length moved → times i steps ≡ slice_index (words_of moved) i
  pub machine :
      IsStoppedRun old old batch (take setting settings)
      (numbers_in settings setting) steps new
  pub store :
      IsMoved old (up_to batch settings setting)
      (slice_index (all_words old (take setting settings) ++ words_of moved)) new

abbrev pub LeavesMemories : Store → List Transfer → List (List ℕ) → Outcome → Store → Type 0
LeavesMemories old batch settings (Completed done words) new =
    IsCompleted old batch settings done words new
LeavesMemories old batch settings (Refused refusal) new = new ≡ old
LeavesMemories old batch settings (Stopped setting cause moved) new =
    HasStoppedIn old batch settings setting moved new

-- ---- the causes

-- the transfer is the least of those that have moved fewer words than a block has
pub record IsLeastShort (words transfer : ℕ) (moved : List (ℕ × ℕ)) : Type 0 where
  pub count : ℕ
  pub stands : Contains moved (transfer, count)
  pub short : count < words
  pub least : All (λ m. m.1 < words → transfer ≤ m.0) moved

-- a setting stops because a transfer has moved too few words: this is the least such
abbrev pub IsShortfall : ℕ → List (ℕ × ℕ) → StopCause → Type 0
IsShortfall words moved (Wire transfer) = IsLeastShort words transfer moved
IsShortfall words moved Port = ⊥
IsShortfall words moved (SwitchDisagrees output) = ⊥

-- what is known of a run beside its outcome: whether a cause is the right one is judged by this
pub record RunConditions : Type 1 where
  -- the transfers whose wires never fail
  pub sure : ℕ → Type 0
  -- the shape of the rack
  pub shape : ShapeView
  -- how often the port had failed before the run, and how often it has after it
  pub before : ℕ
  pub after : ℕ
  -- whether the port carries out what it answers Ok to
  pub honest : Bool

-- the port failed, and no word has moved
pub record IsPortCause (given : RunConditions) (moved : List (ℕ × ℕ)) : Type 0 where
  pub failed : given.before < given.after
  pub unmoved : All (λ m. m.1 ≡ 0) moved

-- an output disagreed, at a port that isn't honest and hasn't failed, and no word has moved
pub record IsSwitchCause (given : RunConditions) (output : ℕ) (moved : List (ℕ × ℕ)) : Type 0 where
  pub dishonest : given.honest ≡ false
  pub known : HasOutput given.shape.modules output
  pub unmoved : All (λ m. m.1 ≡ 0) moved
  pub unfailed : given.after ≡ given.before

-- a wire failed: every transfer whose wire never fails has moved all words
pub record IsWireCause (given : RunConditions) (transfer : ℕ) (moved : List (ℕ × ℕ)) : Type 0 where
  pub least : IsLeastShort given.shape.words transfer moved
  pub others : All (λ m. given.sure m.0 → m.1 ≡ given.shape.words) moved
  pub unfailed : given.after ≡ given.before

-- why a setting stops: the port has failed just where it is the cause
abbrev pub IsStopCause : RunConditions → StopCause → List (ℕ × ℕ) → Type 0
IsStopCause given Port moved = IsPortCause given moved
IsStopCause given (SwitchDisagrees output) moved = IsSwitchCause given output moved
IsStopCause given (Wire transfer) moved = IsWireCause given transfer moved

-- a run that stopped has a cause, and the port has failed in no other
abbrev pub HasCause : RunConditions → Outcome → Type 0
HasCause given (Stopped setting cause moved) = IsStopCause given cause moved
HasCause given (Completed settings words) = given.after ≡ given.before
HasCause given (Refused refusal) = given.after ≡ given.before

-- ---- the refusals

-- a transfer names a module or a block that the rack hasn't
abbrev pub IsMisfit : ShapeView → List Transfer → Type 0
IsMisfit shape batch = FitsIn shape batch → ⊥

-- the run is refused
abbrev pub IsRefusedRun : Outcome → Type 0
IsRefusedRun (Refused refusal) = Unit {0}
IsRefusedRun (Completed settings words) = ⊥
IsRefusedRun (Stopped setting cause moved) = ⊥

-- the transfers can be moved on a rack of this shape: no two overlap, and the rack has their blocks
pub record CanMove (shape : ShapeView) (batch : List Transfer) : Type 0 where
  pub apart : IsApart batch
  pub fits : FitsIn shape batch

-- no cause to refuse the run, but there is something to move
pub record RunNeedsMemory (shape : ShapeView) (batch : List Transfer) : Type 0 where
  pub apart : IsApart batch
  pub fits : FitsIn shape batch
  pub some : 0 < length batch

-- ---- the switches

-- the switches of the rack are those of the last setting, or of the setting in which a wire failed
abbrev pub LeavesSwitches : ShapeView → List Transfer → List (List ℕ) → Outcome → Switches → Type 0
LeavesSwitches shape batch settings (Completed done words) switches =
    (k : ℕ) → k + 1 ≡ length settings → AreSettingSwitches shape batch settings k switches
LeavesSwitches shape batch settings (Refused refusal) switches = Unit {0}
LeavesSwitches shape batch settings (Stopped setting cause moved) switches =
    (t : ℕ) → cause ≡ Wire t → AreSettingSwitches shape batch settings setting switches

-- ---- what is told

-- the notice was told 0, then 1, and so on to this number of settings
abbrev pub ToldUpTo : {N : Type 0} → (N → ℕ → N → Type 0) → N → ℕ → N → Type 0
ToldUpTo {N} hears a zero b = hears a 0 b
ToldUpTo {N} hears a (suc k) b = (m : N) × ToldUpTo hears a k m × hears m (suc k) b

-- the notice was told of each setting that was run, in order, and of none where the run was refused
abbrev pub TellsOutcome : {N : Type 0} → (N → ℕ → N → Type 0) → N → Outcome → N → Type 0
TellsOutcome hears a (Completed settings words) b = ToldUpTo hears a settings b
TellsOutcome hears a (Refused refusal) b = b ≡ a
TellsOutcome hears a (Stopped setting cause moved) b = ToldUpTo hears a setting b
