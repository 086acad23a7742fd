-- What passes over the configuration links where a setting is put on the switches of a rack, and
-- these are asked whether they stand so, step by step. That all outputs are asked, and in which
-- order, is this project's choice.
use Rattle.std.specs.Prelude.{◌≡◌, ◌+◌, ◌⊎◌, ℕ, Bool, true, false, List, [], ◌∷◌, ◌++◌, length, map}
use Rattle.std.specs.Prelude.{nat_lt, Option}
use Rattle.std.specs.List.{range_with_len}
use Rattle.c004_commands.specs.declared.command.Command.{Command}
use Rattle.c004_commands.specs.declared.command.Command.TheVariants.{Enquire, Settle}
use Rattle.c004_commands.specs.declared.port.TheConstants.{PORTS}
use Rattle.crossbar.specs.Pairs.{switch_of}
use Rattle.crossbar.specs.Traffic.{Passes, PassesFront, conversed}
use Rattle.crossbar.specs.declared.chip.Chip.{Chip}
use Rattle.crossbar.specs.declared.chip.Chip.TheVariants.{A, B}
use Rattle.crossbar.specs.declared.chip.Wiring.{Wiring}
use Rattle.crossbar.specs.declared.chip.Wiring.TheVariants.{Both, Forth, Back}
use Rattle.crossbar.specs.declared.pair.Pair.{Pair}
use Rattle.crossbar.specs.declared.switch.TheConstants.{JOINED_MODULES}
use Rattle.crossbar.specs.declared.traffic.Passing.{Passing}
use Rattle.switch_settings.specs.Answers.{AllAgree, Disagrees}
use Rattle.switch_settings.specs.Pairs.{all_enquiries}
use Rattle.switch_settings.specs.Sending.{turning}
use Rattle.switch_settings.specs.declared.fault.Disagreement.{Disagreement}
use Rattle.switch_settings.specs.declared.fault.SettingFault.{SettingFault}
use Rattle.switch_settings.specs.declared.fault.SettingFault.TheVariants.{Port, Switch}

-- a switch is sent what turns it from the pairs that stand, where they are known, to the pairs
abbrev pub turned : Chip → Wiring → Option (List Pair) → List Pair → List Passing
turned chip wiring standing pairs = conversed chip (turning wiring standing pairs) []

-- a switch is asked all its outputs, one after another, and replies this
abbrev pub asked : Chip → List ℕ → List Passing
asked chip replies = conversed chip all_enquiries replies

-- ---- the replies of a switch

-- a switch was asked all its outputs, and this is so of what they replied
pub record HasReplied (chip : Chip) (judged : List ℕ → Type 0) (old new : Option (List Passing))
    : Type 0 where
  pub replies : List ℕ
  pub all : length replies ≡ PORTS
  pub are : judged replies
  pub passed : Passes old new (asked chip replies)

-- enquiries of the first outputs, so many, in order
abbrev pub first_enquiries : ℕ → List Command
first_enquiries count = map Enquire (range_with_len 0 count)

-- a switch was asked up to the first output that didn't reply what the pairs call for
pub record HasDisagreed (found : Disagreement) (chip : Chip) (wiring : Wiring) (pairs : List Pair)
    (old new : Option (List Passing)) : Type 0 where
  pub replies : List ℕ
  pub all : length replies ≡ found.output + 1
  pub are : Disagrees found chip (switch_of wiring pairs) replies
  pub passed : Passes old new (conversed chip (first_enquiries (found.output + 1)) replies)

-- a switch that was asked output by output didn't reply so: an output disagrees, or the port failed
abbrev pub IsUnanswered : SettingFault → Chip → Wiring → List Pair → Option (List Passing)
    → Option (List Passing) → Type 0
IsUnanswered Port chip wiring pairs old new = PassesFront chip all_enquiries old new
IsUnanswered (Switch found) chip wiring pairs old new =
    HasDisagreed found chip wiring pairs old new

-- ---- one step after another

-- What is done with a switch to which this is wired: it is turned; it is asked all outputs, which
-- may reply anything, or reply what the pairs call for, or of which this is the first that doesn't;
-- it is sent the end of the sequence.
pub data Step : Type 0 where
  turn : Chip → Wiring → Step
  hear : Chip → Wiring → Step
  ask : Chip → Wiring → Step
  miss : Disagreement → Chip → Wiring → Step
  settle : Chip → Wiring → Step

-- the step was done, from the pairs that stand, where they are known, to the pairs
abbrev pub IsDone : Option (List Pair) → List Pair → Step → Option (List Passing)
    → Option (List Passing) → Type 0
IsDone standing pairs (turn chip wiring) old new =
    Passes old new (turned chip wiring standing pairs)
IsDone standing pairs (hear chip wiring) old new = HasReplied chip (λ replies. Unit {0}) old new
IsDone standing pairs (ask chip wiring) old new =
    HasReplied chip (AllAgree (switch_of wiring pairs)) old new
IsDone standing pairs (miss found chip wiring) old new =
    HasReplied chip (Disagrees found chip (switch_of wiring pairs)) old new
IsDone standing pairs (settle chip wiring) old new =
    Passes old new (conversed chip (Settle ∷ []) [])

-- these were done, one after another, and nothing else passed
abbrev pub AreDone : Option (List Pair) → List Pair → List Step → Option (List Passing)
    → Option (List Passing) → Type 0
AreDone standing pairs [] old new = new ≡ old
AreDone standing pairs (step ∷ steps) old new =
    (mid : Option (List Passing)) × IsDone standing pairs step old mid
    × AreDone standing pairs steps mid new

-- it broke off for this cause: the port failed, or the switch that was asked disagrees
abbrev pub Breaks : SettingFault → Option (List Pair) → List Pair → Step → Option (List Passing)
    → Option (List Passing) → Type 0
Breaks Port standing pairs (turn chip wiring) old new =
    PassesFront chip (turning wiring standing pairs) old new
Breaks (Switch found) standing pairs (turn chip wiring) old new = ⊥
Breaks Port standing pairs (hear chip wiring) old new = PassesFront chip all_enquiries old new
Breaks (Switch found) standing pairs (hear chip wiring) old new = ⊥
Breaks fault standing pairs (ask chip wiring) old new =
    IsUnanswered fault chip wiring pairs old new
Breaks fault standing pairs (miss found chip wiring) old new = ⊥
Breaks Port standing pairs (settle chip wiring) old new = PassesFront chip (Settle ∷ []) old new
Breaks (Switch found) standing pairs (settle chip wiring) old new = ⊥

-- one of these broke off for this cause, and those before it were done
abbrev pub BreakOff : SettingFault → Option (List Pair) → List Pair → List Step
    → Option (List Passing) → Option (List Passing) → Type 0
BreakOff fault standing pairs [] old new = ⊥
BreakOff fault standing pairs (step ∷ steps) old new =
    Breaks fault standing pairs step old new
    ⊎ ((mid : Option (List Passing)) × IsDone standing pairs step old mid
    × BreakOff fault standing pairs steps mid new)

-- ---- the switches of a rack

-- the switches of a rack, and what is wired to them: one alone, or two
abbrev pub wirings : Bool → List (Chip × Wiring)
wirings false = (A, Both) ∷ []
wirings true = (A, Forth) ∷ (B, Back) ∷ []

-- what is done with each of these, in order
abbrev pub each : (Chip → Wiring → Step) → List (Chip × Wiring) → List Step
each step switches = map (λ switch. step switch.0 switch.1) switches

-- each is turned, and then each is asked
abbrev pub asked_steps : List (Chip × Wiring) → List Step
asked_steps switches = each turn switches ++ each ask switches

-- ---- a setting of a run

-- each was turned and asked, and replied as the pairs call for
abbrev pub HaveReplied : ℕ → Option (List Pair) → List Pair → Option (List Passing)
    → Option (List Passing) → Type 0
HaveReplied modules standing pairs old new =
    AreDone standing pairs (asked_steps (wirings (nat_lt JOINED_MODULES modules))) old new

-- What passed where they couldn't be set for this cause. The port failed, before both were judged.
-- Or each was asked all outputs, and then one didn't reply so; the first is judged first.
abbrev pub HasPassedFor : Bool → SettingFault → Option (List Pair) → List Pair
    → Option (List Passing) → Option (List Passing) → Type 0
HasPassedFor wide Port standing pairs old new =
    BreakOff Port standing pairs (each turn (wirings wide) ++ each hear (wirings wide)) old new
HasPassedFor false (Switch found) standing pairs old new =
    AreDone standing pairs (turn A Both ∷ miss found A Both ∷ []) old new
HasPassedFor true (Switch found) standing pairs old new =
    AreDone standing pairs (turn A Forth ∷ turn B Back ∷ miss found A Forth ∷ hear B Back ∷ []) old
    new
    ⊎ AreDone standing pairs (turn A Forth ∷ turn B Back ∷ ask A Forth ∷ miss found B Back ∷ []) old
    new

-- the same in a rack of so many modules
abbrev pub HavePassedFor : ℕ → SettingFault → Option (List Pair) → List Pair
    → Option (List Passing) → Option (List Passing) → Type 0
HavePassedFor modules fault standing pairs old new =
    HasPassedFor (nat_lt JOINED_MODULES modules) fault standing pairs old new
