-- What calls over a state of the caller's tell, and leave.
use Rattle.std.specs.Prelude.{◌≡◌, ℕ, List, Bool, true, false, Option, Some, None, Result, Ok, Err}
use Rattle.link_devices.specs.BootTaking.{EndTakesByte}
use Rattle.link_devices.specs.declared.boot_fault.BootFault.{BootFault}
use Rattle.link_devices.specs.declared.boot_fault.BootFault.TheVariants.{NoEnd, Refused}
use Rattle.link_devices.specs.declared.boot_state.BootState.{BootState}
use Rattle.exchange_c.specs.declared.status.TheConstants.{REPLY, BOOTSTRAP, MISALIGNED, OUTSIDE}
use Rattle.exchange_c.specs.declared.status.TheConstants.{FAILED, LOOSE, NO_PORT, NO_STATE}
use Rattle.peek_poke.specs.declared.fault.AnswerFault.TheVariants.{Boot, Misaligned, Outside}
use Rattle.peek_poke.specs.declared.fault.AnswerFault.TheVariants.{Failed}
use Rattle.plan_answers.specs.declared.limits.TheConstants.{DONE, REFUSED}
use Rattle.link_devices.specs.Asking.{AnswersSource, AnswersJoined}
use Rattle.link_devices.specs.SwitchTaking.{SwitchTakesByte}
use Rattle.link_devices.specs.declared.switch_fault.AskFault.{AskFault}
use Rattle.link_devices.specs.declared.switch_fault.AskFault.TheVariants.{NoPort}
use Rattle.link_devices.specs.declared.switch_fault.AskFault.TheVariants.{NoSwitch as NoSwitchAsked}
use Rattle.link_devices.specs.declared.switch_fault.TakeFault.{TakeFault}
use Rattle.link_devices.specs.declared.switch_fault.TakeFault.TheVariants.{NoSwitch, Byte}
use Rattle.link_devices.specs.declared.switch_state.SwitchState.{SwitchState}

-- what a reply is left as: what is due, or as it was
abbrev pub reply_left : {T E : Type 0} → Result (Option T) E → T → T
reply_left (Ok (Some reply)) before = reply
reply_left (Ok None) before = before
reply_left (Err fault) before = before

-- ---- a switch

-- the status of what a switch makes of a byte
abbrev pub taken_status : Result (Option ℕ) TakeFault → ℕ
taken_status (Ok None) = DONE
taken_status (Ok (Some reply)) = REPLY
taken_status (Err (Byte fault)) = REFUSED
taken_status (Err NoSwitch) = NO_STATE

-- the state takes a byte, and its reply, if one is due, is left
pub record TakesByte (old : SwitchState) (byte status : ℕ) (new : SwitchState) (before left : ℕ)
    : Type 0 where
  pub taken : Result (Option ℕ) TakeFault
  pub takes : SwitchTakesByte old byte taken new
  pub its_status : status ≡ taken_status taken
  pub its_reply : left ≡ reply_left taken before

-- what is told of a fault in place of an answer
abbrev pub fault_code : AskFault → ℕ
fault_code NoPort = NO_PORT
fault_code NoSwitchAsked = NO_STATE

-- the number of the input, or what is told where there is none
abbrev pub source_code : Result (Option ℕ) AskFault → ℕ
source_code (Ok (Some input)) = input
source_code (Ok None) = LOOSE
source_code (Err fault) = fault_code fault

-- the input that feeds an output is told
pub record TellsSource (state : SwitchState) (output told : ℕ) : Type 0 where
  pub source : Result (Option ℕ) AskFault
  pub is_source : AnswersSource state output source
  pub code : told ≡ source_code source

-- 1 or 0, or what is told of a fault
abbrev pub joined_code : Result Bool AskFault → ℕ
joined_code (Ok true) = 1
joined_code (Ok false) = 0
joined_code (Err fault) = fault_code fault

-- it is told whether the state joins two links
pub record TellsJoined (state : SwitchState) (link other told : ℕ) : Type 0 where
  pub joined : Result Bool AskFault
  pub are_joined : AnswersJoined state link other joined
  pub code : told ≡ joined_code joined

-- ---- the end of a link

-- the status of a fault
abbrev pub fault_status : BootFault → ℕ
fault_status NoEnd = NO_STATE
fault_status (Refused (Boot control)) = BOOTSTRAP
fault_status (Refused Misaligned) = MISALIGNED
fault_status (Refused Outside) = OUTSIDE
fault_status (Refused Failed) = FAILED

-- the status of what an end makes of a byte
abbrev pub fed_status : Result (Option (List ℕ)) BootFault → ℕ
fed_status (Ok None) = DONE
fed_status (Ok (Some reply)) = REPLY
fed_status (Err fault) = fault_status fault

-- the end takes a byte over a memory, and its reply, if one is due, is left
pub record FeedsByte (base : ℕ) (old : BootState) (memory : List ℕ) (byte status : ℕ)
    (new : BootState) (after before left : List ℕ) : Type 0 where
  pub fed : Result (Option (List ℕ)) BootFault
  pub feeds : EndTakesByte base old memory byte fed new after
  pub its_status : status ≡ fed_status fed
  pub its_reply : left ≡ reply_left fed before
