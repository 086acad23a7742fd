-- The lines of refusals. The texts are this project's choice.
use Rattle.std.specs.Prelude.{ℕ, List, ◌++◌, codes}
use Rattle.std.specs.Fmt.{decimal}
use Rattle.link_graph.specs.declared.link.Link.{Link}
use Rattle.link_graph.specs.ScheduleText.{end_number}
use Rattle.module_memory.specs.declared.fault.MemoryFault.{MemoryFault}
use Rattle.module_memory.specs.declared.fault.MemoryFault.TheVariants as memory_fault
use Rattle.refusals.specs.declared.refusal.PortName.{PortName}
use Rattle.refusals.specs.declared.refusal.PortName.TheVariants as port_name
use Rattle.refusals.specs.declared.refusal.Refusal.{Refusal}
use Rattle.refusals.specs.declared.refusal.Refusal.TheVariants as refusal

-- two numbers, with a space between them
abbrev pub two_numbers : ℕ → ℕ → List ℕ
two_numbers n m = decimal n ++ (codes " " ++ decimal m)

-- a link, by the number of its end and its module
abbrev pub link_words : Link → List ℕ
link_words link =
    codes " link " ++ (decimal (end_number link.end) ++ (codes " module " ++ decimal link.«module»))

-- why there is no word at an address
abbrev pub memory_words : MemoryFault → List ℕ
memory_words memory_fault.NoModule = codes "memory no module"
memory_words memory_fault.Misaligned = codes "memory misaligned"
memory_words memory_fault.Outside = codes "memory outside"

-- which port it is
abbrev pub port_words : PortName → List ℕ
port_words port_name.A = codes "port a"
port_words port_name.B = codes "port b"

-- what stands after `refused `
abbrev pub refusal_words : Refusal → List ℕ
refusal_words (refusal.BatchLine n) = codes "batch line " ++ decimal n
refusal_words (refusal.MovesLine n) = codes "moves line " ++ decimal n
refusal_words refusal.TooMany = codes "too many"
refusal_words (refusal.NoModule t) = codes "no module " ++ decimal t
refusal_words (refusal.NoLink t) = codes "no link " ++ decimal t
refusal_words (refusal.NoBlock t) = codes "no block " ++ decimal t
refusal_words refusal.Count = codes "count"
refusal_words refusal.Settings = codes "settings"
refusal_words (refusal.ScheduleLine n) = codes "schedule line " ++ decimal n
refusal_words (refusal.WiringLine n) = codes "wiring line " ++ decimal n
refusal_words refusal.NoCertificate = codes "no certificate"
refusal_words (refusal.CheckUnknown t) = codes "check unknown " ++ decimal t
refusal_words (refusal.CheckRepeated t) = codes "check repeated " ++ decimal t
refusal_words (refusal.CheckMissing t) = codes "check missing " ++ decimal t
refusal_words (refusal.CheckClash k link) = codes "check clash " ++ (decimal k ++ link_words link)
refusal_words (refusal.CheckWrongLink t) = codes "check wrong link " ++ decimal t
refusal_words (refusal.CheckCertificateRepeats t) = codes "check certificate repeats " ++ decimal t
refusal_words (refusal.CheckNotTight s u) = codes "check not tight " ++ two_numbers s u
refusal_words (refusal.NoSetting k) = codes "no setting " ++ decimal k
refusal_words refusal.Shape = codes "shape"
refusal_words (refusal.Image is wanted) = codes "image " ++ two_numbers is wanted
refusal_words (refusal.Overlap i j) = codes "overlap " ++ two_numbers i j
refusal_words refusal.RecordHead = codes "record head"
refusal_words (refusal.RecordSum e) = codes "record sum " ++ decimal e
refusal_words (refusal.RecordCall e) = codes "record call " ++ decimal e
refusal_words (refusal.RecordReply e) = codes "record reply " ++ decimal e
refusal_words refusal.RecordMore = codes "record more"
refusal_words refusal.File = codes "file"
refusal_words (refusal.Ports wanted) = codes "ports " ++ decimal wanted
refusal_words (refusal.Port name) = port_words name
refusal_words refusal.Threads = codes "threads"
refusal_words refusal.Line = codes "line"
refusal_words refusal.Unknown = codes "unknown"
refusal_words refusal.Unplanned = codes "unplanned"
refusal_words refusal.Stranger = codes "stranger"
refusal_words refusal.Already = codes "already"
refusal_words (refusal.Memory fault) = memory_words fault
refusal_words refusal.BookFull = codes "book full"
refusal_words refusal.HistoryFull = codes "history full"
refusal_words refusal.NoMemory = codes "no memory"

-- the line that is printed
abbrev pub refusal_line : Refusal → List ℕ
refusal_line refusal = codes "refused " ++ (refusal_words refusal ++ codes "\n")
