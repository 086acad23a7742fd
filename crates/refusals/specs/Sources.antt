-- Which refusal a fault is.
use Rattle.batch.specs.declared.fault.BatchFault.{BatchFault}
use Rattle.batch.specs.declared.fault.BatchFault.TheVariants as batch_fault
use Rattle.link_graph.specs.declared.schedule_fault.ScheduleFault.{ScheduleFault}
use Rattle.link_graph.specs.declared.schedule_fault.ScheduleFault.TheVariants as schedule_fault
use Rattle.link_graph.specs.declared.check_fault.CheckFault.{CheckFault}
use Rattle.link_graph.specs.declared.check_fault.CheckFault.TheVariants as check_fault
use Rattle.module_memory.specs.declared.fault.ImageFault.{ImageFault}
use Rattle.module_memory.specs.declared.fault.ImageFault.TheVariants as image_fault
use Rattle.refusals.specs.declared.refusal.Refusal.{Refusal}
use Rattle.refusals.specs.declared.refusal.Refusal.TheVariants as refusal

-- that of a batch text's fault
abbrev pub of_batch : BatchFault → Refusal
of_batch (batch_fault.Line n) = refusal.BatchLine n
of_batch batch_fault.TooMany = refusal.TooMany
of_batch (batch_fault.NoModule t) = refusal.NoModule t
of_batch (batch_fault.NoBlock t) = refusal.NoBlock t
of_batch batch_fault.Count = refusal.Count
of_batch batch_fault.NoMemory = refusal.NoMemory

-- that of a schedule text's fault
abbrev pub of_schedule : ScheduleFault → Refusal
of_schedule (schedule_fault.Line n) = refusal.ScheduleLine n
of_schedule schedule_fault.NoMemory = refusal.NoMemory

-- that of the checker's fault
abbrev pub of_check : CheckFault → Refusal
of_check (check_fault.Unknown t) = refusal.CheckUnknown t
of_check (check_fault.Repeated t) = refusal.CheckRepeated t
of_check (check_fault.Missing t) = refusal.CheckMissing t
of_check (check_fault.Clash k link) = refusal.CheckClash k link
of_check (check_fault.WrongLink t) = refusal.CheckWrongLink t
of_check (check_fault.CertificateRepeats t) = refusal.CheckCertificateRepeats t
of_check (check_fault.NotTight s u) = refusal.CheckNotTight s u
of_check check_fault.NoMemory = refusal.NoMemory

-- that of an image's fault
abbrev pub of_image : ImageFault → Refusal
of_image (image_fault.Length is wanted) = refusal.Image is wanted
of_image image_fault.NoMemory = refusal.NoMemory
