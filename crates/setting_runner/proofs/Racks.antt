-- A rack that has the blocks of a batch has its modules.
use Rattle.std.proofs.Common.{ℕ, ◌<◌, List}
use Rattle.batch.specs.ShapeView.{ShapeView}
use Rattle.batch.specs.Overlap.{transfer_at}
use Rattle.batch.specs.Places.{HasPlace, source_of, destination_of}
use Rattle.batch.specs.declared.transfer.Kind.{Kind}
use Rattle.batch.specs.declared.transfer.Kind.TheVariants.{Push, Pull}
use Rattle.batch.specs.declared.transfer.Transfer.{Transfer}
use Rattle.module_memory.specs.Core.{FitsIn}
use Rattle.switch_settings.specs.Racks.{HasModulesOf}

names_by : (kind : Kind) (shape : ShapeView) (i b r c : ℕ)
    → HasPlace shape (source_of (record { kind = kind; initiator = i; own_block = b; responder = r; far_block = c }))
    → HasPlace shape (destination_of (record { kind = kind; initiator = i; own_block = b; responder = r; far_block = c })) → (i < shape.modules)
    × (r < shape.modules)
names_by Push shape i b r c source destination = (source.in_modules, destination.in_modules)
names_by Pull shape i b r c source destination = (destination.in_modules, source.in_modules)

pub has_modules : (shape : ShapeView) (batch : List Transfer) → FitsIn shape batch → HasModulesOf shape.modules batch
has_modules shape batch fits t h =
    let x = transfer_at batch t in
    names_by x.kind shape x.initiator x.own_block x.responder x.far_block (fits t h).0 (fits t h).1
