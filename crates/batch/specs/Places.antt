-- Where a transfer reads and where it writes, and the blocks of a shape. This project's choice of
-- two kinds over peek and poke.
use Rattle.std.specs.Prelude.{ℕ, ◌<◌, ◌+◌, ◌*◌}
use Rattle.batch.specs.declared.transfer.Kind.TheVariants.{Push, Pull}
use Rattle.batch.specs.declared.transfer.Kind.{Kind}
use Rattle.batch.specs.declared.transfer.Place.{Place}
use Rattle.batch.specs.declared.transfer.Transfer.{Transfer}
use Rattle.batch.specs.ShapeView.{ShapeView}

-- the initiator's block
abbrev pub own_place : Transfer → Place
own_place t = record { «module» = t.initiator; block = t.own_block }

-- the responder's block
abbrev pub far_place : Transfer → Place
far_place t = record { «module» = t.responder; block = t.far_block }

-- the one for a push, the other for a pull
abbrev pub by_kind : Kind → Place → Place → Place
by_kind Push of_push of_pull = of_push
by_kind Pull of_push of_pull = of_pull

-- a push reads the initiator's block, a pull the responder's
abbrev pub source_of : Transfer → Place
source_of t = by_kind t.kind (own_place t) (far_place t)

-- a push writes the responder's block, a pull the initiator's
abbrev pub destination_of : Transfer → Place
destination_of t = by_kind t.kind (far_place t) (own_place t)

-- the shape has the block
pub record HasPlace (shape : ShapeView) (p : Place) : Type 0 where
  pub in_modules : p.«module» < shape.modules
  pub in_blocks : p.block < shape.blocks

-- where a block stands among all blocks of the shape, by module and then by block
abbrev pub place_index : ShapeView → Place → ℕ
place_index shape p = p.«module» * shape.blocks + p.block
