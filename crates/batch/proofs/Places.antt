-- Blocks of a shape, by where they stand.
use Rattle.std.proofs.Common.{ℕ, ◌≡◌, ◌<◌, ◌*◌, ◌/◌, ◌%◌, ap₂, arith, div-add-mod'}
use Rattle.std.proofs.lemmas.Nat.{same_from_place, mul-add-lt, div_below, mod_below}
use Rattle.batch.specs.ShapeView.{ShapeView, IsShape}
use Rattle.batch.specs.declared.transfer.Place.{Place}
use Rattle.batch.specs.declared.transfer.Transfer.{Transfer}
use Rattle.batch.specs.declared.transfer.Kind.{Kind}
use Rattle.batch.specs.declared.transfer.Kind.TheVariants.{Push, Pull}
use Rattle.batch.specs.Text.{IsWithin}
use Rattle.batch.specs.Places.{HasPlace, place_index, source_of, destination_of}

-- a place is its two numbers
pub place_from_parts : (p q : Place) → p.«module» ≡ q.«module» → p.block ≡ q.block → p ≡ q
place_from_parts p q e f =
    let make : ℕ → ℕ → Place = λ m b. record { «module» = m; block = b } in ap₂ make e f

-- two blocks of a shape stand apart
pub same_place_from_index : (s : ShapeView) (p q : Place) → HasPlace s p → HasPlace s q → place_index s p ≡ place_index s q → p ≡ q
same_place_from_index s p q hp hq e =
    let parts = same_from_place p.«module» p.block q.«module» q.block s.blocks hp.in_blocks hq.in_blocks e in
    place_from_parts p q parts.0 parts.1

pub place_index_below : (s : ShapeView) (p : Place) → HasPlace s p → place_index s p < s.modules * s.blocks
place_index_below s p h = omega (arith, mul-add-lt p.«module» s.blocks p.block s.modules h.in_modules h.in_blocks)

-- the block at an index
abbrev pub place_at : ShapeView → ℕ → Place
place_at s k = record { «module» = k / s.blocks; block = k % s.blocks }

pub place_index-place_at : (s : ShapeView) (k : ℕ) → place_index s (place_at s k) ≡ k
place_index-place_at s k = div-add-mod' k s.blocks

pub HasPlace-place_at : (s : ShapeView) (k : ℕ) → IsShape s → k < s.modules * s.blocks → HasPlace s (place_at s k)
HasPlace-place_at s k h l = record {
  in_modules = div_below k s.blocks s.modules (omega arith) l;
  in_blocks = mod_below k s.blocks (omega arith);
}

-- a transfer within a shape has its blocks there
by_kind_within : (s : ShapeView) (k : Kind) (i o r f : ℕ) → let t : Transfer = record {
  kind = k;
  initiator = i;
  own_block = o;
  responder = r;
  far_block =
      f;
} in IsWithin s t → HasPlace s (source_of t) × HasPlace s (destination_of t)
by_kind_within s Push i o r f w = (record { in_modules = w.0.0; in_blocks = w.1.0 }, record { in_modules = w.0.1; in_blocks = w.1.1 })
by_kind_within s Pull i o r f w = (record { in_modules = w.0.1; in_blocks = w.1.1 }, record { in_modules = w.0.0; in_blocks = w.1.0 })

pub places_within : (s : ShapeView) (t : Transfer) → IsWithin s t → HasPlace s (source_of t) × HasPlace s (destination_of t)
places_within s t w = by_kind_within s t.kind t.initiator t.own_block t.responder t.far_block w
