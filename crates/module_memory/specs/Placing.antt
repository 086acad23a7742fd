-- The image that a batch makes of an image. This project's choice.
use Rattle.std.specs.Prelude.{◌≡◌, ℕ, ◌<◌, ◌*◌, List, length, slice_index, All}
use Rattle.batch.specs.ShapeView.{ShapeView}
use Rattle.batch.specs.Overlap.{source_at, destination_at}
use Rattle.batch.specs.Places.{HasPlace, place_index}
use Rattle.batch.specs.declared.transfer.Place.{Place}
use Rattle.batch.specs.declared.transfer.Transfer.{Transfer}
use Rattle.module_memory.specs.Core.{IsPlaced, IsUnwritten}
use Rattle.module_memory.specs.Images.{HasImage, image_of}
use Rattle.module_memory.specs.Store.{Store}

-- the image of the store in which the blocks of the transfers are placed
pub record IsPlacedImage (shape : ShapeView) (image : List ℕ) (ts : List Transfer)
    (placed : List ℕ) : Type 0 where
  pub old : Store
  pub new : Store
  pub is_old : HasImage shape image old
  pub is_new : IsPlaced old ts new
  pub image_is : placed ≡ image_of new

-- of each block of the shape, the number of the block whose words it gets: that of its transfer's
-- source, or its own where no transfer writes it
pub record AreSources (shape : ShapeView) (ts : List Transfer) (sources : List ℕ) : Type 0 where
  pub each : length sources ≡ shape.modules * shape.blocks
  pub known : All (λ k. k < shape.modules * shape.blocks) sources
  pub written : (i : ℕ) → i < length ts
      → slice_index sources (place_index shape (destination_at ts i))
      ≡ place_index shape (source_at ts i)
  pub others : (p : Place) → HasPlace shape p → IsUnwritten ts p
      → slice_index sources (place_index shape p) ≡ place_index shape p
