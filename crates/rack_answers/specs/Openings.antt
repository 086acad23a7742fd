-- The rack that a command begins with, and what can be wrong with its image. That a rack without an
-- image has marked words or zeros is this project's choice.
use Rattle.std.specs.Prelude.{◌≡◌, ℕ, List, length, Option, Some, None, ⊤}
use Rattle.batch.specs.ShapeView.{ShapeView}
use Rattle.batch.specs.ShapeText.{DenotesShape, IsBadShape}
use Rattle.module_memory.specs.declared.fault.ImageFault.{ImageFault}
use Rattle.module_memory.specs.declared.fault.ImageFault.TheVariants.{Length, NoMemory}
use Rattle.module_memory.specs.Store.{Store, zeros_of}
use Rattle.module_memory.specs.Mark.{IsMarked}
use Rattle.module_memory.specs.Images.{HasImage, IsImageFault, image_length}
use Rattle.refusals.specs.declared.refusal.Refusal.{Refusal}
use Rattle.refusals.specs.declared.refusal.Refusal.TheVariants.{Shape}
use Rattle.refusals.specs.Sources.{of_image}

-- the store of the image, where there is one; else each word tells where it stands
abbrev pub IsOfImageOrMarked : ShapeView → Option (List ℕ) → Store → Type 0
IsOfImageOrMarked extent None s = IsMarked (zeros_of extent) s
IsOfImageOrMarked extent (Some image) s = HasImage extent image s

-- the store of the image, where there is one; else all words are 0
abbrev pub IsOfImageOrZeros : ShapeView → Option (List ℕ) → Store → Type 0
IsOfImageOrZeros extent None s = s ≡ zeros_of extent
IsOfImageOrZeros extent (Some image) s = HasImage extent image s

-- what is wrong with the image: it hasn't as many bytes as those of the shape
abbrev pub IsWrongImage : ShapeView → Option (List ℕ) → ImageFault → Type 0
IsWrongImage extent None fault = ⊥
IsWrongImage extent (Some image) (Length is wanted) = IsImageFault extent image (Length is wanted)
IsWrongImage extent (Some image) NoMemory = ⊥

-- nothing is wrong with it
abbrev pub IsRightImage : ShapeView → Option (List ℕ) → Type 0
IsRightImage extent None = ⊤
IsRightImage extent (Some image) = length image ≡ image_length extent

-- a rack of the shape that the text denotes, whose words are those of the image or, where there is
-- none, 0
pub record IsRackOf (shape : List ℕ) (image : Option (List ℕ)) (rack : Store) : Type 0 where
  pub extent : ShapeView
  pub shape_read : DenotesShape shape extent
  pub words : IsOfImageOrZeros extent image rack

-- why there is none: the text denotes no shape, or else the image is wrong
pub data IsWrongRack (shape : List ℕ) (image : Option (List ℕ)) (refusal : Refusal) : Type 0 where
  shape_wrong : IsBadShape shape → refusal ≡ Shape → IsWrongRack shape image refusal
  image_wrong : (extent : ShapeView) (fault : ImageFault) → DenotesShape shape extent
      → IsWrongImage extent image fault → refusal ≡ of_image fault
      → IsWrongRack shape image refusal
