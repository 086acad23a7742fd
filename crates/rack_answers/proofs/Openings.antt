-- The rack that a command begins with.
use Rattle.std.proofs.Common.{◌≡◌, ◌≢◌, ℕ, ◌*◌, List, Option, Some, None, length, replicate, refl, ap, ap₂, sym, ◌∙◌, subst}
use Rattle.std.proofs.lemmas.List.{length-replicate}
use Rattle.batch.specs.ShapeView.{ShapeView, IsShape}
use Rattle.module_memory.specs.declared.fault.ImageFault.{ImageFault}
use Rattle.module_memory.specs.declared.fault.ImageFault.TheVariants.{Length, NoMemory}
use Rattle.module_memory.specs.Store.{Store, HasAllBlocks, zeros_of}
use Rattle.module_memory.specs.Images.{IsImageFault, image_length}
use Rattle.module_memory.proofs.Blocks.{all_blocks}
use Rattle.module_memory.proofs.Images.{images_are_whole, one_imaged}
use Rattle.module_memory.proofs.Marking.{one_marked}
use Rattle.rack_answers.specs.Openings.{IsOfImageOrMarked, IsOfImageOrZeros, IsRackOf, IsRightImage, IsWrongImage}

zeros_blocks : (extent : ShapeView) → IsShape extent → HasAllBlocks (zeros_of extent)
zeros_blocks extent valid = (valid, length-replicate (extent.modules * extent.blocks) (replicate extent.words 0))

-- there is one such rack, and it has all its blocks
pub one_opening : (extent : ShapeView) (image : Option (List ℕ)) (a b : Store) → IsShape extent → IsOfImageOrMarked extent image a
    → IsOfImageOrMarked extent image b → a ≡ b
one_opening extent None a b valid ha hb = one_marked (zeros_of extent) a b (zeros_blocks extent valid) ha hb
one_opening extent (Some bytes) a b valid ha hb = one_imaged extent bytes a b ha hb

pub opening_blocks : (extent : ShapeView) (image : Option (List ℕ)) (a : Store) → IsShape extent → IsOfImageOrMarked extent image a → HasAllBlocks a
opening_blocks extent None a valid h =
    let begun = zeros_blocks extent valid in
    (subst IsShape (sym h.same_shape) begun.0, h.same_length ∙ begun.1 ∙ ap (λ (x : ShapeView). x.modules * x.blocks) (sym h.same_shape))
opening_blocks extent (Some bytes) a valid h = all_blocks a h.whole

-- its shape
pub opening_shape : (extent : ShapeView) (image : Option (List ℕ)) (a : Store) → IsOfImageOrMarked extent image a → a.shape ≡ extent
opening_shape extent None a h = h.same_shape
opening_shape extent (Some bytes) a h = h.same_shape

-- an image of which there is a rack has nothing wrong
pub right_image : (extent : ShapeView) (image : Option (List ℕ)) (a : Store) → IsOfImageOrMarked extent image a → IsRightImage extent image
right_image extent None a h = tt
right_image extent (Some bytes) a h = ap (length {A = ℕ}) (sym h.image_is) ∙ images_are_whole a h.whole ∙ ap image_length h.same_shape

pub not_wrong : (extent : ShapeView) (image : Option (List ℕ)) (fault : ImageFault) → IsRightImage extent image → IsWrongImage extent image fault → ⊥
not_wrong extent None fault right wrong = wrong
not_wrong extent (Some bytes) (Length is wanted) right wrong = wrong.2 (wrong.0 ∙ right ∙ sym wrong.1)
not_wrong extent (Some bytes) NoMemory right wrong = wrong

pub one_wrong : (extent : ShapeView) (image : Option (List ℕ)) (f g : ImageFault) → IsWrongImage extent image f → IsWrongImage extent image g → f ≡ g
one_wrong extent None f g a b = absurd a
one_wrong extent (Some bytes) (Length m n) (Length k l) a b = ap₂ Length (a.0 ∙ sym b.0) (a.1 ∙ sym b.1)
one_wrong extent (Some bytes) (Length m n) NoMemory a b = absurd b
one_wrong extent (Some bytes) NoMemory g a b = absurd a

-- what is wrong with an image, want of memory aside
pub image_fault_is : (extent : ShapeView) (bytes : List ℕ) (fault : ImageFault) → IsImageFault extent bytes fault → fault ≢ NoMemory
    → IsWrongImage extent (Some bytes) fault
image_fault_is extent bytes (Length is wanted) found known = found
image_fault_is extent bytes NoMemory found known = known refl

-- ---- a rack whose words are those of an image, or 0

words_blocks : (extent : ShapeView) (image : Option (List ℕ)) (a : Store) → IsShape extent → IsOfImageOrZeros extent image a → HasAllBlocks a
words_blocks extent None a valid x = subst HasAllBlocks (sym x) (zeros_blocks extent valid)
words_blocks extent (Some bytes) a valid x = opening_blocks extent (Some bytes) a valid x

pub rack_blocks : (shape : List ℕ) (image : Option (List ℕ)) (a : Store) → IsRackOf shape image a → HasAllBlocks a
rack_blocks shape image a x = words_blocks x.extent image a x.shape_read.allowed x.words
