use Rattle.module_memory.proofs.Images.{images_are_whole, words_are_in_images, one_imaged}
use Rattle.module_memory.proofs.laws.images.Goals as goal

pub returns-clause-whole : goal.returns-clause-whole
returns-clause-whole c = images_are_whole

pub returns-clause-words : goal.returns-clause-words
returns-clause-words c = words_are_in_images

pub returns-clause-one : goal.returns-clause-one
returns-clause-one c = one_imaged
