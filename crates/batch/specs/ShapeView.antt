-- The shape of a rack, as contracts see it. The limits are this project's choice.
use Rattle.std.specs.Prelude.{ℕ, ◌≤◌}
use Rattle.batch.specs.declared.limits.TheConstants.{MAX_MODULES, MAX_BLOCKS, MAX_WORDS}

-- the modules of a rack, the blocks of each module and the words of each block
pub record ShapeView : Type 0 where
  pub modules : ℕ
  pub blocks : ℕ
  pub words : ℕ

abbrev pub extent : ℕ → ℕ → ℕ → ShapeView
extent modules blocks words = record { modules = modules; blocks = blocks; words = words }

-- there is something of each, and not too much
pub record IsShape (shape : ShapeView) : Type 0 where
  pub some_module : 1 ≤ shape.modules
  pub few_modules : shape.modules ≤ MAX_MODULES
  pub some_block : 1 ≤ shape.blocks
  pub few_blocks : shape.blocks ≤ MAX_BLOCKS
  pub some_word : 1 ≤ shape.words
  pub few_words : shape.words ≤ MAX_WORDS

-- the widest shape that there is
abbrev pub widest : ShapeView
widest = extent MAX_MODULES MAX_BLOCKS MAX_WORDS
