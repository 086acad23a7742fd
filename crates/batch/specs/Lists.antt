-- Texts that list things: a line that counts them, then a line for each, which names two places of
-- a rack. The form is this project's choice.
use Rattle.std.specs.Prelude.{◌≡◌, ℕ, ◌<◌, ◌≤◌, List, ◌++◌, length, All}
use Rattle.std.specs.List.{flat_map}
use Rattle.batch.specs.declared.limits.TheConstants.{MAX_TRANSFERS}
use Rattle.batch.specs.declared.transfer.Place.{Place}
use Rattle.batch.specs.ShapeView.{ShapeView}
use Rattle.batch.specs.Numbers.{number, space, line_feed}

-- how things are listed: what stands before their count, what the line of each begins with, and the
-- two places that it names
pub record Form (Thing : Type 0) : Type 0 where
  pub heading : List ℕ
  pub first_word : Thing → List ℕ
  pub first : Thing → Place
  pub second : Thing → Place

-- the numbers of a place, and the byte that ends them
abbrev pub place_text : Place → ℕ → List ℕ
place_text p end = number p.«module» space ++ number p.block end

module _ {Thing : Type 0} (form : Form Thing) where
  -- the line that counts so many things
  abbrev pub head : ℕ → List ℕ
  head n = form.heading ++ number n line_feed

  -- the line of a thing: its word and four numbers
  abbrev pub line : Thing → List ℕ
  line x =
      form.first_word x ++ place_text (form.first x) space
      ++ place_text (form.second x) line_feed

  -- the one text of these things
  abbrev pub list_text : List Thing → List ℕ
  list_text xs = head (length xs) ++ flat_map line xs

  -- the shape has the modules that a thing names
  abbrev pub HasModules : ShapeView → Thing → Type 0
  HasModules shape x =
      ((form.first x).«module» < shape.modules) × ((form.second x).«module» < shape.modules)

  -- the shape has the blocks that it names
  abbrev pub HasBlocks : ShapeView → Thing → Type 0
  HasBlocks shape x =
      ((form.first x).block < shape.blocks) × ((form.second x).block < shape.blocks)

  -- the shape has both
  abbrev pub IsWithin : ShapeView → Thing → Type 0
  IsWithin shape x = HasModules shape x × HasBlocks shape x

  -- the text is that of these things, which the limit and the shape allow
  pub record Denotes (shape : ShapeView) (text : List ℕ) (xs : List Thing) : Type 0 where
    pub spelled : text ≡ list_text xs
    pub few : length xs ≤ MAX_TRANSFERS
    pub within : All (IsWithin shape) xs
