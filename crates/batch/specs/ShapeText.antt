-- The text of a shape. The form is this project's choice.
use Rattle.std.specs.Prelude.{◌≡◌, List, ◌++◌, ℕ, codes}
use Rattle.std.specs.Fmt.{decimal}
use Rattle.batch.specs.ShapeView.{ShapeView, IsShape}

-- `MxKxW`
abbrev pub shape_text : ShapeView → List ℕ
shape_text shape =
    decimal shape.modules ++ codes "x" ++ decimal shape.blocks ++ codes "x" ++ decimal shape.words

-- the text of this shape, which is within the limits
pub record DenotesShape (text : List ℕ) (shape : ShapeView) : Type 0 where
  pub spelled : text ≡ shape_text shape
  pub allowed : IsShape shape

-- whatever denotes no shape is a bad one
abbrev pub IsBadShape : List ℕ → Type 0
IsBadShape text = (shape : ShapeView) → DenotesShape text shape → ⊥
