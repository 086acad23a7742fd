-- The text of a batch. The form is this project's choice.
pub use Rattle.batch.specs.Numbers.{IsNumber, IsDigit, IsNumeral, SpellsNumber, BeginsWithNoNumber}
pub use Rattle.batch.specs.Numbers.{number, space, line_feed}
use Rattle.std.specs.Prelude.{ℕ, List, codes}
use Rattle.batch.specs.declared.transfer.Kind.{Kind}
use Rattle.batch.specs.declared.transfer.Kind.TheVariants.{Push, Pull}
use Rattle.batch.specs.declared.transfer.Transfer.{Transfer}
use Rattle.batch.specs.ShapeView.{ShapeView}
use Rattle.batch.specs.Lists as lists
use Rattle.batch.specs.Lists.{Form}
use Rattle.batch.specs.Places.{own_place, far_place}

abbrev pub first_word : Kind → List ℕ
first_word Push = codes "push "
first_word Pull = codes "pull "

-- the form of a batch: the line `batch N`, then N lines `push I b R c` or `pull I b R c`
abbrev pub batch_form : Form Transfer
batch_form =
    record {
      heading = codes "batch ";
      first_word = λ t. first_word t.kind;
      first = own_place;
      second = far_place;
    }

-- the line `batch N`
abbrev pub head : ℕ → List ℕ
head = lists.head batch_form

-- the line `push I b R c` or `pull I b R c`
abbrev pub line : Transfer → List ℕ
line = lists.line batch_form

-- the one text of a list of transfers
abbrev pub batch_text : List Transfer → List ℕ
batch_text = lists.list_text batch_form

-- the shape has the transfer's modules
abbrev pub HasModules : ShapeView → Transfer → Type 0
HasModules = lists.HasModules batch_form

-- the shape has the transfer's modules and blocks
abbrev pub IsWithin : ShapeView → Transfer → Type 0
IsWithin = lists.IsWithin batch_form

-- the text is that of these transfers, which the limit and the shape allow
abbrev pub Denotes : ShapeView → List ℕ → List Transfer → Type 0
Denotes = lists.Denotes batch_form
