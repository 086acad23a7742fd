-- The text of a board's wiring. The form is this project's choice.
use Rattle.std.specs.Prelude.{◌≡◌, ◌≤◌, ℕ, List, [], ◌∷◌, ◌++◌, length, codes, IsTrue, Option, None}
use Rattle.std.specs.Prelude.{Some}
use Rattle.std.specs.List.{flat_map}
use Rattle.batch.specs.Text.{number, space, line_feed}
use Rattle.board_wiring.specs.Modules.{are_wired}
use Rattle.board_wiring.specs.declared.wired_module.WiredModule.{WiredModule}

-- the line `wiring N`
abbrev pub head : ℕ → List ℕ
head count = codes "wiring " ++ number count line_feed

-- where a link of a module is, and the byte after it: `at A`, or `none`
abbrev pub place : Option ℕ → ℕ → List ℕ
place (Some link) end = codes "at " ++ number link end
place None end = codes "none" ++ end ∷ []

-- what stands after the number of a module: `link 0 at A link 3 at B`
abbrev pub links : WiredModule → List ℕ
links on =
    codes "link 0 " ++ (place on.link0 space
    ++ (codes "link 3 " ++ place on.link3 line_feed))

-- the line `module M link 0 at A link 3 at B`
abbrev pub line : WiredModule → List ℕ
line on = codes "module " ++ (number on.number space ++ links on)

-- the lines of modules
abbrev pub lines_of : List WiredModule → List ℕ
lines_of modules = flat_map line modules

-- the one text of a wiring
abbrev pub wiring_text : List WiredModule → List ℕ
wiring_text modules = head (length modules) ++ lines_of modules

-- the text is that of this wiring, of one module at least
pub record Denotes (text : List ℕ) (modules : List WiredModule) : Type 0 where
  pub spelled : text ≡ wiring_text modules
  pub some : 1 ≤ length modules
  pub wired : IsTrue (are_wired modules)
