-- A rack that may be a board of its own wiring.
use Rattle.std.specs.Prelude.{ℕ, Bool, Option, Some, None, length}
use Rattle.crossbar.specs.Wired.{links_of}
use Rattle.crossbar.specs.declared.board.BoardWiring.{BoardWiring}
use Rattle.switch_settings.specs.Racks.{joined_by}

-- of how many modules the pairs of a setting may be: so many as the switches join, or the board
-- wires
abbrev pub joined_on : Option BoardWiring → Bool → ℕ
joined_on None wide = joined_by wide
joined_on (Some board) wide = length (links_of board)
