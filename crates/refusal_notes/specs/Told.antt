-- What is told of a refusal.
use Rattle.std.specs.Prelude.{◌≡◌, ℕ, List, ◌++◌, codes}

-- the line on standard error that has these words
abbrev pub line_told : List ℕ → List ℕ
line_told words = codes "exchange: " ++ (words ++ codes "\n")

-- it is a whole line that begins with the program's name
abbrev pub IsWholeLine : List ℕ → Type 0
IsWholeLine line = (words : List ℕ) × (line ≡ line_told words)
