-- The lines of `switch`, one more at a time.
use Rattle.std.proofs.Common.{◌≡◌, ℕ, ◌<◌, ◌+◌, Bool, List, [], ◌++◌, length, get_or, Option, refl, sym, ap, ap₂, ◌∙◌, take, codes}
use Rattle.std.specs.List.{flat_map, range_with_len}
use Rattle.std.proofs.lemmas.List.{take_more, flat_map_more}
use Rattle.batch.specs.declared.transfer.Transfer.{Transfer}
use Rattle.crossbar.specs.declared.board.BoardWiring.{BoardWiring}
use Rattle.crossbar.specs.declared.pair.Pair.{Pair}
use Rattle.switch_settings.specs.Sending.{pairs_at, standing_before, turning}
use Rattle.line_words.specs.HexWords.{hex2}
use Rattle.rack_answers.specs.Switching.{bytes_text, lines_on, turning_lines}
use Rattle.batch.proofs.Lists.{more_parts}

-- one more byte of a line
pub more_bytes : (before : List ℕ) (bytes : List ℕ) (i : ℕ) → i < length bytes → (before ++ bytes_text (take i bytes)) ++ (codes " " ++ hex2 (get_or bytes i 0))
    ≡ before ++ bytes_text (take (i + 1) bytes)
more_bytes before bytes i below =
    flat_map_more (λ byte. codes " " ++ hex2 byte) before (take i bytes) (get_or bytes i 0) ∙ ap (λ (x : List ℕ). before ++ bytes_text x)
    (sym (take_more bytes i 0 below))

-- one more setting
pub more_lines : (board : Option BoardWiring) (wide : Bool) (batch : List Transfer) (settings : List (List ℕ)) (n : ℕ) (known : Option (List Pair))
    (pairs : List Pair) (before after : List ℕ) → known ≡ standing_before batch settings n → pairs ≡ pairs_at batch settings n
    → before ≡ flat_map (turning_lines board wide batch settings) (range_with_len 0 n) → after ≡ before
    ++ lines_on board wide n (λ wiring. turning wiring known pairs) → after ≡ flat_map (turning_lines board wide batch settings) (range_with_len 0 (n + 1))
more_lines board wide batch settings n known pairs before after s p so_far more =
    let lines : lines_on board wide n (λ wiring. turning wiring known pairs) ≡ turning_lines board wide batch settings n = rw (s, p) refl in
    more ∙ ap₂ (λ (x y : List ℕ). x ++ y) so_far lines ∙ more_parts (turning_lines board wide batch settings) [] n
