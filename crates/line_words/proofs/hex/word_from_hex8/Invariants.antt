use Rattle.std.proofs.Common.{◌≡◌, ◌<◌, ◌^◌, take}
use Rattle.line_words.specs.HexWords.{hex_digits}
use Rattle.line_words.proofs.hex.word_from_hex8.Given as goal

abbrev pub invariant-loop-digit : goal.invariant-loop-digit
invariant-loop-digit l = (l.word < 16 ^ l.digit-index) × (take l.digit-index l.digits ≡ hex_digits l.digit-index l.word)
