use Rattle.std.proofs.Common.{◌≡◌, ◌++◌, take}
use Rattle.rack_answers.specs.Switching.{bytes_text}
use Rattle.rack_answers.proofs.switching.push_bytes.Given as goal

abbrev pub invariant-loop-byte : goal.invariant-loop-byte
invariant-loop-byte l = l.text.items ≡ l.fn.text.items ++ bytes_text (take l.byte-index l.bytes)
