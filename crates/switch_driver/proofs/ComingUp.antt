-- What passes as a switch comes up, part by part.
use Rattle.std.proofs.Common.{◌≡◌, ◌≤◌, ◌+◌, ◌++◌, ◌∷◌, [], ℕ, zero, suc, List, map, Option, ap, ◌∙◌, append_assoc, arith}
use Rattle.std.proofs.lemmas.List.{map-append}
use Rattle.std.proofs.lemmas.List.FromFn.{map-range_with_len_more}
use Rattle.std.specs.List.{range_with_len}
use Rattle.c004_commands.specs.Commands.{AreCommands}
use Rattle.c004_commands.specs.declared.port.TheConstants.{PORTS}
use Rattle.crossbar.specs.Traffic.{heard_byte, heard_from}
use Rattle.crossbar.specs.declared.chip.Chip.{Chip}
use Rattle.crossbar.specs.declared.traffic.Passing.{Passing}
use Rattle.switch_driver.proofs.Streams.{carried_none, carried_then}
use Rattle.switch_driver.specs.Streams.{HasPassed}
use Rattle.switch_driver.specs.ComingUp.{ending, own_answer, own_join, own_joins}
use Rattle.switch_driver.specs.declared.stream.SwitchStream.{SwitchStream}

-- ---- over a stream

pub passed_none : {I O : Type 0} (contents : O → Option (List ℕ)) (remaining : I → Option (List ℕ)) (stream : SwitchStream I O) (before : List Passing)
    → HasPassed contents remaining stream stream before before
passed_none contents remaining stream before = ([], carried_none contents remaining stream before)

pub passed_then : {I O : Type 0} (contents : O → Option (List ℕ)) (remaining : I → Option (List ℕ)) (old mid new : SwitchStream I O)
    (before now after : List Passing) → HasPassed contents remaining old mid before now → HasPassed contents remaining mid new now after
    → HasPassed contents remaining old new before after
passed_then contents remaining old mid new before now after p q = (p.0 ++ q.0, carried_then contents remaining old mid new before now after p.0 q.0 p.1 q.1)

-- ---- what is noted

joins_ports : (a n : ℕ) → a + n ≤ PORTS → AreCommands (map own_join (range_with_len a n))
joins_ports a zero le = tt
joins_ports a (suc n) le = ((omega arith, (omega arith, tt)), joins_ports (a + 1) n (omega (arith, le)))

-- what a switch is sent first
pub waking_ports : AreCommands (ending ++ own_joins)
waking_ports = (tt, (tt, (tt, joins_ports 0 PORTS (omega arith))))

-- one answer more
pub answers_more : (chip : Chip) (start count output : ℕ) → start + count ≡ output → heard_from chip (map own_answer (range_with_len start (count + 1)))
    ≡ heard_from chip (map own_answer (range_with_len start count)) ++ heard_from chip (own_answer output ∷ [])
answers_more chip start count output at =
    ap (heard_from chip) (map-range_with_len_more own_answer start count output at) ∙ map-append (heard_byte chip) (map own_answer (range_with_len start count))
    (own_answer output ∷ [])

-- all parts
pub in_parts : (w0 w1 w2 w3 a b c : List Passing) → w1 ≡ w0 ++ a → w2 ≡ w1 ++ b → w3 ≡ w2 ++ c → w3 ≡ w0 ++ (a ++ (b ++ c))
in_parts w0 w1 w2 w3 a b c e f g = rw (g, f, e) (append_assoc (w0 ++ a) b c ∙ append_assoc w0 a (b ++ c))
