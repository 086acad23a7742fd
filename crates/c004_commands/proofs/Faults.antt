-- A byte with which a text goes on is no fault.
use Rattle.std.proofs.Common.{◌≡◌, ◌<◌, ◌≤◌, ◌||◌, ℕ, zero, suc, List, [], ◌∷◌, ◌++◌, length, get_or, drop, refl, sym, ap, ◌∙◌, append_assoc, append-nil, arith, cond, eqb, length-append, subst}
use Rattle.std.proofs.Math.Seq.{get_or-append_seam}
use Rattle.c004_commands.specs.Commands.{row, text, ArePorts, HasPorts, AreCommands, IsCommandFront, Spells}
use Rattle.c004_commands.specs.Faults.{IsFault}
use Rattle.c004_commands.specs.declared.port.TheConstants.{PORTS}
use Rattle.c004_commands.specs.declared.command.Command.{Command}
use Rattle.c004_commands.specs.declared.command.Command.TheVariants.{Connect, Join, Enquire, Settle, Reset, Cut, CutPair}
use Rattle.c004_commands.specs.declared.reader.CommandFault.{CommandFault}
use Rattle.c004_commands.specs.declared.reader.CommandFault.TheVariants.{UnknownCommand, BadPort}
use Rattle.c004_commands.proofs.Readings.{longer_text, AreCommands-back}

-- how many bytes a command has, by its first
abbrev width : List ℕ → ℕ
width [] = 0
width (byte ∷ bytes) = cond (eqb byte 2 || eqb byte 5) 2 (cond (eqb byte 3 || eqb byte 4) 1 3)

width-row : (c : Command) (x : List ℕ) → width (row c ++ x) ≡ length (row c)
width-row (Connect a b) x = refl
width-row (Join a b) x = refl
width-row (Enquire a) x = refl
width-row Settle x = refl
width-row Reset x = refl
width-row (Cut a) x = refl
width-row (CutPair a b) x = refl

-- a row begins with a byte up to 6, and its other bytes are those that are asked to be ports
row_is : (c : Command) → (first : ℕ) × (first ≤ 6) × (row c ≡ first ∷ drop 1 (row c))
row_is (Connect a b) = (0, omega arith, refl)
row_is (Join a b) = (1, omega arith, refl)
row_is (Enquire a) = (2, omega arith, refl)
row_is Settle = (3, omega arith, refl)
row_is Reset = (4, omega arith, refl)
row_is (Cut a) = (5, omega arith, refl)
row_is (CutPair a b) = (6, omega arith, refl)

port_at : (ports x : List ℕ) (j : ℕ) → ArePorts ports → j < length ports → get_or (ports ++ x) j 0 < PORTS
port_at [] x j p h = absurd (omega arith)
port_at (a ∷ ports) x zero p h = p.0
port_at (a ∷ ports) x (suc j) p h = port_at ports x j p.1 (omega arith)

-- bytes that begin a text begin with a command, or go on to one
record Begins (bytes : List ℕ) : Type 0 where
  command : Command
  ports : HasPorts command
  behind : List ℕ
  more : List ℕ
  row_begins : row command ++ behind ≡ bytes ++ more

begins : (commands : List Command) (bytes left : List ℕ) → AreCommands commands → IsCommandFront left → bytes ≡ text commands ++ left → Begins bytes
begins [] bytes left a r e = record {
  command = r.command;
  ports = r.ports;
  behind = [];
  more = r.next ∷ r.more;
  row_begins = append-nil (row r.command) ∙ r.row_is ∙ ap (λ t. t ++ r.next ∷ r.more) (sym e);
}
begins (c ∷ cs) bytes left a r e = record {
  command = c;
  ports = a.0;
  behind = text cs ++ left;
  more = [];
  row_begins = sym (append_assoc (row c) (text cs) left) ∙ sym e ∙ sym (append-nil bytes);
}

begins_low : (byte : ℕ) (more : List ℕ) → Begins (byte ∷ more) → byte ≤ 6
begins_low byte more b =
    let first = row_is b.command in
    let same : byte ≡ first.0 = sym (ap (λ t. get_or t 0 0) (ap (λ t. t ++ b.behind) (sym first.2) ∙ b.row_begins)) in
    omega (arith, first.1)

-- inside a command a port is due
port_due : (first : ℕ) (rest : List ℕ) (byte : ℕ) (more : List ℕ) → IsCommandFront (first ∷ rest) → Begins ((first ∷ rest) ++ byte ∷ more) → byte < PORTS
port_due first rest byte more r b =
    let ports = drop 1 (row b.command) in
    let split : row b.command ≡ (row_is b.command).0 ∷ ports = (row_is b.command).2 in
    let one : width (row b.command ++ b.behind) ≡ width (first ∷ []) = ap width b.row_begins in
    let two : width (row r.command ++ []) ≡ width (first ∷ []) = ap width (append-nil (row r.command) ∙ r.row_is) in
    let same : length (row b.command) ≡ length (row r.command) = sym (width-row b.command b.behind) ∙ one ∙ sym two ∙ width-row r.command [] in
    let inside : length rest < length ports = omega (arith, ap length split, ap length r.row_is, length-append (first ∷ rest) (r.next ∷ r.more)) in
    let here : get_or (ports ++ b.behind) (length rest) 0 ≡ byte =
    ap (λ t. get_or (t ++ b.behind) (suc (length rest)) 0) (sym split) ∙ ap (λ t. get_or t (suc (length rest)) 0)
    (b.row_begins ∙ append_assoc (first ∷ rest) (byte ∷ more) b.more)
    ∙ get_or-append_seam rest byte (more ++ b.more) 0 in
    let low = port_at ports b.behind (length rest) b.ports inside in
    omega arith

no_fault : (fault : CommandFault) (rest : List ℕ) (byte : ℕ) (more : List ℕ) → IsCommandFront rest → Begins (rest ++ byte ∷ more) → IsFault rest byte fault → ⊥
no_fault (UnknownCommand _) [] byte more r b f = let low = begins_low byte more b in omega (arith, f.1)
no_fault (UnknownCommand _) (first ∷ rest) byte more r b f = let empty : first ∷ rest ≡ [] = f.0 in cc
no_fault (BadPort _) [] byte more r b f = f.0 refl
no_fault (BadPort _) (first ∷ rest) byte more r b f = let low = port_due first rest byte more r b in omega (arith, f.1)

-- where a text goes on with a byte to a text of commands, the byte is no fault
pub not_fault : (fault : CommandFault) (bytes more left rest : List ℕ) (byte : ℕ) (commands others : List Command) → Spells bytes commands rest
    → Spells (bytes ++ byte ∷ more) others left → IsFault rest byte fault → ⊥
not_fault fault bytes more left rest byte commands others s t f =
    let on = longer_text bytes (byte ∷ more) commands others rest left s t in
    let ports : AreCommands (commands ++ on.later) = subst AreCommands on.others_are t.ports in
    no_fault fault rest byte more s.partial (begins on.later (rest ++ byte ∷ more) left (AreCommands-back commands on.later ports) t.partial on.bytes_are) f
