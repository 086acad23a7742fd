-- What a reader has begun is less than a whole command.
use Rattle.std.proofs.Common.{[], ◌∷◌, refl, lit<}
use Rattle.c004_commands.specs.Commands.{IsCommandFront}
use Rattle.c004_commands.specs.Reader.{begun_bytes, HasBegunPorts}
use Rattle.c004_commands.specs.declared.command.Command.TheVariants as command
use Rattle.c004_commands.specs.declared.reader.PartialCommand.{PartialCommand}
use Rattle.c004_commands.specs.declared.reader.PartialCommand.TheVariants.{Nothing, Connect, ConnectFrom, Join, JoinOf, Enquire, Cut, CutPair, CutPairOf}

pub begun_is_rest : (begun : PartialCommand) → HasBegunPorts begun → IsCommandFront (begun_bytes begun)
begun_is_rest Nothing h = record { command = command.Settle; ports = tt; next = 3; more = []; row_is = refl }
begun_is_rest Connect h = record { command = command.Connect 0 0; ports = (lit< tt, (lit< tt, tt)); next = 0; more = 0 ∷ []; row_is = refl }
begun_is_rest (ConnectFrom input) h = record { command = command.Connect input 0; ports = (h.0, (lit< tt, tt)); next = 0; more = []; row_is = refl }
begun_is_rest Join h = record { command = command.Join 0 0; ports = (lit< tt, (lit< tt, tt)); next = 0; more = 0 ∷ []; row_is = refl }
begun_is_rest (JoinOf link1) h = record { command = command.Join link1 0; ports = (h.0, (lit< tt, tt)); next = 0; more = []; row_is = refl }
begun_is_rest Enquire h = record { command = command.Enquire 0; ports = (lit< tt, tt); next = 0; more = []; row_is = refl }
begun_is_rest Cut h = record { command = command.Cut 0; ports = (lit< tt, tt); next = 0; more = []; row_is = refl }
begun_is_rest CutPair h = record { command = command.CutPair 0 0; ports = (lit< tt, (lit< tt, tt)); next = 0; more = 0 ∷ []; row_is = refl }
begun_is_rest (CutPairOf link1) h = record { command = command.CutPair link1 0; ports = (h.0, (lit< tt, tt)); next = 0; more = []; row_is = refl }
