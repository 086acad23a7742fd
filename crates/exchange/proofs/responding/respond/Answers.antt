use Rattle.std.proofs.Common.{ℕ, List, Option, refl}
use Rattle.command_words.specs.Jobs.{texts_of}
use Rattle.named_files.specs.Clients.{clients_by, ends_of}
use Rattle.exchange.specs.Ends.{IsEndForArguments, IsEndWithoutArguments, IsLeft, IsNoneLeft, streams_of}
use Rattle.exchange.specs.Responses.{given_by, named_by}
use Rattle.exchange.proofs.Told.{ended, ended_so, ended_status, none_opened_so, none_served}
use Rattle.exchange.proofs.responding.respond.Goals as goal

pub returns-in-Ok-clause-arguments : goal.returns-in-Ok-clause-arguments
returns-in-Ok-clause-arguments g c =
    rw c.in-Ok.is
    (ended c.print_response-end.result.0 _
    (λ (e : Option (List ℕ)) (code : ℕ). IsEndForArguments (named_by (g.S.System.holds c.args.system.now) (g.S.PathLookup.leads c.args.system.now))
    (IsLeft (g.S.System.holds c.args.system.now) g.S.System.received c.print_response-end.result.1 (g.P.Ports.ways c.print_response-end.new.peers.ports)
    (ends_of c.print_response-end.new.peers.endings.items)) (IsNoneLeft c.print_response-end.result.1 (g.P.Ports.ways c.args.peers.now.ports)
    (g.P.Ports.ways c.print_response-end.new.peers.ports) (ends_of c.print_response-end.new.peers.endings.items)) (texts_of c.in-Ok.arguments.items)
    (given_by (g.I.Read.remaining c.args.input.now) (g.P.Ports.ways c.args.peers.now.ports)
    (clients_by (g.S.ClientFiles.says c.args.system.now) (g.S.ClientFiles.had c.args.system.now)))
    (streams_of (g.O.Write.contents c.args.out.now) (g.O.Write.contents c.print_response-end.new.out) (g.E.Write.contents c.args.err.now) e) code) _ _ _
    (rw c.as_slice.ensures.value at c.print_response-end.ensures.done) (rw c.as_slice.ensures.value at c.print_response-end.ensures.cut)
    c.status_of-code.ensures.done c.status_of-code.ensures.unwritten)

pub returns-in-Err-clause-none : goal.returns-in-Err-clause-none
returns-in-Err-clause-none g c =
    rw c.in-Err.is (
      (c.none-receipts.ensures, refl, none_served _ c.requires.unserved),
      ended_so c.print_without_arguments.result _
          (IsEndWithoutArguments (g.O.Write.contents c.args.out.now) (g.O.Write.contents c.print_without_arguments.new.out)) c.print_without_arguments.ensures
          (ended_status c.print_without_arguments.result _ _ c.status_of-code-in-Err.ensures.done) c.status_of-code-in-Err.ensures.unwritten,
    )

pub returns-in-Ok-clause-opened : goal.returns-in-Ok-clause-opened
returns-in-Ok-clause-opened g c = rw c.in-Ok.is (rw c.as_slice.ensures.value at c.print_response-end.ensures.opened)

pub returns-in-Err-clause-unopened : goal.returns-in-Err-clause-unopened
returns-in-Err-clause-unopened g c = rw c.in-Err.is (none_opened_so _ _ c.requires.no_passes c.requires.unread)
