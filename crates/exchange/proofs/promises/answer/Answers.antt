use Rattle.std.proofs.Common.{refl}
use Rattle.std.specs.Io.KnownBytes.{Appends}
use Rattle.std.specs.Process.{exit_status}
use Rattle.command_words.specs.Jobs.{texts_of}
use Rattle.named_files.specs.Clients.{clients_by, ends_of}
use Rattle.named_files.specs.Notes.{IsToldInPart}
use Rattle.exchange.specs.Ends.{IsCutFor, IsLeft, IsNoneLeft, leaving, streams_of}
use Rattle.exchange.specs.Opened.{AreOpenedFor, files_opened}
use Rattle.exchange.specs.Promises.{KeepsPromises, clients_of, saved_by, run_of, world_of}
use Rattle.exchange.specs.Responses.{given_by, named_by}
use Rattle.exchange.proofs.AskedJobs.{kept}
use Rattle.exchange.proofs.KeptPromises.{keeps_in_part, keeps_promises}
use Rattle.exchange.proofs.PromisedOthers.{keeps_unread}
use Rattle.exchange.proofs.promises.answer.Goals as goal

pub returns-clause-arguments : goal.returns-clause-arguments
returns-clause-arguments g c =
    let holds = g.S.System.holds c.args.system.now in
    let named = named_by holds (g.S.PathLookup.leads c.args.system.now) in
    let received = g.S.System.received in
    let receipts = c.respond.result.receipts in
    let was = g.P.Ports.ways c.args.peers.now.ports in
    let ways = g.P.Ports.ways c.respond.new.peers.ports in
    let comes = g.S.ClientFiles.says c.args.system.now in
    let had = g.S.ClientFiles.had c.args.system.now in
    let endings = c.respond.new.peers.endings.items in
    let input = g.I.Read.remaining c.args.input.now in
    let before = g.O.Write.contents c.args.out.now in
    let after = g.O.Write.contents c.respond.new.out in
    let code = exit_status c.respond.result.code in
    let given = given_by input was (clients_by comes had) in
    let opened = files_opened (g.S.ClientFiles.passes c.respond.new.peers.desk) (g.S.System.were_read c.respond.new.peers.reads) in
    kept (λ w. AreOpenedFor (texts_of w.items) (ends_of endings) opened) (λ w. IsCutFor named (leaving holds received receipts was ways (ends_of endings)) (texts_of w.items) given before after)
    (λ w. KeepsPromises named.leads (world_of (run_of holds input (Appends before after) (texts_of w.items) code) was ways (saved_by received receipts)
    (clients_of comes had endings) opened) (IsToldInPart before after)) c.args.arguments (λ w. texts_of w.items) named
    (IsLeft holds received receipts ways (ends_of endings)) (IsNoneLeft receipts was ways (ends_of endings)) given
    (streams_of before after (g.E.Write.contents c.args.err.now) (g.E.Write.contents c.respond.new.err)) code
    (λ w ends its. keeps_promises _ ways received receipts comes had endings opened its refl (λ job response is. is.1) (λ job response is. (is.0, is.2)) (λ none. none) ends)
    (λ w unwritten cut its. keeps_in_part (texts_of w.items) named ways given before after code received receipts comes had endings opened its refl unwritten
    cut)
    c.respond.ensures.arguments c.respond.ensures.opened

pub returns-clause-none : goal.returns-clause-none
returns-clause-none g c =
    keeps_unread g.S.System.received c.respond.result.receipts (g.S.ClientFiles.says c.args.system.now) (g.S.ClientFiles.had c.args.system.now)
    c.respond.new.peers.endings.items (files_opened (g.S.ClientFiles.passes c.respond.new.peers.desk) (g.S.System.were_read c.respond.new.peers.reads))
    (g.P.Ports.ways c.respond.new.peers.ports) c.args.arguments (g.S.System.holds c.args.system.now)
    (g.I.Read.remaining c.args.input.now)
    (g.O.Write.contents c.args.out.now) (g.O.Write.contents c.respond.new.out) (g.P.Ports.ways c.args.peers.now.ports) (exit_status c.respond.result.code)
    c.respond.ensures.none c.respond.ensures.unopened
