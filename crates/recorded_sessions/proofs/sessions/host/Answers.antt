use Rattle.std.proofs.Common.{Bool, subst, sym}
use Rattle.named_files.specs.Clients.{clients_by, ends_of}
use Rattle.named_files.specs.Contents.{contents_in}
use Rattle.recorded_sessions.specs.Live.{IsHostOver}
use Rattle.recorded_sessions.specs.Answers.{hosting, loses}
use Rattle.recorded_sessions.proofs.Lived.{host_unasked, over_named}
use Rattle.std.specs.Prelude.{◌≡◌, []}
use Rattle.recorded_sessions.specs.Records.{IsCutFromRecord}
use Rattle.command_words.specs.Jobs.{recorded_in}
use Rattle.named_files.proofs.Admitted.{none_admitted}
use Rattle.recorded_sessions.proofs.Served.{admitted_so, host_ending, lived, none_ended, unserved_lived}
use Rattle.recorded_sessions.proofs.sessions.host.Goals as goal

pub returns-in-Err-clause-lived : goal.returns-in-Err-clause-lived
returns-in-Err-clause-lived g c =
    let clients = clients_by (g.S.ClientFiles.says c.args.system.now) (g.S.ClientFiles.had c.args.system.now) c.args.clients.now in
    let before = c.args.endings.now.items in
    let none = none_ended before before c.requires.unserved (λ i. before) in
    unserved_lived (g.S.System.holds c.args.system.now) g.S.System.received c.args.shared.now c.args.clients.now (contents_in c.args.contents.now).image
    (hosting c.args.shared.now clients (ends_of before)) (ends_of before ≡ []) c.in-Err.kept c.in-Err.ensures.unserved (λ p. none) none

pub returns-clause-lived : goal.returns-clause-lived
returns-clause-lived g c =
    let shared = c.args.shared.now in
    let names = c.args.clients.now in
    let clients = clients_by (g.S.ClientFiles.says c.args.system.now) (g.S.ClientFiles.had c.args.system.now) names in
    let after = c.host_from-over.new.endings.items in
    let begun = c.in-Ok.begun.0 in
    let s = c.in-Ok.ensures.started in
    let o = c.host_from-over.ensures.over in
    let over = over_named g.S.Stream.Write.contents (recorded_in shared) names begun o.0 c.host_from-over.result o.1 s.2.front in
    let ended = subst (λ (b : Bool). IsHostOver b begun.book clients c.args.endings.now.items after c.host_from-over.result.end o.0) s.2.stream o.2 in
    lived (g.S.System.holds c.args.system.now) g.S.System.received shared names (contents_in c.args.contents.now).image (hosting shared clients (ends_of after))
    (ends_of after ≡ []) c.host_from-over.result.end begun.book o.0 s.0 c.finish_live.result s.1 s.2.begins c.finish_live.ensures.told
    (c.finish_live.ensures.kept s.0 names begun.book o.0 s.2.begins over (host_unasked (loses shared) begun.book clients c.args.endings.now.items after
    c.host_from-over.result.end o.0 ended))
    (host_ending shared clients c.args.endings.now.items after begun.book o.0 c.host_from-over.result.end c.requires.unserved ended)
    (subst (IsCutFromRecord (g.S.System.holds c.args.system.now) shared.record_out names begun.book) (sym c.finish_live.ensures.cut) s.2.cut)

pub returns-in-Err-clause-admitted : goal.returns-in-Err-clause-admitted
returns-in-Err-clause-admitted g c = none_admitted c.args.clients.now c.args.endings.now.items (g.S.ClientFiles.passes c.args.desk.now) c.requires.unserved
    c.requires.no_passes

pub returns-clause-admitted : goal.returns-clause-admitted
returns-clause-admitted g c =
    let o = c.host_from-over.ensures.over in
    admitted_so _ c.in-Ok.begun.0.book (g.S.ClientFiles.says c.args.system.now) (g.S.ClientFiles.had c.args.system.now) c.args.clients.now
    c.args.endings.now.items c.host_from-over.new.endings.items c.host_from-over.result.end o.0 (g.S.ClientFiles.passes c.host_from-over.new.desk).admitted
    c.requires.unserved o.2 c.host_from-over.ensures.admitted
