use Rattle.std.proofs.Common.{Bool, refl, subst, sym}
use Rattle.std.proofs.KnownBytes.{Appends-nil}
use Rattle.std.specs.Prelude.{◌≡◌, []}
use Rattle.named_files.specs.Contents.{contents_in}
use Rattle.recorded_sessions.specs.Live.{IsTalkOver}
use Rattle.recorded_sessions.specs.Records.{IsCutFromRecord}
use Rattle.recorded_sessions.specs.Answers.{loses, talking}
use Rattle.recorded_sessions.proofs.Lived.{talk_unasked, over_named}
use Rattle.command_words.specs.Jobs.{recorded_in}
use Rattle.client_session.proofs.Listening.{tells_nothing}
use Rattle.recorded_sessions.proofs.Served.{lived, talk_ending, unserved_lived}
use Rattle.recorded_sessions.proofs.sessions.talk.Goals as goal

pub returns-in-Err-clause-session : goal.returns-in-Err-clause-session
returns-in-Err-clause-session g c =
    let old = g.I.Read.remaining c.args.input.now in (
      [],
      Appends-nil _,
      unserved_lived (g.S.System.holds c.args.system.now) g.S.System.received c.args.shared.now [] (contents_in c.args.contents.now).image
          (talking c.args.shared.now old old []) ([] ≡ []) c.in-Err.kept c.in-Err.ensures.unserved (λ p. (refl, refl)) refl,
    )

pub returns-in-Err-clause-beside : goal.returns-in-Err-clause-beside
returns-in-Err-clause-beside g c = tells_nothing _

pub returns-clause-session : goal.returns-clause-session
returns-clause-session g c =
    let shared = c.args.shared.now in
    let old = g.I.Read.remaining c.args.input.now in
    let rest = g.I.Read.remaining c.talk_from-over.new.input in
    let begun = c.in-Ok.begun.0 in
    let s = c.in-Ok.ensures.started in
    let o = c.talk_from-over.ensures.session in
    let over = over_named g.S.Stream.Write.contents (recorded_in shared) [] begun o.1 c.talk_from-over.result o.3 s.2.front in
    let ended = subst (λ (b : Bool). IsTalkOver b begun.book old rest o.0 c.talk_from-over.result.end o.1) s.2.stream o.4 in (
      o.0,
      o.2,
      lived (g.S.System.holds c.args.system.now) g.S.System.received shared [] (contents_in c.args.contents.now).image (talking shared old rest o.0) (o.0 ≡ [])
          c.talk_from-over.result.end begun.book o.1 s.0 c.finish_live.result s.1 s.2.begins c.finish_live.ensures.told
          (c.finish_live.ensures.kept s.0 [] begun.book o.1 s.2.begins over (talk_unasked (loses shared) begun.book old rest o.0 c.talk_from-over.result.end o.1
          ended))
          (talk_ending shared old rest o.0 begun.book o.1 c.talk_from-over.result.end ended)
          (subst (IsCutFromRecord (g.S.System.holds c.args.system.now) shared.record_out [] begun.book) (sym c.finish_live.ensures.cut) s.2.cut),
    )
