use Rattle.std.proofs.Common.{is_some, rules, tests, ◌∙◌}
use Rattle.std.proofs.lemmas.Iterator.{YieldsList-from_slice}
use Rattle.std.proofs.lemmas.Iterator.Search.{any_from_yields_List}
use Rattle.session_answers.specs.declared.session.ScriptSession.{ScriptSession}
use Rattle.session_answers.specs.Frames.{Transcript}
use Rattle.session_answers.specs.Hosting.{transcript}
use Rattle.session_answers.proofs.Sessions.{any_mapped}
use Rattle.session_answers.proofs.frames.has_fault.Goals as goal

pub returns : goal.returns
returns g c =
    any_from_yields_List (λ (s : ScriptSession g.row.L.Denot). is_some s.fault) _ _ _ c.any.ensures.ran (YieldsList-from_slice c.args.sessions.now cc)
    (λ x b q k. search (rules, tests))
    ∙ any_mapped (λ (t : Transcript). is_some t.fault) transcript c.args.sessions.now
