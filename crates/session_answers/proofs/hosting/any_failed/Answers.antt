use Rattle.std.proofs.Common.{rules, tests}
use Rattle.std.proofs.lemmas.Iterator.{YieldsList-from_slice}
use Rattle.std.proofs.lemmas.Iterator.Search.{any_from_yields_List}
use Rattle.session_answers.specs.declared.ended_session.Ending.{Ending}
use Rattle.session_answers.specs.HostAnswers.{has_failed}
use Rattle.session_answers.proofs.hosting.any_failed.Goals as goal

pub returns : goal.returns
returns g c = any_from_yields_List (λ (e : Ending g.row.C.Denot). has_failed e) _ _ _ c.any.ensures.ran (YieldsList-from_slice c.args.endings.now cc)
    (λ x b q k. search (rules, tests))
