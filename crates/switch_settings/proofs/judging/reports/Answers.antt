use Rattle.std.proofs.Common.{refl, subst}
use Rattle.c004_commands.specs.Answers.{IsAnswer}
use Rattle.c004_commands.specs.declared.answer.OutputState.{OutputState}
use Rattle.switch_settings.proofs.Replies.{connected_reports, loose_reports}
use Rattle.switch_settings.proofs.judging.reports.Goals as goal

pub returns-in-Connected : goal.returns-in-Connected
returns-in-Connected c =
    let is = subst (λ (a : OutputState). IsAnswer a c.args.reply) c.in-Connected.is ((c.in-Ok.ensures.answer c.in-Ok.state).0 refl) in
    connected_reports c.args.wanted c.get.result c.in-Connected.input c.args.reply c.eq.result c.eq.ensures c.get.ensures.number is

pub returns-in-Loose : goal.returns-in-Loose
returns-in-Loose c =
    let is = subst (λ (a : OutputState). IsAnswer a c.args.reply) c.in-Loose.is ((c.in-Ok.ensures.answer c.in-Ok.state).0 refl) in
    loose_reports c.args.wanted c.args.reply c.is_none.result c.is_none.ensures is
