use Rattle.session_answers.proofs.Sessions.{unasked}
use Rattle.session_answers.proofs.hosting.host_on.Goals as goal

pub returns-in_default-clause-back : goal.returns-in_default-clause-back
returns-in_default-clause-back g c = unasked g.K.EntryLog.loses c.args.book c.log.ensures.replay c.requires.whole c.requires.stand c.requires.unstopped
