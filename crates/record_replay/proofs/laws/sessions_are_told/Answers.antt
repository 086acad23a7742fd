use Rattle.record_replay.proofs.Strangers.{no_strangers}
use Rattle.record_replay.proofs.Telling.{sessions_are_told}
use Rattle.record_replay.proofs.Turns.{sessions_say}
use Rattle.record_replay.proofs.laws.sessions_are_told.Goals as goal

pub returns-clause-strangers : goal.returns-clause-strangers
returns-clause-strangers c = no_strangers

pub returns-clause-told : goal.returns-clause-told
returns-clause-told c = sessions_are_told

pub returns-clause-say : goal.returns-clause-say
returns-clause-say c = sessions_say
