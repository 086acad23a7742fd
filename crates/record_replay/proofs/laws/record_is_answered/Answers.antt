use Rattle.record_replay.proofs.Books.{host_is_replayed, serve_is_replayed, talk_is_replayed}
use Rattle.record_replay.proofs.Written.{stream_is_recorded}
use Rattle.record_replay.proofs.laws.record_is_answered.Goals as goal

pub returns-clause-serve : goal.returns-clause-serve
returns-clause-serve c = serve_is_replayed c.sessions_are_told.ensures.say c.sessions_are_told.ensures.told

pub returns-clause-host : goal.returns-clause-host
returns-clause-host c = host_is_replayed c.sessions_are_told.ensures.say c.sessions_are_told.ensures.told

pub returns-clause-talk : goal.returns-clause-talk
returns-clause-talk c = talk_is_replayed c.sessions_are_told.ensures.say c.sessions_are_told.ensures.told

pub returns-clause-stream : goal.returns-clause-stream
returns-clause-stream c = stream_is_recorded
