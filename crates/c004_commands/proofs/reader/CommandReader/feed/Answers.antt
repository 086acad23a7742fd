use Rattle.std.proofs.Common.{rules}
use Rattle.c004_commands.proofs.Rests.{begun_is_rest}
use Rattle.c004_commands.proofs.Readings.{spells_more}
use Rattle.c004_commands.proofs.reader.CommandReader.feed.Goals as goal

pub returns-in-Ok-clause-text : goal.returns-in-Ok-clause-text
returns-in-Ok-clause-text c = λ bytes commands s.
    spells_more bytes commands _ c.args.byte c.in-Ok.given _ s (rw (← c.self.view_is) c.in-Ok.ensures.read) (begun_is_rest c.in-Ok.begun c.in-Ok.ensures.ports)

pub returns-in-Err-clause-dropped : goal.returns-in-Err-clause-dropped
returns-in-Err-clause-dropped c = search rules
