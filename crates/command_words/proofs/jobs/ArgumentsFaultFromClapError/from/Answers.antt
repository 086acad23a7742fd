use Rattle.std.proofs.Common.{◌∙◌, sym}
use Rattle.command_words.proofs.jobs.ArgumentsFaultFromClapError.from.Goals as goal

pub returns-in-OutOfMemory : goal.returns-in-OutOfMemory
returns-in-OutOfMemory c = sym c.kind.ensures ∙ c.in-OutOfMemory.is
