use Rattle.std.proofs.Common.{◌∙◌, sym, subst}
use Rattle.command_words.specs.Jobs.{HaveNames}
use Rattle.command_words.proofs.WrongNames.{no_names}
use Rattle.command_words.proofs.reading.judge.Goals as goal

pub returns-clause-refused : goal.returns-clause-refused
returns-clause-refused c memory done =
    let lent = c.as_slice.result.now in
    no_names lent c.in-Some.why c.in-Some.ensures.some (subst HaveNames (sym (c.as_slice.ensures.value ∙ c.in_ok-files.ensures)) done.files)
