use Rattle.std.proofs.Common.{◌∙◌, ap}
use Rattle.clap.specs.Words.{App, app_of}
use Rattle.command_words.specs.Jobs.{texts_of}
use Rattle.command_words.specs.Program.{with_command}
use Rattle.command_words.proofs.ByName.{by_name, word_after}
use Rattle.command_words.proofs.grammar.matches_by_name.Goals as goal

pub returns : goal.returns
returns c =
    let name = c.in_ok-name.name in
    let found = c.try_get_matches_from in
    let second = c.in_ok-get.ensures.lookup.3 in
    let is = c.in-Ok.ensures.app ∙ ap (λ (a : App). with_command a name) c.top.ensures.app in
    let behind = word_after c.args.arguments.now c.in_ok-get.field-0.now name second.0 second.1 (c.in_ok-name.ensures.some ∙ c.as_str.ensures.value) in
    let same = by_name (app_of c.in-Ok.program) name (texts_of c.args.arguments.now) found.result is behind found.ensures.matches found.ensures.kinds in
    record { matches = rw c.ok.ensures.value same.0; taken = rw c.ok.ensures.value same.1 }
