use Rattle.std.proofs.Common.{◌∙◌, sym, ap, Some}
use Rattle.clap.specs.Words.{found_of}
use Rattle.clap.proofs.WalkLemmas.{first_value-rows}
use Rattle.command_words.proofs.reading.option_of.Goals as goal

pub returns-in_ok-of-in-Some : goal.returns-in_ok-of-in-Some
returns-in_ok-of-in-Some c =
    let rows = first_value-rows (found_of c.args.matches.now) c.args.id.now in
    let got = rw c.in-Some.is at c.get_str.ensures in
    sym rows ∙ sym got ∙ ap Some (sym c.in_ok-of-in-Some.ensures)

pub returns-in-None : goal.returns-in-None
returns-in-None c =
    let rows = first_value-rows (found_of c.args.matches.now) c.args.id.now in
    let none = rw c.in-None.is at c.get_str.ensures in
    sym rows ∙ sym none
