use Rattle.std.proofs.Common.{◌≡◌, Bool, Decides, sym, subst}
use Rattle.std.proofs.lemmas.Slice.Eq.{bytes_eq-Decides}
use Rattle.clap.specs.Words.{Text}
use Rattle.command_words.specs.Jobs.{input_name}
use Rattle.command_words.proofs.text.Text.is_input.Goals as goal

pub returns-clause-is : goal.returns-clause-is
returns-clause-is c =
    let same = subst (λ (is : Bool). Decides is (c.as_str.result.now ≡ input_name)) (sym c.eq.ensures) (bytes_eq-Decides c.as_str.result.now input_name) in
    subst (λ (text : Text). Decides c.eq.result (text ≡ input_name)) c.as_str.ensures same
