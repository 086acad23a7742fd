-- Commands by their names.
use Rattle.std.proofs.Common.{◌≡◌, ◌∙◌, ◌<◌, ℕ, List, length, get_or, ap, sym, refl, arith}
use Rattle.std.specs.Prelude.{◌≢◌}
use Rattle.std.specs.List.{position_or_len}
use Rattle.std.specs.Str.{bytes_eq}
use Rattle.command_words.specs.declared.commands.CommandName.{CommandName}
use Rattle.command_words.specs.declared.commands.CommandName.TheVariants.{Plan}
use Rattle.command_words.specs.Program.{commands, command_word}

-- the place of the command that a word calls
abbrev place : List ℕ → ℕ
place word = position_or_len (λ name. bytes_eq (command_word name) word) commands

-- each command is in the list
listed : (name : CommandName) → (place (command_word name) < length commands) × (get_or commands (place (command_word name)) Plan ≡ name)
listed Plan = (omega arith, refl)
listed name = (omega arith, refl)

-- a word that calls none in the list calls none
pub calls_none : (word : List ℕ) → ((k : ℕ) → k < length commands → command_word (get_or commands k Plan) ≢ word) → (name : CommandName)
    → command_word name ≢ word
calls_none word none name is =
    let (below, at) = listed name in
    none (place (command_word name)) below (ap command_word at ∙ is)

-- no word calls two
pub same_word : (a b : CommandName) → command_word a ≡ command_word b → a ≡ b
same_word a b same = sym (listed a).1 ∙ ap (λ (word : List ℕ). get_or commands (place word) Plan) same ∙ (listed b).1
