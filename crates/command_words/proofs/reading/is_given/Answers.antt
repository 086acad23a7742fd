use Rattle.std.proofs.Common.{◌≡◌, ◌∙◌, Option, Some, None, ap, refl, sym, option_map}
use Rattle.std.specs.Prelude.{find, option_and_then}
use Rattle.std.specs.Str.{bytes_eq}
use Rattle.clap.specs.Facts.{Entry}
use Rattle.clap.specs.Walk.{Row, Text, row_of}
use Rattle.clap.specs.Words.{found_of, matched_of, rows_of}
use Rattle.clap.specs.declared.parser.matches.Found.{Found}
use Rattle.clap.specs.declared.parser.matches.MatchedArg.{MatchedArg}
use Rattle.clap.proofs.WalkLemmas.{find_row}
use Rattle.command_words.proofs.reading.is_given.Goals as goal

-- a row has the source of its entry
source-rows : (found : Found) (id : Text) → option_and_then (λ (a : MatchedArg). a.source) (matched_of found id)
    ≡ option_and_then (λ (row : Row). row.source) (find (λ (row : Row). bytes_eq row.id id) (rows_of found))
source-rows found id = go (find (λ (e : Entry). bytes_eq e.0.now id) found.entries.items) ∙ ap (option_and_then (λ (row : Row). row.source))
    (sym (find_row found.entries.items id))
  where
    go : (o : Option Entry) → option_and_then (λ (a : MatchedArg). a.source) (option_map (λ (e : Entry). e.1) o) ≡ option_and_then (λ (row : Row). row.source)
        (option_map row_of o)
    go None = refl
    go (Some e) = refl

pub returns-in-Some-CommandLine : goal.returns-in-Some-CommandLine
returns-in-Some-CommandLine c =
    let source = c.value_source.ensures ∙ source-rows (found_of c.args.matches.now) c.args.id.now in
    (λ _. sym source ∙ c.in-Some-CommandLine.is ∙ ap Some c.in-Some-CommandLine.field-0-is, λ _. refl)

pub returns-in_default : goal.returns-in_default
returns-in_default c = (
  λ yes. absurd cc,
  λ given.
      (let source = c.value_source.ensures ∙ source-rows (found_of c.args.matches.now) c.args.id.now ∙ given in
      absurd cc),
)

pub returns-in_default-2 : goal.returns-in_default-2
returns-in_default-2 c = (
  λ yes. absurd cc,
  λ given.
      (let source = c.value_source.ensures ∙ source-rows (found_of c.args.matches.now) c.args.id.now ∙ given in
      absurd cc),
)
