use Rattle.std.proofs.Common.{◌≡◌, ◌<◌, ◌≤◌, ◌^◌, ◌∙◌, sym, refl, ℕ, List, Option, Some, None, false, true, arith}
use Rattle.std.specs.Option.{MatchOption, is_some, option_map}
use Rattle.clap.specs.Words.{Row, Text, first_of, found_of, one_of, rows_of}
use Rattle.clap.specs.Matches.{ReadsOne, one_text}
use Rattle.clap.specs.declared.parser.matches.Found.{Found}
use Rattle.clap.proofs.WalkLemmas.{first_value-rows, one_text-rows}
use Rattle.std.specs.contracts.prelude.UsizeFromStr.TheImpl.{from_str_gives-value}
use Rattle.command_words.specs.Jobs.{HasNumeral}
use Rattle.command_words.proofs.ReadText.{read_text, read_number}
use Rattle.command_words.proofs.reading.number_of.Goals as goal
use Rattle.command_words.proofs.reading.number_of.Goals.{in_default-via-in-Some+else-number-last, in_default-via-in_default}

-- what holds of the text that is there
in_text : (P : Text → Type 0) (o : Option Text) → MatchOption o ⊥ P → (t : Text) × (o ≡ Some t) × P t
in_text P None has = absurd has
in_text P (Some t) has = (t, refl, has)

-- a number that is there is what was read
read : (id : Text) (last : ℕ) (found : Found) (r : Option ℕ) (n : ℕ) → last < 2 ^ 64
    → ((t : List ℕ) → one_text found id ≡ Some t → ReadsOne from_str_gives-value.it t r)
    → HasNumeral id last (rows_of found) (Some n) → r ≡ Some n
read id last found r n small reads has =
    let t = in_text _ (one_of id (rows_of found)) has in
    read_number _ from_str_gives-value.it (λ t x gives. gives.0) t.0 r n (reads t.0 (one_text-rows found id ∙ t.1)) t.2.0 t.2.1 (omega (arith, t.2.2, small))

-- a mapped option that is no value, and one that is
none_there : {T U : Type 0} (f : T → U) (o : Option T) → is_some o ≡ false → option_map f o ≡ None
none_there f None gone = refl
none_there f (Some x) gone = absurd (let bad : true ≡ false = gone in cc)

some_there : {T U : Type 0} (f : T → U) (o : Option T) → is_some o ≡ true → option_map f o ≡ None → ⊥
some_there f None some none = let bad : false ≡ true = some in cc
some_there f (Some x) some none = let bad : Some (f x) ≡ None = none in cc

-- an option that is there has a number
numbered : (id : Text) (last : ℕ) (rows : List Row) → (first_of id rows ≡ None → ⊥) → (o : Option ℕ) → HasNumeral id last rows o
    → (n : ℕ) × HasNumeral id last rows (Some n) × (n ≤ last)
numbered id last rows there None has = absurd (there has)
numbered id last rows there (Some n) has = (n, has, (in_text _ (one_of id rows) has).2.2)

pub returns-then-is_none : goal.returns-then-is_none
returns-then-is_none c =
    sym (first_value-rows (found_of c.args.matches.now) c.args.id.now) ∙ sym c.get_str.ensures ∙ none_there (λ s. s.now) c.get_str.result c.if-is_none.ensures

pub returns-in-Some : goal.returns-in-Some
returns-in-Some c =
    let found = found_of c.args.matches.now in
    let t = read_text _ from_str_gives-value.it (one_text found c.args.id.now) c.get_one.result c.in-Some.number c.in-Some.is c.get_one.ensures.none
    c.get_one.ensures.value in
    rw (sym (one_text-rows found c.args.id.now) ∙ t.1) (t.2.0.0.0, t.2.0.1, c.if-number-last.true)

pub returns-in_default : goal.returns-in_default
returns-in_default c = λ o has.
    let found = found_of c.args.matches.now in
    let given = numbered c.args.id.now c.args.last (rows_of found)
    (λ none. some_there (λ s. s.now) c.get_str.result c.if-is_none.ensures (c.get_str.ensures ∙ first_value-rows found c.args.id.now ∙ none)) o has in
    let is : c.get_one.result ≡ Some given.0 = read c.args.id.now c.args.last found c.get_one.result given.0 (omega arith) c.get_one.ensures.value given.1 in
    elim c.in_default.branch [
      | in_default-via-in-Some+else-number-last w ↦
          let same : Some w.in-Some.number ≡ Some given.0 = sym w.in-Some.is ∙ is in
          let number : w.in-Some.number ≡ given.0 = cc in
          absurd (omega (arith, number, given.2, w.if-number-last.false))
      | in_default-via-in_default w ↦
          let bad : None ≡ Some given.0 = sym w.in_default.is ∙ is in
          cc
    ]
