use Rattle.std.proofs.Common.{◌≡◌, ◌∙◌, List, Option, Some, None, sym, ap, length, map, option_map, arith}
use Rattle.std.specs.Borrow.{Bor}
use Rattle.std.proofs.lemmas.List.{length-map}
use Rattle.clap.specs.Words.{Text, found_of, rows_of, raw_values, matched_of}
use Rattle.clap.specs.declared.parser.matches.Found.{Found}
use Rattle.clap.proofs.WalkLemmas.{raw_values-rows}
use Rattle.command_words.specs.Jobs.{HasServed}
use Rattle.command_words.proofs.reading.served_of.Goals as goal
use Rattle.command_words.proofs.reading.served_of.Goals.{in_default-via-in-Some+then-texts-ge1+else-texts-le-MAX_CLIENTS, in_default-via-in-Some+else-texts-ge1, in_default-via-in_default}

-- the clients that are there are as many as were given
as_many : (found : Found) (id : Text) (r : Option (Bor (List (Bor Text)))) (texts : Bor (List (Bor Text))) → r ≡ Some texts
    → option_map (λ s. map (λ v. v.now) s.now) r ≡ option_map raw_values (matched_of found id)
    → (served : List Text) → HasServed id (rows_of found) served → length texts.now ≡ length served
as_many found id r texts is given served has =
    let got = rw is at given in
    let same : Some (map (λ v. v.now) texts.now) ≡ Some served = got ∙ raw_values-rows found id ∙ has.0 in
    let list : map (λ v. v.now) texts.now ≡ served = cc in
    sym (length-map texts.now (λ v. v.now)) ∙ ap length list

pub returns-in_ok-of-in-Some : goal.returns-in_ok-of-in-Some
returns-in_ok-of-in-Some c =
    let found = found_of c.args.matches.now in
    let texts = c.in-Some.texts.now in
    let copied = c.in_ok-of-in-Some.ensures.list in
    let got = rw c.in-Some.is at c.get_strs.ensures in
    let all = sym (raw_values-rows found c.args.id.now) ∙ sym got ∙ ap Some (sym copied) in
    let as_many = ap length copied ∙ length-map texts (λ t. t.now) in
    (all, (omega (arith, as_many), omega (arith, as_many)))

pub returns-in_default : goal.returns-in_default
returns-in_default c = λ served has.
    let found = found_of c.args.matches.now in
    elim c.in_default.branch [
      | in_default-via-in-Some+then-texts-ge1+else-texts-le-MAX_CLIENTS w ↦
          let many = as_many found c.args.id.now c.get_strs.result w.in-Some.texts w.in-Some.is c.get_strs.ensures served has in
          absurd (omega (arith, many, has.1.1, w.if-texts-le-MAX_CLIENTS.false))
      | in_default-via-in-Some+else-texts-ge1 w ↦
          let many = as_many found c.args.id.now c.get_strs.result w.in-Some.texts w.in-Some.is c.get_strs.ensures served has in
          absurd (omega (arith, many, has.1.0, w.if-texts-ge1.false))
      | in_default-via-in_default w ↦
          let none = rw w.in_default.is at c.get_strs.ensures in
          let bad : None ≡ Some served = none ∙ raw_values-rows found c.args.id.now ∙ has.0 in
          cc
    ]
