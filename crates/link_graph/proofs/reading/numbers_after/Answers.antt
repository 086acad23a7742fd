use Rattle.std.proofs.Common.{◌≡◌, ◌++◌, ◌∙◌, ap, refl, List, ℕ, Some, None}
use Rattle.std.proofs.lemmas.Bool.Decides.{Decides-eqb}
use Rattle.std.proofs.lemmas.Result.{IfOk-weaker, IfErr-weaker}
use Rattle.std.proofs.lemmas.Slice.Eq.{strip_prefix_is}
use Rattle.link_graph.specs.ScheduleText.{numbers}
use Rattle.link_graph.proofs.LinkLines.{line_fault}
use Rattle.link_graph.proofs.reading.numbers_after.Goals as goal

pub returns-in_default-clause-err : goal.returns-in_default-clause-err
returns-in_default-clause-err c =
    let none = strip_prefix_is Decides-eqb c.args.line.now c.args.word.now None c.in_default.ensures.cases in
    (refl, λ ts fit same. none (numbers ts) same)

pub returns-clause-ok : goal.returns-clause-ok
returns-clause-ok c =
    let parts : c.args.line.now ≡ c.args.word.now ++ c.in-Some.words.now = strip_prefix_is Decides-eqb c.args.line.now c.args.word.now (Some c.in-Some.words)
    c.in-Some.ensures.cases in
    IfOk-weaker c.numbers_of.result _ _ (λ ts read. (read.0, parts ∙ ap (λ (x : List ℕ). c.args.word.now ++ x) read.1)) c.numbers_of.ensures.ok

pub returns-clause-err : goal.returns-clause-err
returns-clause-err c =
    let parts : c.args.line.now ≡ c.args.word.now ++ c.in-Some.words.now = strip_prefix_is Decides-eqb c.args.line.now c.args.word.now (Some c.in-Some.words)
    c.in-Some.ensures.cases in
    IfErr-weaker c.numbers_of.result _ _ (λ fault f. line_fault c.args.at c.args.word.now c.args.line.now c.in-Some.words.now fault parts f)
    c.numbers_of.ensures.err
