use Rattle.std.proofs.Common.{◌∙◌, sym}
use Rattle.std.proofs.lemmas.Bool.{false≢true}
use Rattle.book_record.proofs.Fronts.{other_bytes}
use Rattle.book_record.proofs.record_prefix.without_sum.Goals as goal

pub returns-then-is_lined : goal.returns-then-is_lined
returns-then-is_lined c n = (c.requires, c.is_lined.ensures.0 c.if-is_lined.true)

pub returns : goal.returns
returns c n = other_bytes n c.args.text.now c.requires (λ all. false≢true (sym c.if-is_lined.false ∙ c.is_lined.ensures.1 all))
