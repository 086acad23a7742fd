use Rattle.std.proofs.Common.{◌≡◌, ◌∙◌, ◌++◌, List, ℕ, ap}
use Rattle.book_record.specs.Fronts.{end_line}
use Rattle.book_record.specs.Sums.{sum_at, sum_line}
use Rattle.book_record.proofs.Sums.{sum_wraps}
use Rattle.book_record.proofs.record_prefix.last_lines.Goals as goal

pub returns : goal.returns
returns c n is =
    let line = c.end_line-line.ensures.line n is in
    let sum : c.sum_at-sum.result ≡ sum_at n (end_line n) = c.sum_at-sum.ensures ∙ ap (sum_at c.args.entries) (c.as_bytes.ensures.bytes ∙ line)
    ∙ sum_wraps n c.args.entries (end_line n) is in
    c.put.ensures ∙ ap (λ (l : List ℕ). l ++ c.sum_line.result) line ∙ ap (λ (l : List ℕ). end_line n ++ l) (c.sum_line.ensures ∙ ap sum_line sum)
