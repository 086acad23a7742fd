use Rattle.std.proofs.Common.{◌≡◌, ◌∙◌, ap, ◌++◌, List, ℕ, [], length, rules, arith}
use Rattle.module_memory.specs.Images.{image_of}
use Rattle.book_record.specs.Fronts.{last_lines}
use Rattle.book_record.specs.Heads.{head_of}
use Rattle.book_record.specs.RecordText.{texts}
use Rattle.book_record.specs.Sums.{adler, numbered}
use Rattle.book_record.proofs.whole.write_record.Goals as goal

pub returns : goal.returns
returns c =
    let b = c.args.book.now in
    let h = b.history in
    let head = head_of b.opening.shape (adler (image_of b.opening)) [] in
    let number : length c.history.result.now ≡ numbered (length h) = omega (arith, ap length c.history.ensures.history, c.history.ensures.few) in
    let front : c.in_ok-text.text.items ≡ head = search rules in
    let last : c.as_bytes.result.now ≡ last_lines (length h) = c.as_bytes.ensures.bytes ∙ c.last_lines.ensures (length h) number in
    c.in_ok-extend_from_slice.ensures.items ∙ ap (λ (l : List ℕ). c.push_history.new.text.items ++ l) last ∙ ap (λ (l : List ℕ). l ++ last_lines (length h))
    (c.in_ok-push_history.ensures ∙ ap (λ (l : List ℕ). l ++ texts 0 h) front)
