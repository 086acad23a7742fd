use Rattle.std.proofs.Common.{◌≡◌, ◌∙◌, ◌++◌, ℕ, List, ap, length, map, rules, sym}
use Rattle.std.specs.List.{flat_map}
use Rattle.std.proofs.lemmas.List.{length-map, take_all}
use Rattle.book_record.specs.Heads.{client_line, head_lines, rack_line}
use Rattle.book_record.specs.Sums.{sum_at, sum_line}
use Rattle.book_record.proofs.head.head_text.Goals as goal

pub returns : goal.returns
returns c =
    let names = c.args.names.now in
    let all = map (λ n. n.now) names in
    let whole = take_all c.loop-name.name-index names c.loop-name-test.false in
    let first : c.in_ok-text.text.items ≡ rack_line c.args.shape c.args.sum (length names) = search rules in
    let lines : c.loop-name.text.items ≡ head_lines c.args.shape c.args.sum all =
    c.loop-name.invariant ∙ (λ i. first i ++ flat_map client_line (map (λ n. n.now) (whole i)))
    ∙ ap (λ (k : ℕ). rack_line c.args.shape c.args.sum k ++ flat_map client_line all) (sym (length-map names (λ n. n.now))) in
    c.in_ok-push_sum_of.ensures.put ∙ ap (λ (t : List ℕ). t ++ sum_line (sum_at 0 t)) lines
