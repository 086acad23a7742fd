use Rattle.std.proofs.Common.{◌≡◌, ◌-◌, ◌+◌, ◌++◌, ℕ, List, length, drop, take, map, refl, ap, ◌∙◌, arith, length-append}
use Rattle.std.proofs.lemmas.Bool.Decides.{Decides-eqb}
use Rattle.std.proofs.lemmas.List.FromFn.{length-map-range_with_len, take-map-range_with_len}
use Rattle.std.proofs.lemmas.Slice.Eq.{ends_is}
use Rattle.std.proofs.Math.Seq.{drop-append_seam}
use Rattle.std.specs.List.{range_with_len}
use Rattle.c004_commands.specs.declared.port.TheConstants.{PORTS}
use Rattle.switch_driver.specs.ComingUp.{own_answer}
use Rattle.switch_driver.specs.declared.switch_start.TheConstants.{OWN_ANSWERS}
use Rattle.switch_driver.proofs.switch_start.are_own.Goals as goal

all_own : OWN_ANSWERS ≡ map own_answer (range_with_len 0 PORTS)
all_own = refl

pub returns : goal.returns
returns c t =
    let o = c.args.output in
    let first = c.args.first.now in
    let p = take (o + 1) OWN_ANSWERS in
    let own = map own_answer (range_with_len 0 (o + 1)) in
    let front = take (length first - length p) first in
    let is : p ≡ own = ap (λ (xs : List ℕ). take (o + 1) xs) all_own ∙ take-map-range_with_len own_answer 0 PORTS (o + 1) (omega (arith, c.requires)) in
    let ends : first ≡ front ++ own = (ends_is Decides-eqb first p c.ends_with.result c.ends_with.ensures.value).0 t ∙ ap (λ (xs : List ℕ). front ++ xs) is in
    let at : PORTS - 1 - o ≡ length front = omega (
      arith,
      c.requires,
      c.told-first,
      ap length ends,
      length-append front own,
      length-map-range_with_len own_answer 0 (o + 1),
    ) in
    ap (drop (PORTS - 1 - o)) ends ∙ ap (λ (k : ℕ). drop k (front ++ own)) at ∙ drop-append_seam front own
