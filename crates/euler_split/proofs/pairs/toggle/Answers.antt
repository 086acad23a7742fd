use Rattle.std.proofs.Common.{◌<◌, ◌^◌, length, get_or, arith, rules}
use Rattle.std.specs.Int.RustNames.{bit_xor}
use Rattle.std.proofs.lemmas.Bool.Decides.{nat_tests}
use Rattle.std.proofs.lemmas.Grind.{elements}
use Rattle.std.proofs.lemmas.List.Sums.{sum_by-set}
use Rattle.std.proofs.lemmas.Nat.{one_shl}
use Rattle.link_graph.proofs.Masks.{bit_toggled, toggled_less}
use Rattle.euler_split.proofs.pairs.toggle.Goals as goal

pub returns-clause-toggled : goal.returns-clause-toggled
returns-clause-toggled c u v =
    let a_in : c.args.module < length c.args.masks.now = search rules in
    rw (one_shl c.args.other 32 c.requires.other) (grind (arith, nat_tests, elements, bit_toggled (get_or c.args.masks.now c.args.module 0) c.args.other v))

pub returns-clause-less : goal.returns-clause-less
returns-clause-less c had =
    let mask = get_or c.args.masks.now c.args.module 0 in
    rw (one_shl c.args.other 32 c.requires.other)
    (omega (
      arith,
      toggled_less mask c.args.other had,
      sum_by-set (λ x. x) c.args.masks.now c.args.module (bit_xor mask (2 ^ c.args.other)) 0
          (search rules),
    ))
