use Rattle.std.proofs.Common.{refl, rules, w32}
use Rattle.std.proofs.lemmas.Nat.Bits.{bit_at-trailing_zeros}
use Rattle.link_graph.proofs.mask.lowest.Goals as goal

pub returns : goal.returns
returns c =
    let least = bit_at-trailing_zeros w32 c.args.mask c.requires (search rules) in
    record { within = least.0; has = rw least.1 refl }
