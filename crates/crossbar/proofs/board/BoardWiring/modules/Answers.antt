use Rattle.std.proofs.Common.{arith}
use Rattle.std.proofs.lemmas.List.{length-take}
use Rattle.crossbar.proofs.board.BoardWiring.modules.Goals as goal

pub returns-clause-number : goal.returns-clause-number
returns-clause-number c = omega (arith, length-take c.args.self.now.modules c.args.self.now.links)
