use Rattle.std.proofs.Common.{◌<◌, List, sym, subst, ◌∷◌, [], ◌++◌, IsTrue, arith}
use Rattle.std.proofs.lemmas.List.{length-take, take_more_set}
use Rattle.crossbar.specs.declared.switch.TheConstants.{JOINED_MODULES}
use Rattle.board_wiring.specs.Boards.{modules_of}
use Rattle.board_wiring.specs.Modules.{are_wired}
use Rattle.board_wiring.specs.declared.wired_module.WiredModule.{WiredModule}
use Rattle.board_wiring.proofs.Modules.{room_for}
use Rattle.board_wiring.proofs.board.Board.with.Goals as goal

pub bounds-more-more : goal.bounds-more-more
bounds-more-more c =
    let board = c.args.self.now in
    let own : IsTrue (are_wired (modules_of board ++ c.args.on ∷ [])) = cc in
    omega (arith, room_for (modules_of board) c.args.on own, length-take board.count board.lines, board.few)

pub invariant_of-more : goal.invariant_of-more
invariant_of-more c =
    let board = c.args.self.now in
    let own : IsTrue (are_wired (modules_of board ++ c.args.on ∷ [])) = cc in
    let below : board.count < JOINED_MODULES = omega (arith, room_for (modules_of board) c.args.on own, length-take board.count board.lines, board.few) in
    record {
      few = omega (arith, below);
      own = subst (λ (x : List WiredModule). IsTrue (are_wired x)) (sym (take_more_set board.lines board.count c.args.on (omega (arith, below)))) own;
    }
