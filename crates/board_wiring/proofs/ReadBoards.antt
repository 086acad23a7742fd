-- What is so of a board that was read.
use Rattle.std.proofs.Common.{◌≡◌, ◌<◌, ◌+◌, ◌==◌, ◌&&◌, ℕ, Bool, true, List, [], ◌∷◌, Option, Some, None, IfSome, length, nat_le, arith, inl, inr}
use Rattle.std.specs.Prelude.{is_some}
use Rattle.std.specs.List.{list_any}
use Rattle.std.proofs.lemmas.Bool.{or_cases}
use Rattle.std.proofs.lemmas.Bool.Decides.{nat_tests}
use Rattle.batch.specs.Overlap.{transfer_at}
use Rattle.batch.specs.declared.transfer.Transfer.{Transfer}
use Rattle.board_wiring.specs.Boards.{IsFilled, modules_of}
use Rattle.board_wiring.specs.Missing.{HasWaysOn, has_way}
use Rattle.board_wiring.specs.Modules.{are_rising, after_last, has_link0, has_link3}
use Rattle.board_wiring.specs.declared.board.Board.{Board}
use Rattle.board_wiring.specs.declared.wired_module.WiredModule.{WiredModule}
use Rattle.board_wiring.proofs.Modules.{goes_up, wired_parts}
use Rattle.crossbar.specs.Wired.{links_of}
use Rattle.crossbar.specs.declared.board.BoardWiring.{BoardWiring}
use Rattle.crossbar.proofs.Boards.{and_left, and_right}

-- a module that is there, of which something holds, isn't after the last
below_last : (holds : WiredModule → Bool) (m l : ℕ) (ms : List WiredModule) → are_rising l ms ≡ true → list_any (λ on. on.number == m && holds on) ms ≡ true
    → m < after_last l ms
below_last holds m l [] rising any = absurd cc
below_last holds m l (on ∷ ms) rising any =
    let rest = and_right (nat_le l on.number) (are_rising (on.number + 1) ms) rising in
    elim (or_cases (on.number == m && holds on) (list_any (λ on. on.number == m && holds on) ms) any) [
      | inl here ↦ let same = and_left (on.number == m) (holds on) here in let one : on.number ≡ m =
          grind (arith, nat_tests) in omega (arith, one, goes_up (on.number + 1) ms rest)
      | inr there ↦ below_last holds m (on.number + 1) ms rest there
    ]

-- a wiring that leaves nothing out has the modules of a batch that needs nothing that isn't there
pub joins_all : (board : Option Board) (wiring : Option BoardWiring) (batch : List Transfer) → IsFilled board wiring → HasWaysOn board batch
    → IfSome wiring (λ w. (t : ℕ) → t < length batch → ((transfer_at batch t).initiator < length (links_of w))
    × ((transfer_at batch t).responder < length (links_of w)))
joins_all None None batch fills has = tt
joins_all None (Some w) batch fills has = absurd fills
joins_all (Some board) None batch fills has = absurd fills
joins_all (Some board) (Some w) batch fills has = λ t below.
    let modules = modules_of board in
    let transfer = transfer_at batch t in
    let way : has_way modules transfer ≡ true = let is = has t below in cc in
    let rising = (wired_parts modules board.own).rising in
    let first = below_last (λ on. is_some on.link0) transfer.initiator 0 modules rising
    (and_left (has_link0 modules transfer.initiator) (has_link3 modules transfer.responder) way) in
    let second = below_last (λ on. is_some on.link3) transfer.responder 0 modules rising
    (and_right (has_link0 modules transfer.initiator) (has_link3 modules transfer.responder) way) in
    (omega (arith, first, fills.all), omega (arith, second, fills.all))
