-- What a batch needs of a board, and what it is first refused for.
use Rattle.std.specs.Prelude.{◌≡◌, ◌<◌, ◌⊎◌, ◌&&◌, ℕ, Bool, List, Option, None, Some, IsTrue}
use Rattle.std.specs.Prelude.{length, ⊤}
use Rattle.batch.specs.ShapeView.{widest}
use Rattle.batch.specs.Overlap.{transfer_at}
use Rattle.batch.specs.Text.{Denotes}
use Rattle.batch.specs.declared.transfer.Transfer.{Transfer}
use Rattle.refusals.specs.declared.refusal.Refusal.{Refusal}
use Rattle.refusals.specs.declared.refusal.Refusal.TheVariants.{NoLink, NoModule}
use Rattle.board_wiring.specs.Boards.{modules_of}
use Rattle.board_wiring.specs.Modules.{has_module, has_link0, has_link3}
use Rattle.board_wiring.specs.declared.board.Board.{Board}
use Rattle.board_wiring.specs.declared.wired_module.WiredModule.{WiredModule}

-- whether both modules of a transfer are there
abbrev pub has_ends : List WiredModule → Transfer → Bool
has_ends modules t = has_module modules t.initiator && has_module modules t.responder

-- whether both links that a transfer uses are on links of the switch: link 0 of its initiator, and
-- link 3 of its responder
abbrev pub has_way : List WiredModule → Transfer → Bool
has_way modules t = has_link0 modules t.initiator && has_link3 modules t.responder

-- they are, of each transfer of a batch
abbrev pub HasWays : List WiredModule → List Transfer → Type 0
HasWays modules batch =
    (t : ℕ) → t < length batch → IsTrue (has_way modules (transfer_at batch t))

-- the refusal of a transfer that isn't so: it names a module that isn't there, or else needs a link
-- that isn't
abbrev pub IsRefusedFor : List WiredModule → Transfer → ℕ → Refusal → Type 0
IsRefusedFor modules transfer t refusal =
    ((IsTrue (has_ends modules transfer) → ⊥) × (refusal ≡ NoModule t))
    ⊎ (IsTrue (has_ends modules transfer) × (IsTrue (has_way modules transfer) → ⊥)
    × (refusal ≡ NoLink t))

-- it is that of the first such transfer of a batch
pub record IsFirstLack (modules : List WiredModule) (batch : List Transfer) (refusal : Refusal)
    : Type 0 where
  pub t : ℕ
  pub within : t < length batch
  pub before : (k : ℕ) → k < t → IsTrue (has_way modules (transfer_at batch k))
  pub why : IsRefusedFor modules (transfer_at batch t) t refusal

-- ---- where there may be a board

abbrev pub HasWaysOn : Option Board → List Transfer → Type 0
HasWaysOn None batch = ⊤
HasWaysOn (Some board) batch = HasWays (modules_of board) batch

abbrev pub IsLackOn : Option Board → List Transfer → Refusal → Type 0
IsLackOn None batch refusal = ⊥
IsLackOn (Some board) batch refusal = IsFirstLack (modules_of board) batch refusal

-- ---- the text of a batch, which is read against the widest shape, whatever the board

-- the refusal is that of the first transfer of the batch that the text denotes
abbrev pub IsMissingFor : Option Board → List ℕ → Refusal → Type 0
IsMissingFor board text refusal =
    (batch : List Transfer) × Denotes widest text batch × IsLackOn board batch refusal

-- the text denotes no batch, or one that needs nothing that isn't there
abbrev pub MissesNothing : Option Board → List ℕ → Type 0
MissesNothing board text =
    (batch : List Transfer) → Denotes widest text batch → HasWaysOn board batch
