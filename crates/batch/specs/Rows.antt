-- Worked rows: batches, by their transfers. The definitions are compared with them.
use Rattle.std.specs.Prelude.{ℕ, List, [], ◌∷◌, codes}
use Rattle.batch.specs.declared.transfer.Kind.TheVariants.{Push, Pull}
use Rattle.batch.specs.declared.transfer.Transfer.{Transfer}

-- `push I b R c`
abbrev pub push : ℕ → ℕ → ℕ → ℕ → Transfer
push i b r c = record { kind = Push; initiator = i; own_block = b; responder = r; far_block = c }

-- `pull I b R c`
abbrev pub pull : ℕ → ℕ → ℕ → ℕ → Transfer
pull i b r c = record { kind = Pull; initiator = i; own_block = b; responder = r; far_block = c }

abbrev pub three_transfers : List Transfer
three_transfers = push 0 0 1 0 ∷ push 0 1 2 0 ∷ push 1 1 2 1 ∷ []

abbrev pub three_transfers_text : List ℕ
three_transfers_text = codes "batch 3\npush 0 0 1 0\npush 0 1 2 0\npush 1 1 2 1\n"

abbrev pub first_fit_loses : List Transfer
first_fit_loses = push 0 0 0 1 ∷ push 1 0 1 1 ∷ push 1 1 2 0 ∷ push 0 2 2 1 ∷ []
