-- What transfers find.
use Rattle.std.proofs.Common.{Bool, true, false, cond, ◌≡◌, List, ap}
use Rattle.batch.specs.declared.transfer.Place.{Place}
use Rattle.batch.specs.declared.transfer.Transfer.{Transfer}
use Rattle.batch.specs.Held.{is_written}
use Rattle.module_memory.specs.Store.{Store, block_of}
use Rattle.module_memory.specs.Core.{found}

pub found_held : (batch : List Transfer) (opening now : Store) (p : Place) → is_written batch p ≡ true → found batch opening now p ≡ block_of opening p
found_held batch opening now p e = ap (λ (b : Bool). cond b (block_of opening p) (block_of now p)) e

pub found_now : (batch : List Transfer) (opening now : Store) (p : Place) → is_written batch p ≡ false → found batch opening now p ≡ block_of now p
found_now batch opening now p e = ap (λ (b : Bool). cond b (block_of opening p) (block_of now p)) e
