use Rattle.std.proofs.Common.{◌≡◌, All}
use Rattle.std.specs.Vec.Iter.{into_iter_items}
use Rattle.batch.specs.Places.{HasPlace}
use Rattle.module_memory.specs.Lending.{BlockAt, store_rejoined}
use Rattle.module_memory.proofs.lending.Parted.rejoin.Given as goal

abbrev pub invariant-loop-bay : goal.invariant-loop-bay
invariant-loop-bay l =
    (goal.iterator-loop-bay).can_next l.bay-iterator ×
    (goal.iterator-loop-bay).is_finite l.bay-iterator ×
    (store_rejoined l.rest.store (into_iter_items l.bay-iterator) ≡ store_rejoined l.fn.self.rest.store l.fn.self.bays.items) ×
    (l.rest.store.shape ≡ l.fn.self.rest.store.shape) ×
    All (λ (b : BlockAt). HasPlace l.fn.self.rest.store.shape b.place) (into_iter_items l.bay-iterator)
