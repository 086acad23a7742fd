use Rattle.std.proofs.Common.{◌≡◌, ◌∷◌, ◌∙◌, sym, ap, subst, suc, List, All, arith}
use Rattle.std.specs.Vec.Iter.{into_iter_items}
use Rattle.batch.specs.Places.{HasPlace}
use Rattle.module_memory.specs.Lending.{RestView, BlockAt, store_rejoined}
use Rattle.module_memory.proofs.lending.Parted.rejoin.Goals as goal

pub loop-bay-preserved : goal.loop-bay-preserved
loop-bay-preserved c =
    let bay = c.in-Some.bay in
    let more = into_iter_items c.next.new.self in
    let e : into_iter_items c.loop-bay.bay-iterator ≡ bay ∷ more = c.in-Some.ensures.steps.0 in
    let all : All (λ (b : BlockAt). HasPlace c.args.self.rest.store.shape b.place) (bay ∷ more) =
    subst (λ (xs : List BlockAt). All (λ (b : BlockAt). HasPlace c.args.self.rest.store.shape b.place) xs) e c.loop-bay.invariant.4 in (
      tt,
      tt,
      ap (λ (s : RestView). store_rejoined s.store more) c.take_back.ensures ∙ (ap (λ (xs : List BlockAt). store_rejoined c.loop-bay.rest.store xs) (sym e)
          ∙ c.loop-bay.invariant.2),
      ap (λ (s : RestView). s.store.shape) c.take_back.ensures ∙ c.loop-bay.invariant.3,
      λ k d l. all (suc k) d (omega arith),
    )
