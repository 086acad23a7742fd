use Rattle.std.proofs.Common.{◌∙◌, ◌++◌, ◌∷◌, [], ap, sym, arith, List}
use Rattle.std.proofs.lemmas.List.FromFn.{map-range_with_len_more}
use Rattle.module_orders.specs.Orders.{ModuleTold, module_told}
use Rattle.module_orders.proofs.Telling.{idle_all}
use Rattle.module_orders.proofs.rack.idle_modules.Goals as goal

pub loop-module-preserved : goal.loop-module-preserved
loop-module-preserved c =
    let m = c.loop-module.«module» in
    c.in_ok-push.ensures.items ∙ ap (λ (x : ModuleTold). c.loop-module.modules.items ++ x ∷ []) c.none.ensures
    ∙ ap (λ (xs : List ModuleTold). xs ++ module_told m [] ∷ []) c.loop-module.invariant
    ∙ sym (map-range_with_len_more (λ k. module_told k []) 0 m m (omega arith))

pub returns : goal.returns
returns c = idle_all c.loop-module.modules.items c.loop-module.«module» (omega arith) c.loop-module.invariant
