use Rattle.std.proofs.Common.{◌≡◌, refl, take}
use Rattle.std.proofs.lemmas.List.{take_all}
use Rattle.batch.specs.declared.limits.TheConstants.{MAX_BLOCKS}
use Rattle.module_orders.proofs.Copying.{copied_all, none_copied}
use Rattle.module_orders.proofs.module.copies_of.Goals as goal

pub loop-order-init : goal.loop-order-init
loop-order-init c = record { size = refl; copied = none_copied MAX_BLOCKS c.args.orders.now }

pub returns : goal.returns
returns c =
    let orders = c.args.orders.now in
    let all : take c.loop-order.order-index orders ≡ orders = take_all c.loop-order.order-index orders c.loop-order-test.false in
    copied_all orders c.loop-order.copied c.loop-order.invariant.size (rw all at c.loop-order.invariant.copied)
