use Rattle.std.proofs.Common.{refl}
use Rattle.std.specs.Fmt.{digits}
use Rattle.module_orders.specs.Orders.{all_modules, copies_in, orders_of}
use Rattle.module_orders.specs.OrdersText.{orders_text}
use Rattle.row_tests.proofs.tests.module_orders_rows.the_definitions_spell_the_rows.Goals as goal

pub returns-clause-three_transfers : goal.returns-clause-three_transfers
unfolding digits all_modules copies_in orders_of orders_text
returns-clause-three_transfers c = refl

pub returns-clause-one : goal.returns-clause-one
unfolding digits all_modules copies_in orders_of orders_text
returns-clause-one c = refl

pub returns-clause-swap : goal.returns-clause-swap
unfolding digits all_modules copies_in orders_of orders_text
returns-clause-swap c = refl

pub returns-clause-turned : goal.returns-clause-turned
unfolding digits all_modules copies_in orders_of orders_text
returns-clause-turned c = refl

pub returns-clause-none : goal.returns-clause-none
unfolding digits all_modules copies_in orders_of orders_text
returns-clause-none c = refl
