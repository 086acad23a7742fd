use Rattle.std.proofs.Common.{◌≡◌, ◌∙◌, ◌++◌, ap, arith, List, ℕ, map, length, string_bytes}
use Rattle.std.specs.Prelude.{count_by}
use Rattle.std.proofs.lemmas.Grind.{common_steps}
use Rattle.std.proofs.lemmas.Result.{on_ok_weaker}
use Rattle.link_graph.specs.ScheduleText.{text_of}
use Rattle.module_orders.specs.Flags.{copy_flags, numbers_up}
use Rattle.module_orders.specs.Orders.{copies_in}
use Rattle.module_orders.specs.OrdersText.{copy_line, ended, module_line, order_line}
use Rattle.module_orders.specs.declared.order.Order.{Order}
use Rattle.module_orders.proofs.Copying.{count-copy_flags, numbers_up-copy_flags}
use Rattle.module_orders.proofs.Lines.{module_adds}
use Rattle.module_orders.proofs.writing.push_module.Goals as goal

pub returns : goal.returns
returns c =
    let told = c.args.told.now in
    let copies = copies_in told.orders in
    let flags : c.copies_of-copied.result ≡ copy_flags told.orders = c.copies_of-copied.ensures ∙ ap copy_flags c.orders.ensures.orders in
    let number : c.module-module.result ≡ told.«module» = c.module-module.ensures in
    let many : c.count_of-copies.result ≡ length copies = c.count_of-copies.ensures ∙ ap (count_by (λ up. up)) flags ∙ count-copy_flags told.orders in
    let orders : length c.orders-2.result.now ≡ length told.orders = ap (length {A = Order}) c.orders-2.ensures.orders in
    let bytes = c.in_ok-write.ensures.bytes in
    let first : string_bytes c.write.new.self ≡ string_bytes c.args.text.now ++ ended (module_line told.«module» (length copies) (length told.orders)) =
    grind (arith, common_steps) in
    let then_more : string_bytes c.push_copies.new.text ≡ string_bytes c.write.new.self ++ text_of (map copy_line copies) =
    c.in_ok-push_copies.ensures ∙ ap (λ (ns : List ℕ). string_bytes c.write.new.self ++ text_of (map copy_line ns))
    (ap numbers_up flags ∙ numbers_up-copy_flags told.orders) in
    on_ok_weaker c.push_orders.result (λ p. module_adds (string_bytes c.args.text.now) (string_bytes c.write.new.self) (string_bytes c.push_copies.new.text)
    (string_bytes c.push_orders.new.text) told first then_more
    (p ∙ ap (λ (os : List Order). string_bytes c.push_copies.new.text ++ text_of (map order_line os)) c.orders-3.ensures.orders)) c.push_orders.ensures
