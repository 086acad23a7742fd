use Rattle.std.proofs.Common.{◌≡◌, ◌+◌, [], ◌∙◌, ap, arith, length, take, ℕ}
use Rattle.std.specs.List.{concat}
use Rattle.module_memory.specs.Core.{setting_of}
use Rattle.module_orders.specs.Flags.{AreChanged}
use Rattle.module_orders.specs.Orders.{ModuleTold, all_modules, orders_before}
use Rattle.module_orders.proofs.Telling.{changed_next, length-all_modules, setting_told, told_all}
use Rattle.module_orders.proofs.rack.RackOrders.of.Goals as goal

pub loop-setting-init : goal.loop-setting-init
loop-setting-init c = record {
  all = ap (length {A = ModuleTold}) c.in_ok-modules.ensures ∙ length-all_modules (λ _. []);
  told = c.in_ok-modules.ensures;
  changed = c.none-changed.ensures;
}

pub push_orders-requires-in-loop-setting-clause-all : goal.push_orders-requires-in-loop-setting-clause-all
push_orders-requires-in-loop-setting-clause-all c =
    let first = c.in_ok-push_orders.ensures (orders_before c.args.batch.now c.args.schedule.now c.loop-setting.setting) c.loop-setting.invariant.told in
    ap (length {A = ModuleTold}) first ∙ length-all_modules _

pub loop-setting-preserved : goal.loop-setting-preserved
loop-setting-preserved c =
    let batch = c.args.batch.now in
    let settings = c.args.schedule.now in
    let k = c.loop-setting.setting in
    let numbers = c.numbers_of_setting-numbers.result.now in
    let flags = c.add.new.self.flags in
    let changed : AreChanged (setting_of batch (concat (take (k + 1) settings))) flags = changed_next batch settings k numbers flags
    (omega (arith, c.settings-settings.ensures)) c.numbers_of_setting-numbers.ensures.numbers
    (c.add.ensures (setting_of batch (concat (take k settings))) c.loop-setting.invariant.changed) in
    let told = setting_told batch settings k flags numbers c.loop-setting.modules.items c.push_orders.new.modules.items
    c.push_orders-in-loop-setting.new.modules.items c.len-batch.ensures.batch c.numbers_of_setting-numbers.ensures.known
    c.numbers_of_setting-numbers.ensures.numbers changed c.loop-setting.invariant.told c.in_ok-push_orders.ensures c.in_ok-push_orders-2.ensures in
    record {
      all = ap (length {A = ModuleTold}) told ∙ length-all_modules (orders_before batch settings (k + 1));
      told = told;
      changed = changed;
    }

pub returns : goal.returns
returns c =
    let batch = c.args.batch.now in
    let settings = c.args.schedule.now in
    let done : c.loop-setting.setting ≡ c.settings-settings.result = omega arith in
    told_all batch settings c.settings-settings.result c.loop-setting.modules.items c.settings-settings.ensures
    (c.loop-setting.invariant.told ∙ ap (λ (n : ℕ). all_modules (orders_before batch settings n)) done)
