use Rattle.std.proofs.Common.{◌≡◌, ◌∙◌, ◌++◌, true, false, ap, sym, arith, List, ℕ, string_bytes, take, String, Global, Vec}
use Rattle.std.specs.Prelude.{filter}
use Rattle.std.specs.List.{flat_map}
use Rattle.std.proofs.lemmas.Grind.{common_steps}
use Rattle.std.proofs.lemmas.List.{take_all}
use Rattle.link_graph.specs.ScheduleText.{text_of}
use Rattle.module_orders.specs.Orders.{ModuleTold, is_told}
use Rattle.module_orders.specs.OrdersText.{ended, modules_line, told_lines}
use Rattle.module_orders.proofs.Lines.{module_more, module_skip, rack_adds, then_adds}
use Rattle.module_orders.proofs.writing.rack_text.Goals.{then-is_told+in_ok-push_module, else-is_told}
use Rattle.module_orders.proofs.writing.rack_text.Goals as goal

pub loop-module-preserved : goal.loop-module-preserved
loop-module-preserved c =
    let modules = c.args.modules.now in
    let i = c.loop-module.module-index in
    let x = c.module-item.result in
    let p = is_told c.args.only in
    elim c.if-is_told.branch [
      | then-is_told+in_ok-push_module w ↦
          let up : p x ≡ true = sym c.is_told.ensures ∙ w.if-is_told.true in
          let put : string_bytes c.if-is_told.text ≡ string_bytes c.loop-module.text ++ text_of (told_lines x) = ap (λ (s : String Global). string_bytes s)
          w.text-is ∙ w.in_ok-push_module.ensures in
          then_adds (string_bytes c.in_ok-text.text) (string_bytes c.loop-module.text) (string_bytes c.if-is_told.text) _ (text_of (told_lines x)) _
          c.loop-module.invariant put (module_more p modules i x c.loop-module-test.true c.module-item.is up)
      | else-is_told w ↦
          let down : p x ≡ false = sym c.is_told.ensures ∙ w.if-is_told.false in
          ap (λ (s : String Global). string_bytes s) w.text-is ∙ c.loop-module.invariant
          ∙ ap (λ (ms : List ModuleTold). string_bytes c.in_ok-text.text ++ text_of (flat_map told_lines ms))
          (sym (module_skip p modules i x c.loop-module-test.true c.module-item.is down))
    ]

pub returns : goal.returns
returns c =
    let modules = c.args.modules.now in
    let all : take c.loop-module.module-index modules ≡ modules = take_all c.loop-module.module-index modules c.loop-module-test.false in
    let text : string_bytes c.loop-module.text ≡ string_bytes c.in_ok-text.text ++ text_of (flat_map told_lines (filter (is_told c.args.only) modules)) = rw all
    at c.loop-module.invariant in
    let head : string_bytes c.in_ok-text.text ≡ ended (modules_line c.count_told-count.result c.args.settings) =
    grind (arith, common_steps, c.in_ok-text.ensures.ok) in
    ap (λ (v : Vec ℕ Global). v.items) c.into_bytes.ensures.value ∙ rack_adds c.args.only c.args.settings c.count_told-count.result modules
    (string_bytes c.in_ok-text.text) (string_bytes c.loop-module.text) c.count_told-count.ensures head text
