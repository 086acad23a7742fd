use Rattle.std.proofs.Common.{◌≡◌, ◌∙◌, ◌++◌, ap, sym, arith, List, ℕ, map, string_bytes, String, Global}
use Rattle.link_graph.specs.ScheduleText.{text_of}
use Rattle.module_orders.specs.Flags.{up_in}
use Rattle.module_orders.specs.OrdersText.{copy_line, ended}
use Rattle.module_orders.proofs.Copying.{numbers_up-all}
use Rattle.module_orders.proofs.Lines.{number_down, number_up, then_adds}
use Rattle.module_orders.proofs.writing.push_copies.Goals.{then-copied-block+in_ok-write, else-copied-block}
use Rattle.module_orders.proofs.writing.push_copies.Goals as goal

pub loop-block-preserved : goal.loop-block-preserved
loop-block-preserved c =
    let n = c.loop-block.block-counter in
    let p = up_in c.args.copied.now in
    elim c.if-copied-block.branch [
      | then-copied-block+in_ok-write w ↦
          let put : string_bytes c.if-copied-block.text ≡ string_bytes c.loop-block.text ++ ended (copy_line n) = ap (λ (s : String Global). string_bytes s)
          w.text-is ∙ w.in_ok-write.ensures.bytes in
          then_adds (string_bytes c.args.text.now) (string_bytes c.loop-block.text) (string_bytes c.if-copied-block.text) _ (ended (copy_line n)) _
          c.loop-block.invariant put (number_up p n w.if-copied-block.true)
      | else-copied-block w ↦
          ap (λ (s : String Global). string_bytes s) w.text-is ∙ c.loop-block.invariant
          ∙ ap (λ (ns : List ℕ). string_bytes c.args.text.now ++ text_of (map copy_line ns)) (sym (number_down p n w.if-copied-block.false))
    ]

pub returns : goal.returns
returns c = c.loop-block.invariant ∙ ap (λ (ns : List ℕ). string_bytes c.args.text.now ++ text_of (map copy_line ns))
    (numbers_up-all c.args.copied.now c.loop-block.block-counter (omega arith))
