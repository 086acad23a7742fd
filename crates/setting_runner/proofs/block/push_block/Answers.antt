use Rattle.std.proofs.Common.{rules, ◌≡◌, ℕ, ◌<◌, length, get_or, set, refl, ap, ap₂, ◌∙◌, sym, arith, is_ok, List, Ok, length-set, ◌++◌, [], append-nil}
use Rattle.batch.specs.ShapeView.{ShapeView}
use Rattle.batch.specs.declared.transfer.Place.{Place}
use Rattle.module_memory.specs.declared.address.TheConstants.{WINDOW_START}
use Rattle.module_memory.specs.Lending.{BlockAt, found_in}
use Rattle.module_memory.proofs.CoreLaw.{prefix_step}
use Rattle.peek_poke.specs.Blocks.{block_write}
use Rattle.module_memory.specs.Address.{address_of}
use Rattle.peek_poke.specs.Messages.{spell}
use Rattle.peek_poke.specs.declared.message.Message.TheVariants.{Poke}
use Rattle.peek_poke.specs.Sending.{IsBrokenOff}
use Rattle.setting_runner.specs.Carried.{pushed}
use Rattle.setting_runner.proofs.Carried.{one_more, cut_off}
use Rattle.setting_runner.proofs.Addresses.{write_lands, written_is}
use Rattle.setting_runner.proofs.block.push_block.Goals as goal

pub push_word-requires-clause-takes : goal.push_word-requires-clause-takes
push_word-requires-clause-takes g c =
    let inv = c.loop-j.invariant in
    let s = c.shape-shape.result in
    let wide : length c.loop-j.bay.words ≡ s.words = inv.width ∙ sym (ap (λ (x : ShapeView). x.words) inv.shape) in
    let n : c.place-block.result.block ≡ c.loop-j.bay.place.block = inv.block ∙ sym (ap (λ (p : Place). p.block) inv.place) in
    let below : c.loop-j.j < s.words = omega (arith, ap (λ (x : ShapeView). x.words) inv.shape) in
    ap is_ok (write_lands c.blocks-2.ensures.written WINDOW_START s c.loop-j.bay c.place-block.result.block _ c.loop-j.j _ refl wide below n
    c.address_in-address.ensures)

pub loop-j-preserved : goal.loop-j-preserved
loop-j-preserved g c =
    let inv = c.loop-j.invariant in
    let s = c.shape-shape.result in
    let j = c.loop-j.j in
    let a = found_in c.args.rest.now c.args.source in
    let b = c.args.bay.now.words in
    let w = get_or c.found_words-words.result.now j 0 in
    let wide : length c.loop-j.bay.words ≡ s.words = inv.width ∙ sym (ap (λ (x : ShapeView). x.words) inv.shape) in
    let n : c.place-block.result.block ≡ c.loop-j.bay.place.block = inv.block ∙ sym (ap (λ (p : Place). p.block) inv.place) in
    let below : j < s.words = omega (arith, ap (λ (x : ShapeView). x.words) inv.shape) in
    let word : w ≡ get_or a j 0 = ap (λ (xs : List ℕ). get_or xs j 0) c.found_words-words.ensures in
    let written : block_write WINDOW_START c.loop-j.bay c.address_in-address.result w ≡ Ok c.push_word.new.store = search rules in
    let new = written_is c.blocks-2.ensures.written WINDOW_START s c.loop-j.bay c.push_word.new.store c.place-block.result.block _ j w refl wide below n
    c.address_in-address.ensures written in
    let words = ap (λ (x : BlockAt). x.words) new in
    let sending = pushed c.args.rest.now.store.shape c.args.bay.now.place.block a in
    let same : spell (Poke c.address_in-address.result w) ≡ sending j =
    ap₂ (λ (x y : ℕ). spell (Poke x y)) (c.address_in-address.ensures ∙ ap₂ (λ (e : ShapeView) (n : ℕ). address_of e n j) inv.shape inv.block) word in
    record {
      shape = inv.shape;
      end = inv.end;
      block = inv.block;
      found = inv.found;
      place = ap (λ (x : BlockAt). x.place) new ∙ inv.place;
      width = ap (λ (x : List ℕ). length x) words ∙ (length-set c.loop-j.bay.words j w ∙ inv.width);
      words = words ∙ ap₂ (λ (x : List ℕ) (y : ℕ). set x j y) inv.words word ∙ prefix_step a b j (c.requires.source_here ∙ sym c.requires.bay_width)
          (omega (arith, c.requires.source_here, ap (λ (x : ShapeView). x.words) inv.shape));
      rest = search rules;
      carried = one_more sending j (g.W.Wire.carried c.args.wire.now) (g.W.Wire.carried c.loop-j.wire) (g.W.Wire.carried c.push_word.new.wire)
          (spell (Poke c.address_in-address.result w)) inv.carried (search rules) same;
      failures = search rules;
      sure = search rules;
    }

pub returns-then-is_err-clause-carried : goal.returns-then-is_err-clause-carried
returns-then-is_err-clause-carried g c =
    let inv = c.loop-j.invariant in
    let j = c.loop-j.j in
    let a = found_in c.args.rest.now c.args.source in
    let w = get_or c.found_words-words.result.now j 0 in
    let below : j < c.args.rest.now.store.shape.words = omega (arith, inv.end, c.loop-j-test.true) in
    let word : w ≡ get_or a j 0 = ap (λ (xs : List ℕ). get_or xs j 0) c.found_words-words.ensures in
    let sending = pushed c.args.rest.now.store.shape c.args.bay.now.place.block a in
    let same : spell (Poke c.address_in-address.result w) ++ [] ≡ sending j =
    append-nil (spell (Poke c.address_in-address.result w)) ∙ ap₂ (λ (x y : ℕ). spell (Poke x y))
    (c.address_in-address.ensures ∙ ap₂ (λ (e : ShapeView) (n : ℕ). address_of e n j) inv.shape inv.block) word in
    let broken : IsBrokenOff g.W.Wire.carried (spell (Poke c.address_in-address.result w)) [] c.loop-j.wire c.push_word.new.wire c.loop-j.answerer
    c.push_word.new.answerer = search rules in
    record {
      whole = λ all. absurd (omega arith);
      short = λ _. cut_off sending j broken.count (g.W.Wire.carried c.args.wire.now) (g.W.Wire.carried c.loop-j.wire) (g.W.Wire.carried c.push_word.new.wire)
          (spell (Poke c.address_in-address.result w) ++ []) inv.carried same broken.proper broken.carries;
    }
