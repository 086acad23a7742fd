use Rattle.std.proofs.Common.{rules, ◌≡◌, ℕ, ◌<◌, ◌++◌, length, get_or, set, ap, ap₂, ◌∙◌, sym, arith, is_ok, List, length-set}
use Rattle.batch.specs.ShapeView.{ShapeView}
use Rattle.module_memory.specs.Lending.{BlockAt, found_in}
use Rattle.module_memory.proofs.CoreLaw.{prefix_step}
use Rattle.module_memory.specs.Address.{address_from}
use Rattle.peek_poke.specs.Messages.{spell, word_bytes}
use Rattle.peek_poke.specs.declared.message.Message.TheVariants.{Peek}
use Rattle.setting_runner.specs.Carried.{pulled}
use Rattle.setting_runner.proofs.Carried.{one_more, cut_off}
use Rattle.setting_runner.proofs.Addresses.{ok_word}
use Rattle.setting_runner.proofs.block.pull_words.Goals as goal

pub pull_word-requires-clause-has : goal.pull_word-requires-clause-has
pull_word-requires-clause-has g c =
    let inv = c.loop-j.invariant in
    let j = c.loop-j.j in
    let below : j < c.args.rest.now.store.shape.words = omega (arith, inv.end) in
    let at : c.address_in-address.result ≡ address_from c.args.window c.args.rest.now.store.shape c.args.source.block j = c.address_in-address.ensures
    ∙ ap (λ (e : ShapeView). address_from c.args.window e c.args.source.block j) inv.shape in
    ap is_ok (ap₂ (λ (x : _) (y : ℕ). g.S.WordStore.read_gives x y) inv.store at ∙ c.requires.reads j below)

pub loop-j-preserved : goal.loop-j-preserved
loop-j-preserved g c =
    let inv = c.loop-j.invariant in
    let j = c.loop-j.j in
    let a = found_in c.args.rest.now c.args.source in
    let old = c.args.bay.now.words in
    let below : j < c.args.rest.now.store.shape.words = omega (arith, inv.end) in
    let at : c.address_in-address.result ≡ address_from c.args.window c.args.rest.now.store.shape c.args.source.block j = c.address_in-address.ensures
    ∙ ap (λ (e : ShapeView). address_from c.args.window e c.args.source.block j) inv.shape in
    let word : c.in-Ok.word ≡ get_or a j 0 = ok_word c.in-Ok.word (get_or a j 0) (g.S.WordStore.read_gives c.loop-j.store c.address_in-address.result)
    c.in-Ok.ensures.read
    (ap₂ (λ (x : _) (y : ℕ). g.S.WordStore.read_gives x y) inv.store at ∙ c.requires.reads j below) in
    let words = ap (λ (x : BlockAt). x.words) c.set.ensures in
    let sending = pulled c.args.window c.args.rest.now.store.shape c.args.source.block a in
    let same : spell (Peek c.address_in-address.result) ++ word_bytes c.in-Ok.word ≡ sending j =
    ap₂ (λ (x y : ℕ). spell (Peek x) ++ word_bytes y) at word in
    record {
      shape = inv.shape;
      end = inv.end;
      store = c.pull_word.ensures.unchanged ∙ inv.store;
      place = ap (λ (x : BlockAt). x.place) c.set.ensures ∙ inv.place;
      width = ap (λ (x : List ℕ). length x) words ∙ (length-set c.loop-j.bay.words j c.in-Ok.word ∙ inv.width);
      words = words ∙ ap₂ (λ (x : List ℕ) (y : ℕ). set x j y) inv.words word ∙ prefix_step a old j (c.requires.source_here ∙ sym c.requires.bay_width)
          (omega (arith, c.requires.source_here, ap (λ (x : ShapeView). x.words) inv.shape));
      rest = search rules;
      carried = one_more sending j (g.W.Wire.carried c.args.wire.now) (g.W.Wire.carried c.loop-j.wire) (g.W.Wire.carried c.pull_word.new.wire)
          (spell (Peek c.address_in-address.result) ++ word_bytes c.in-Ok.word) inv.carried (search rules) same;
      failures = search rules;
      sure = search rules;
    }

pub returns-in-Err-clause-carried : goal.returns-in-Err-clause-carried
returns-in-Err-clause-carried g c =
    let inv = c.loop-j.invariant in
    let j = c.loop-j.j in
    let a = found_in c.args.rest.now c.args.source in
    let word = get_or a j 0 in
    let below : j < c.args.rest.now.store.shape.words = omega (arith, inv.end) in
    let at : c.address_in-address.result ≡ address_from c.args.window c.args.rest.now.store.shape c.args.source.block j = c.address_in-address.ensures
    ∙ ap (λ (e : ShapeView). address_from c.args.window e c.args.source.block j) inv.shape in
    let there = ap₂ (λ (x : _) (y : ℕ). g.S.WordStore.read_gives x y) inv.store at ∙ c.requires.reads j below in
    let broken = c.in-Err.ensures.broken word there in
    let sending = pulled c.args.window c.args.rest.now.store.shape c.args.source.block a in
    let same : spell (Peek c.address_in-address.result) ++ word_bytes word ≡ sending j = ap (λ (x : ℕ). spell (Peek x) ++ word_bytes word) at in
    record {
      whole = λ all. absurd (omega arith);
      short = λ _. cut_off sending j broken.count (g.W.Wire.carried c.args.wire.now) (g.W.Wire.carried c.loop-j.wire) (g.W.Wire.carried c.pull_word.new.wire)
          (spell (Peek c.address_in-address.result) ++ word_bytes word) inv.carried same broken.proper broken.carries;
    }
