use Rattle.std.proofs.Common.{◌≡◌, ◌<◌, ◌+◌, ◌++◌, ◌∷◌, [], length, take, drop, get_or, set, ap, ap₂, ◌∙◌, sym, subst, arith, length-append, refl}
use Rattle.std.proofs.lemmas.List.{take_more_set, drop-set-lt, drop_more}
use Rattle.batch.specs.declared.transfer.Transfer.{Transfer}
use Rattle.batch.specs.Places.{HasPlace, source_of}
use Rattle.batch.specs.Overlap.{transfer_at}
use Rattle.module_memory.specs.Lending.{BlockAt, found_in}
use Rattle.setting_runner.specs.Moves.{HasMoved}
use Rattle.setting_runner.proofs.Moves.{AreMovable-at, AreMovable-length, Completes-next, Completes-end, same_there, same_after}
use Rattle.setting_runner.proofs.work.move_in_turn.Goals as goal

pub transfer_of-transfer-requires : goal.transfer_of-transfer-requires
transfer_of-transfer-requires g c =
    let m = AreMovable-at c.args.work.now.rest.now c.args.work.now.batch.now c.args.numbers.now c.args.bays.now c.loop-i.i 0
    (record { place = record { «module» = 0; block = 0 }; words = [] }) c.requires.movable c.loop-i-test.true in
    m.known

pub push-requires-clause-transfer : goal.push-requires-clause-transfer
push-requires-clause-transfer g c =
    let m = AreMovable-at c.args.work.now.rest.now c.args.work.now.batch.now c.args.numbers.now c.args.bays.now c.loop-i.i 0
    (record { place = record { «module» = 0; block = 0 }; words = [] }) c.requires.movable c.loop-i-test.true in
    omega (arith, m.known, c.len.ensures.batch)

pub bounds-bays-i : goal.bounds-bays-i
bounds-bays-i g c = omega (arith, AreMovable-length c.args.work.now.rest.now c.args.work.now.batch.now c.args.numbers.now c.args.bays.now c.requires.movable)

pub move_block-words-requires-clause-source_exists : goal.move_block-words-requires-clause-source_exists
move_block-words-requires-clause-source_exists g c =
    let i = c.loop-i.i in
    let x : Transfer = c.transfer_of-transfer.result in
    let e : transfer_at c.args.work.now.batch.now (get_or c.args.numbers.now i 0) ≡ x = sym c.transfer_of-transfer.ensures in
    let m = AreMovable-at c.args.work.now.rest.now c.args.work.now.batch.now c.args.numbers.now c.args.bays.now i 0 c.index-bays-i.result c.requires.movable
    c.loop-i-test.true in
    subst (λ (y : Transfer). HasPlace c.args.work.now.rest.now.store.shape (source_of y)) e m.source_exists

pub move_block-words-requires-clause-source_here : goal.move_block-words-requires-clause-source_here
move_block-words-requires-clause-source_here g c =
    let i = c.loop-i.i in
    let x : Transfer = c.transfer_of-transfer.result in
    let e : transfer_at c.args.work.now.batch.now (get_or c.args.numbers.now i 0) ≡ x = sym c.transfer_of-transfer.ensures in
    let m = AreMovable-at c.args.work.now.rest.now c.args.work.now.batch.now c.args.numbers.now c.args.bays.now i 0 c.index-bays-i.result c.requires.movable
    c.loop-i-test.true in
    ap (λ (y : Transfer). length (found_in c.args.work.now.rest.now (source_of y))) (sym e) ∙ m.source_here

pub move_block-words-requires-clause-bay_exists : goal.move_block-words-requires-clause-bay_exists
move_block-words-requires-clause-bay_exists g c =
    let i = c.loop-i.i in
    let d = c.index-bays-i.result in
    let m = AreMovable-at c.args.work.now.rest.now c.args.work.now.batch.now c.args.numbers.now c.args.bays.now i 0 d c.requires.movable c.loop-i-test.true in
    subst (λ (b : BlockAt). HasPlace c.args.work.now.rest.now.store.shape b.place) (sym (same_there c.loop-i.bays c.args.bays.now i d c.loop-i.invariant.left))
    m.bay_exists

pub move_block-words-requires-clause-bay_width : goal.move_block-words-requires-clause-bay_width
move_block-words-requires-clause-bay_width g c =
    let i = c.loop-i.i in
    let d = c.index-bays-i.result in
    let m = AreMovable-at c.args.work.now.rest.now c.args.work.now.batch.now c.args.numbers.now c.args.bays.now i 0 d c.requires.movable c.loop-i-test.true in
    ap (λ (b : BlockAt). length b.words) (same_there c.loop-i.bays c.args.bays.now i d c.loop-i.invariant.left) ∙ m.bay_width

pub loop-i-preserved : goal.loop-i-preserved
loop-i-preserved g c =
    let i = c.loop-i.i in
    let inv = c.loop-i.invariant in
    let t = get_or c.args.numbers.now i 0 in
    let x : Transfer = c.transfer_of-transfer.result in
    let e : transfer_at c.args.work.now.batch.now t ≡ x = sym c.transfer_of-transfer.ensures in
    let old : BlockAt = c.index-bays-i.result in
    let new : BlockAt = c.move_block-words.new.bay in
    let count = c.move_block-words.result in
    let long = AreMovable-length c.args.work.now.rest.now c.args.work.now.batch.now c.args.numbers.now c.args.bays.now c.requires.movable in
    let o : drop i c.args.bays.now ≡ old ∷ drop (i + 1) c.args.bays.now =
    drop_more c.args.bays.now i old (omega arith) ∙ ap (λ (b : BlockAt). b ∷ drop (i + 1) c.args.bays.now)
    (sym (same_there c.loop-i.bays c.args.bays.now i old inv.left) ∙ sym c.index-bays-i.is) in
    let room : i < length c.loop-i.bays = omega arith in
    let one : HasMoved (g.W.WireMaker.is_sure c.args.work.now.wires.now) c.args.work.now.rest.now c.args.work.now.batch.now t old new (t, count) = record {
      named = refl;
      at_most = c.move_block-words.ensures.at_most;
      place = c.move_block-words.ensures.place ∙ ap (λ (b : BlockAt). b.place) (sym c.index-bays-i.is);
      words = c.move_block-words.ensures.words ∙ ap₂ (λ (y : Transfer) (b : BlockAt). take count (found_in c.args.work.now.rest.now (source_of y))
          ++ drop count b.words) (sym e) (sym c.index-bays-i.is);
      all_words = λ h. c.move_block-words.ensures.sure (c.line-wire.ensures.sure h);
    } in
    record {
      count = omega (arith, ap length c.push.ensures, length-append c.loop-i.moved ((t, count) ∷ []), inv.count);
      left = drop-set-lt (i + 1) c.loop-i.bays i new (omega arith) ∙ same_after c.loop-i.bays c.args.bays.now i inv.left;
      completes = Completes-next (g.W.WireMaker.is_sure c.args.work.now.wires.now) c.args.work.now.rest.now c.args.work.now.batch.now c.args.numbers.now
          c.args.bays.now i (take i c.loop-i.bays) (take (i + 1) (set c.loop-i.bays i new)) c.loop-i.moved c.push.new.self t old new count
          (drop_more c.args.numbers.now i 0 c.loop-i-test.true) o (take_more_set c.loop-i.bays i new room) c.push.ensures one inv.completes;
    }

pub returns : goal.returns
returns g c =
    let long = AreMovable-length c.args.work.now.rest.now c.args.work.now.batch.now c.args.numbers.now c.args.bays.now c.requires.movable in
    Completes-end (g.W.WireMaker.is_sure c.args.work.now.wires.now) c.args.work.now.rest.now c.args.work.now.batch.now c.args.numbers.now c.args.bays.now
    c.loop-i.i c.loop-i.bays c.loop-i.moved (omega arith) (omega arith) (omega arith) c.loop-i.invariant.completes
