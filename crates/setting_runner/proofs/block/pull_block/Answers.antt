use Rattle.std.proofs.Common.{ℕ, subst, sym}
use Rattle.module_memory.specs.Lending.{found_in}
use Rattle.setting_runner.specs.Carried.{HasCarried, pulled}
use Rattle.setting_runner.proofs.Addresses.{held_reads, held_window}
use Rattle.setting_runner.proofs.block.pull_block.Goals as goal

pub pull_words-requires-clause-reads : goal.pull_words-requires-clause-reads
pull_words-requires-clause-reads g c = held_reads c.blocks-2.ensures.read c.args.rest.now c.args.source c.in-Some.store c.in-Some.ensures

pub returns-in-Some-clause-carried : goal.returns-in-Some-clause-carried
returns-in-Some-clause-carried g c =
    let rest = c.args.rest.now in
    let p = c.args.source in
    subst (λ (x : ℕ). HasCarried (pulled x rest.store.shape p.block (found_in rest p)) rest.store.shape.words c.pull_words.result
    (g.W.Wire.carried c.args.wire.now) (g.W.Wire.carried c.pull_words.new.wire))
    (sym (held_window rest p c.in-Some.store c.in-Some.ensures)) c.pull_words.ensures.carried
