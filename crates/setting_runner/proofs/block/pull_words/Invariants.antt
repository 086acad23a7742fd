use Rattle.std.proofs.Common.{◌≡◌, ◌++◌, length}
use Rattle.module_memory.specs.Lending.{found_in}
use Rattle.peek_poke.specs.Messages.{IsAtRest}
use Rattle.setting_runner.specs.Carried.{first_sent, pulled}
use Rattle.setting_runner.specs.Moves.{moved_into}
use Rattle.setting_runner.proofs.block.pull_words.Given as goal

abbrev pub invariant-loop-j : goal.invariant-loop-j
invariant-loop-j g l = record {
  shape : l.shape ≡ l.fn.rest.store.shape;
  end : l.j-end ≡ l.fn.rest.store.shape.words;
  store : l.store ≡ l.fn.store;
  place : l.bay.place ≡ l.fn.bay.place;
  width : length l.bay.words ≡ l.fn.rest.store.shape.words;
  words : l.bay.words ≡ moved_into l.j (found_in l.rest l.source) l.fn.bay.words;
  rest : IsAtRest l.answerer;
  carried : g.W.Wire.carried l.wire ≡ g.W.Wire.carried l.fn.wire ++ first_sent (pulled l.window l.rest.store.shape l.source.block (found_in l.rest l.source))
      l.j;
  failures : g.W.Wire.failures l.wire ≡ g.W.Wire.failures l.fn.wire;
  sure : g.W.Wire.never_fails l.fn.wire → g.W.Wire.never_fails l.wire;
}
