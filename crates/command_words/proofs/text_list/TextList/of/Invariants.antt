use Rattle.std.proofs.Common.{◌≡◌, map, take}
use Rattle.command_words.proofs.text_list.TextList.of.Given as goal

abbrev pub invariant-loop-text : goal.invariant-loop-text
invariant-loop-text l = l.list.items ≡ map (λ t. t.now) (take l.text-index l.texts)
