use Rattle.std.proofs.Common.{rules}
use Rattle.peek_poke.proofs.held_store.HeldStoreWordStore.write_word.Goals as goal

pub returns : goal.returns
returns c = search rules
