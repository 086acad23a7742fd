use Rattle.std.proofs.Common.{rules}
use Rattle.peek_poke.proofs.held_store.HeldStoreWordStore.read_word.Goals as goal

pub returns-in-Err : goal.returns-in-Err
returns-in-Err c = search rules
