use Rattle.std.proofs.Common.{rules}
use Rattle.batch_book.proofs.reply.Reply.is_logged.Goals as goal

pub returns : goal.returns
returns c = search rules
