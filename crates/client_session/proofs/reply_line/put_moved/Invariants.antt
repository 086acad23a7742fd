use Rattle.std.proofs.Common.{◌≡◌, ◌+◌, ◌*◌, ◌≤◌, ◌++◌, length, take, flat_map}
use Rattle.client_session.specs.Replies.{moved_words}
use Rattle.client_session.proofs.reply_line.put_moved.Given as goal

abbrev pub invariant-loop-transfer : goal.invariant-loop-transfer
invariant-loop-transfer l = (l.line ≡ l.initial.line ++ flat_map moved_words (take l.transfer-index l.moved))
    × (length l.line ≤ length l.initial.line + 42 * l.transfer-index)
