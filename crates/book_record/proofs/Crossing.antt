-- Entries that wait may go to another thread. In parts, since a search through all that they hold
-- runs out of steps.
use Rattle.std.proofs.Common.{rules}
use Rattle.std.proofs.Crossing.{crosses}
use Rattle.std.specs.declared.io.Write as Write
use Rattle.line_words.proofs.line.Line.TheSendSync as line
use Rattle.client_session.proofs.reply_line.ReplyLine.TheSendSync as reply_line
use Rattle.batch_book.specs.contracts.ghost_history.GhostHistory as GhostHistory
use Rattle.book_record.specs.declared.naming.StreamName as StreamName
use Rattle.book_record.specs.contracts.stream_history.StreamHistory as StreamHistory
use Rattle.book_record.specs.contracts.pending_text.PendingText as PendingText
use Rattle.book_record.specs.contracts.pending_text.PendingText.TheInside as Inside
use denote.RattleType.{RattleType}
use denote.Param.Send.{IsSend, view_send, recorded_send, struct_send, sendable}
use denote.Struct.Declared.{shape}

past_send : IsSend GhostHistory.the_row
past_send = search rules

pub waiting_send : IsSend PendingText.the_row
waiting_send =
    let T = Inside.the_type in
    view_send Inside.the_row _ _ _ _
    (recorded_send Inside.the_field.row _ _ T.to_one
    (struct_send (shape T) (
      search (crosses, sendable) depth 20,
      (search sendable depth 20, (search sendable depth 20, (line.the_send, (reply_line.the_send, (past_send, (search sendable depth 20, tt)))))),
    )))

pub streamed_send : (W N : RattleType) (w : Write.Ghosts W.Denot) (n : StreamName.Ghosts N.Denot) → IsSend W → IsSend N → IsSend (StreamHistory.the_row W N w n)
streamed_send W N w n sw sn = let x = waiting_send in search (crosses, sendable) depth 60 fits 20000
