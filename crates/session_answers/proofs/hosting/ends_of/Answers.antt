use Rattle.std.proofs.Common.{length, arith}
use Rattle.session_answers.proofs.HostedSessions.{one_more_end, room_more, room_within}
use Rattle.session_answers.proofs.hosting.ends_of.Goals as goal

pub put_hosted-requires-after_bounds : goal.put_hosted-requires-after_bounds
put_hosted-requires-after_bounds g c κs within =
    let inv = c.loop-ending.invariant in
    let known = g.D.ClientStreams.known c.args.streams.now in
    let room = room_within known c.loop-ending.client (length c.args.endings.now) (omega (arith, inv.0)) in
    omega (arith, inv.1, inv.2, room)

pub loop-ending-preserved : goal.loop-ending-preserved
loop-ending-preserved g c =
    let inv = c.loop-ending.invariant in
    let known = g.D.ClientStreams.known c.args.streams.now in
    let k = c.loop-ending.client in (
      omega (arith, inv.0),
      omega (arith, inv.1, c.put_hosted.ensures.capacity),
      omega (arith, inv.2, c.put_hosted.ensures.room, room_more known k),
      one_more_end known c.args.endings.now c.loop-ending.ending-index k c.ending-item.result c.loop-ending.text.items c.put_hosted.new.text.items (omega arith)
          inv.0 c.ending-item.is inv.3 c.put_hosted.ensures.text,
    )
