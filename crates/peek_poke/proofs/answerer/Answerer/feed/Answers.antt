use Rattle.peek_poke.proofs.SoFar.{so_far}
use Rattle.peek_poke.proofs.answerer.Answerer.feed.Goals as goal

pub returns-clause-text : goal.returns-clause-text
returns-clause-text g c = λ s text answers h. so_far g.S.WordStore.read_gives g.S.WordStore.write_gives s text answers _ _ c.args.byte _ _ _
    c.take_byte.ensures.step h
