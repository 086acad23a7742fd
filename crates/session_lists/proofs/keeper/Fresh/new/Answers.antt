use Rattle.session_lists.proofs.Moves.{begins}
use Rattle.session_lists.proofs.keeper.Fresh.new.Goals as goal

pub of_words-requires : goal.of_words-requires
of_words-requires g c = begins g.E.SessionItem.session
