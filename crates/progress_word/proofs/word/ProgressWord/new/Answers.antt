use Rattle.progress_word.proofs.Moves.{begins}
use Rattle.progress_word.proofs.word.ProgressWord.new.Goals as goal

pub of_words-requires : goal.of_words-requires
of_words-requires c = begins
