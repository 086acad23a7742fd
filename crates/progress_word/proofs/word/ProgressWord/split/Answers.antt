use Rattle.std.proofs.Common.{rules}
use Rattle.progress_word.proofs.Moves.{splits}
use Rattle.progress_word.proofs.word.ProgressWord.split.Goals as goal

pub split_seat-seat-requires : goal.split_seat-seat-requires
split_seat-seat-requires c = (search rules, search rules, splits _ _ (search rules))
