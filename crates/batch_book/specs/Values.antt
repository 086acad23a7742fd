-- How far the runs of a history have come, as values of the progress word. They are this project's
-- choice.
use Rattle.std.specs.Prelude.{ℕ, ◌+◌, ◌*◌, max, List, [], ◌∷◌}
use Rattle.batch_book.specs.declared.limits.TheConstants.{RUN_STEP}
use Rattle.batch_book.specs.declared.entry.Entry.{Entry}
use Rattle.batch_book.specs.declared.reply.Reply.{Reply}
use Rattle.batch_book.specs.declared.reply.Reply.TheVariants.{Ran, Stopped}

-- the value of so many settings of a run that are done
abbrev pub value_at : ℕ → ℕ → ℕ
value_at run settings = RUN_STEP * run + settings

-- the value of a reply that tells of a run; of any other it is 0
abbrev pub value_of : Reply → ℕ
value_of (Ran run settings words) = value_at run settings
value_of (Stopped run setting cause moved) = value_at run setting
value_of reply = 0

-- the greatest value of these entries, 0 where there is none
abbrev pub greatest : List Entry → ℕ
greatest [] = 0
greatest (e ∷ es) = max (value_of e.reply) (greatest es)
