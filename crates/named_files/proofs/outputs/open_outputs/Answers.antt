use Rattle.std.proofs.Common.{◌∙◌}
use Rattle.named_files.proofs.Seen.{kept_written}
use Rattle.named_files.proofs.outputs.open_outputs.Goals as goal

pub open_both-requires-clause-recorded : goal.open_both-requires-clause-recorded
open_both-requires-clause-recorded g c κs within = rw (c.requires ∙ c.in-Sessions.is) (kept_written c.in-Sessions.rack c.in-Sessions.job).0

pub open_both-requires-clause-image : goal.open_both-requires-clause-image
open_both-requires-clause-image g c κs within = rw (c.requires ∙ c.in-Sessions.is) (kept_written c.in-Sessions.rack c.in-Sessions.job).1
