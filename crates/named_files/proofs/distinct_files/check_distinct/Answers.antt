use Rattle.std.proofs.Common.{◌∙◌}
use Rattle.named_files.proofs.Seen.{seen_apart}
use Rattle.named_files.proofs.distinct_files.check_distinct.Goals as goal

pub returns-clause-apart : goal.returns-clause-apart
returns-clause-apart g c =
    seen_apart (g.S.PathLookup.leads c.args.system.now) _ _ _ (c.as_slice.ensures.value ∙ c.in_ok-files.ensures)
    (c.as_slice-2.ensures.value ∙ c.in_ok-files.ensures)
    c.in_ok-look_at_streams.ensures.out c.in_ok-look_at_streams.ensures.err c.in_ok-look_through.ensures.apart
