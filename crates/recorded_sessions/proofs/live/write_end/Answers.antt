use Rattle.std.proofs.KnownBytes.{Appends-nil}
use Rattle.std.specs.Prelude.{[]}
use Rattle.recorded_sessions.proofs.Told.{grown_by}
use Rattle.named_files.proofs.Written.{left_behind, written_behind}
use Rattle.book_record.specs.Fronts.{last_lines}
use Rattle.recorded_sessions.proofs.live.write_end.Goals as goal

pub returns-then-is_whole-clause-end : goal.returns-then-is_whole-clause-end
returns-then-is_whole-clause-end g c = λ n name text counted so.
    written_behind c.write_bytes.result name _ _ text (last_lines n) (rw c.if-is_whole.true at so)
    (rw (c.as_bytes.ensures.bytes, c.last_lines.ensures n counted) at c.write_bytes.ensures.went)
    (rw (c.as_bytes.ensures.bytes, c.last_lines.ensures n counted) at c.write_bytes.ensures.cut)

pub returns-in-Some-clause-end : goal.returns-in-Some-clause-end
returns-in-Some-clause-end g c = λ n name text counted so. left_behind _ text (last_lines n) (rw c.if-is_whole.false at so)

pub returns-in-None-clause-end : goal.returns-in-None-clause-end
returns-in-None-clause-end g c = λ n name text counted so. left_behind _ text (last_lines n) (rw c.if-is_whole.false at so)

pub returns-then-is_whole-clause-grown : goal.returns-then-is_whole-clause-grown
returns-then-is_whole-clause-grown g c = grown_by c.write_bytes.result _ _ _ c.write_bytes.ensures.went c.write_bytes.ensures.cut

pub returns-in-Some-clause-grown : goal.returns-in-Some-clause-grown
returns-in-Some-clause-grown g c = ([], Appends-nil _)

pub returns-in-None-clause-grown : goal.returns-in-None-clause-grown
returns-in-None-clause-grown g c = ([], Appends-nil _)
