use Rattle.book_record.proofs.SeenBytes.{sees_bytes}
use Rattle.book_record.proofs.laws.sums.Goals as goal

pub returns : goal.returns
returns c = sees_bytes
