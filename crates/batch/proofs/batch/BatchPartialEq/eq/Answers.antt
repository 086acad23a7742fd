use Rattle.std.proofs.Common.{◌≡◌, rules}
use Rattle.batch.specs.Equal.{same_transfers}
use Rattle.batch.proofs.Equal.{same_transfers-Decides}
use Rattle.batch.proofs.batch.BatchPartialEq.eq.Goals as goal

pub returns-clause-equal : goal.returns-clause-equal
returns-clause-equal c =
    let same : c.eq.result ≡ same_transfers c.args.self.now c.args.other.now = search rules in
    rw same (same_transfers-Decides c.args.self.now c.args.other.now)

pub returns-clause-value : goal.returns-clause-value
returns-clause-value c = search rules
