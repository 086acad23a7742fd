use Rattle.std.proofs.Common.{rules}
use Rattle.named_files.proofs.Seen.{told_by}
use Rattle.named_files.proofs.client_streams.FileStreamsClientStreams.open.Goals as goal

pub open_files-opened-requires-clause-apart : goal.open_files-opened-requires-clause-apart
open_files-opened-requires-clause-apart g c = told_by c.args.self.now.apart.now c.args.self.now.clients.now c.args.client c.as_str-2.result.now
    c.args.self.now.hosted (search rules) (search rules)
