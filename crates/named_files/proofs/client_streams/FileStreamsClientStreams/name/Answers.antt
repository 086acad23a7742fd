use Rattle.std.proofs.Common.{rules}
use Rattle.named_files.proofs.client_streams.FileStreamsClientStreams.name.Goals as goal

pub returns-in-Some : goal.returns-in-Some
returns-in-Some g c = search rules
