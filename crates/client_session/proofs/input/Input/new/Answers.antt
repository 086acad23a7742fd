use Rattle.std.proofs.Common.{rules}
use Rattle.client_session.proofs.input.Input.new.Goals as goal

pub returns : goal.returns
returns c = search rules
