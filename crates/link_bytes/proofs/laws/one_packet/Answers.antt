use Rattle.link_bytes.proofs.Lines.{whole_packet}
use Rattle.link_bytes.proofs.laws.one_packet.Goals as goal

pub returns-clause-whole : goal.returns-clause-whole
returns-clause-whole c = whole_packet
