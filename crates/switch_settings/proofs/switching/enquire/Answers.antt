use Rattle.std.proofs.Common.{refl, rules}
use Rattle.crossbar.specs.Chips.{switch_at, CarriesOutAt}
use Rattle.crossbar.specs.Traffic.{HaveConversed}
use Rattle.switch_settings.specs.Pairs.{all_enquiries}
use Rattle.switch_settings.proofs.Replies.{all_ports, asked, all_report}
use Rattle.switch_settings.proofs.switching.enquire.Goals as goal

pub converse-requires : goal.converse-requires
converse-requires g c = record { commands = all_enquiries; ports = all_ports; whole = c.enquiry_bytes.ensures; count = refl }

pub returns-clause-replies : goal.returns-clause-replies
returns-clause-replies g c = λ h output known.
    let chip = c.args.chip in
    let old = g.P.ConfigPort.switches c.args.port.now in
    let new = g.P.ConfigPort.switches c.converse.new.self in
    let did : CarriesOutAt chip c.enquiry_bytes.result old new c.converse.new.replies = search (rules, c.converse.ensures.done h) in
    let all = asked chip c.enquiry_bytes.result old new c.converse.new.replies c.enquiry_bytes.ensures did in
    all_report (switch_at chip old) output c.converse.new.replies known all.1

pub returns-clause-unmoved : goal.returns-clause-unmoved
returns-clause-unmoved g c = λ h.
    let chip = c.args.chip in
    let old = g.P.ConfigPort.switches c.args.port.now in
    let new = g.P.ConfigPort.switches c.converse.new.self in
    let did : CarriesOutAt chip c.enquiry_bytes.result old new c.converse.new.replies = search (rules, c.converse.ensures.done h) in
    (asked chip c.enquiry_bytes.result old new c.converse.new.replies c.enquiry_bytes.ensures did).0

pub returns-clause-passed : goal.returns-clause-passed
returns-clause-passed g c =
    let old = g.P.ConfigPort.passed c.args.port.now in
    let new = g.P.ConfigPort.passed c.converse.new.self in
    let passed : HaveConversed c.args.chip c.enquiry_bytes.result c.converse.new.replies old new = search (rules, c.converse.ensures.passed) in
    passed all_enquiries all_ports c.enquiry_bytes.ensures
