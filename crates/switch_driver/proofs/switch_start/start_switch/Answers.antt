use Rattle.std.proofs.Common.{◌≡◌, ◌++◌, length, refl, rules}
use Rattle.std.proofs.lemmas.Result.{on_ok_weaker}
use Rattle.c004_commands.specs.declared.port.TheConstants.{PORTS}
use Rattle.switch_settings.specs.Pairs.{all_enquiries}
use Rattle.switch_settings.proofs.Replies.{all_ports}
use Rattle.switch_driver.specs.ComingUp.{ending, own_joins}
use Rattle.switch_driver.proofs.ComingUp.{in_parts, passed_then, waking_ports}
use Rattle.switch_driver.proofs.switch_start.start_switch.Goals as goal

pub converse-requires : goal.converse-requires
converse-requires g c = record { commands = ending ++ own_joins; ports = waking_ports; whole = refl; count = refl }

pub converse-requires-2 : goal.converse-requires-2
converse-requires-2 g c = record { commands = all_enquiries; ports = all_ports; whole = c.enquiry_bytes.ensures; count = refl }

pub returns-in_err-converse-2-clause-passed : goal.returns-in_err-converse-2-clause-passed
returns-in_err-converse-2-clause-passed g c = passed_then _ _ _ _ _ _ _ _ c.in_ok-converse.ensures.carried c.in_err-converse-2.ensures.carried

pub returns-clause-passed : goal.returns-clause-passed
returns-clause-passed g c =
    passed_then _ _ _ _ _ _ _ _ (passed_then _ _ _ _ _ _ _ _ c.in_ok-converse.ensures.carried c.in_ok-converse-2.ensures.carried) c.hear_after.ensures.passed

pub returns-clause-up : goal.returns-clause-up
returns-clause-up g c =
    let woken = c.in_ok-converse.ensures.whole (ending ++ own_joins) waking_ports refl in
    let asked = c.in_ok-converse-2.ensures.whole all_enquiries all_ports c.enquiry_bytes.ensures in
    let all : length c.converse-2.new.replies ≡ PORTS = search rules in
    on_ok_weaker c.hear_after.result
    (λ h. record { first = c.converse-2.new.replies; all = all; output = h.0; known = h.1; last = h.2; passed = in_parts _ _ _ _ _ _ _ woken asked h.3 })
    c.hear_after.ensures.heard
