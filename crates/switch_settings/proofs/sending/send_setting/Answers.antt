use Rattle.std.proofs.Common.{◌≡◌, ℕ, List, [], rules, subst}
use Rattle.std.proofs.lemmas.Result.{on_ok_weaker, on_err_weaker}
use Rattle.crossbar.specs.Chips.{switch_at}
use Rattle.crossbar.specs.Pairs.{switch_of}
use Rattle.crossbar.specs.Traffic.{Passes, conversed}
use Rattle.switch_settings.specs.Sending.{turning}
use Rattle.switch_settings.proofs.PairCommands.{turning_commands, setting_bytes_fit, change_bytes_fit}
use Rattle.switch_settings.proofs.Replies.{some_too, sent}
use Rattle.switch_settings.proofs.Asking.{no_items}
use Rattle.switch_settings.proofs.Asking.{ok_if}
use Rattle.switch_settings.proofs.sending.send_setting.Goals as goal

pub bytes_for-number-requires-clause-setting_room : goal.bytes_for-number-requires-clause-setting_room
bytes_for-number-requires-clause-setting_room g c = setting_bytes_fit c.args.wiring

pub bytes_for-number-requires-clause-change_room : goal.bytes_for-number-requires-clause-change_room
bytes_for-number-requires-clause-change_room g c = change_bytes_fit c.args.wiring

pub returns-clause-set : goal.returns-clause-set
returns-clause-set g c =
    let chip = c.args.chip in
    let old = g.P.ConfigPort.switches c.args.port.now in
    ok_if c.converse.result
    (λ h did. sent chip _ old (g.P.ConfigPort.switches c.converse.new.self) (switch_of c.args.wiring c.args.pairs.now) c.converse.new.replies
    (c.bytes_for-number.ensures.sets (switch_at chip old) (some_too _ _ c.args.standing.now (λ x p. p.1 h) c.requires.standing)) did)
    c.converse.ensures.done

pub returns-clause-passed : goal.returns-clause-passed
returns-clause-passed g c =
    let old = g.P.ConfigPort.passed c.args.port.now in
    let new = g.P.ConfigPort.passed c.converse.new.self in
    let commands = turning c.args.wiring c.args.standing.now c.args.pairs.now in
    let none : c.converse.new.replies ≡ [] = no_items c.converse.new.replies (search rules) in
    let ports = turning_commands c.args.wiring c.args.standing.now c.args.pairs.now (some_too _ _ c.args.standing.now (λ x p. p.0) c.requires.standing)
    c.requires.pairs in
    on_ok_weaker c.converse.result (λ passed. subst (λ (replies : List ℕ). Passes old new (conversed c.args.chip commands replies)) none
    (passed commands ports c.bytes_for-number.ensures.bytes)) c.converse.ensures.passed

pub returns-clause-broken : goal.returns-clause-broken
returns-clause-broken g c =
    let commands = turning c.args.wiring c.args.standing.now c.args.pairs.now in
    let ports = turning_commands c.args.wiring c.args.standing.now c.args.pairs.now (some_too _ _ c.args.standing.now (λ x p. p.0) c.requires.standing)
    c.requires.pairs in
    on_err_weaker c.converse.result (λ broken. broken commands ports c.bytes_for-number.ensures.bytes) c.converse.ensures.broken
