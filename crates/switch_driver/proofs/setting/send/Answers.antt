use Rattle.std.proofs.Common.{◌∷◌, [], append-nil, sym, ◌∙◌}
use Rattle.std.proofs.lemmas.Result.{on_ok_weaker, on_err_weaker}
use Rattle.std.specs.Option.{option_to_list}
use Rattle.c004_commands.specs.Commands.{row}
use Rattle.crossbar.specs.Chips.{switch_at}
use Rattle.crossbar.specs.Switch.{answer}
use Rattle.switch_settings.proofs.Asking.{ok_if}
use Rattle.switch_driver.proofs.setting.send.Goals as goal

pub converse-requires : goal.converse-requires
converse-requires g c = record {
  commands = c.args.command ∷ [];
  ports = (c.write-number.ensures.ports, tt);
  whole = c.write-number.ensures.bytes ∙ sym (append-nil (row c.args.command));
  count = sym c.requires;
}

pub returns-clause-set : goal.returns-clause-set
returns-clause-set g c =
    ok_if c.converse.result
    (λ h did. (did (c.args.command ∷ []) (c.write-number.ensures.ports, tt) (c.write-number.ensures.bytes ∙ sym (append-nil (row c.args.command)))).0)
    c.converse.ensures.done

pub returns-clause-replied : goal.returns-clause-replied
returns-clause-replied g c =
    ok_if c.converse.result
    (λ h did.
    (did (c.args.command ∷ []) (c.write-number.ensures.ports, tt) (c.write-number.ensures.bytes ∙ sym (append-nil (row c.args.command)))).1
    ∙ append-nil (option_to_list (answer c.args.command (switch_at c.args.chip (g.P.ConfigPort.switches c.args.port.now)))))
    c.converse.ensures.done

pub returns-clause-passed : goal.returns-clause-passed
returns-clause-passed g c =
    on_ok_weaker c.converse.result (λ passed. passed (c.args.command ∷ []) (c.write-number.ensures.ports, tt)
    (c.write-number.ensures.bytes ∙ sym (append-nil (row c.args.command)))) c.converse.ensures.passed

pub returns-clause-broken : goal.returns-clause-broken
returns-clause-broken g c =
    on_err_weaker c.converse.result (λ broken. broken (c.args.command ∷ []) (c.write-number.ensures.ports, tt)
    (c.write-number.ensures.bytes ∙ sym (append-nil (row c.args.command)))) c.converse.ensures.broken
