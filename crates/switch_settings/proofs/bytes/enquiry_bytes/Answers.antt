use Rattle.std.proofs.Common.{◌≡◌, ◌≤◌, length, map, sym, ap, rules, ◌∙◌, ◌++◌, ◌∷◌, [], arith}
use Rattle.std.proofs.lemmas.List.{take_all}
use Rattle.std.specs.List.{range_with_len}
use Rattle.c004_commands.specs.Commands.{text}
use Rattle.c004_commands.specs.declared.command.Command.TheVariants.{Enquire}
use Rattle.c004_commands.specs.declared.port.TheConstants.{PORTS}
use Rattle.switch_settings.proofs.PairCommands.{enquiry_more}
use Rattle.switch_settings.proofs.bytes.enquiry_bytes.Goals as goal

pub loop-number-preserved : goal.loop-number-preserved
loop-number-preserved c = record {
  size = search rules;
  stand = omega (arith, c.put-stand.ensures.number);
  bytes = c.put-stand.ensures.bytes ∙ ap (λ t. t ++ (2 ∷ c.port_of-output.result ∷ [])) c.loop-number.invariant.bytes
      ∙ ap (λ n. text (map Enquire (range_with_len 0 c.loop-number.number)) ++ (2 ∷ n ∷ [])) c.port_of-output.ensures ∙ sym (enquiry_more c.loop-number.number);
}

pub returns : goal.returns
returns c =
    let all : c.loop-number.number ≡ PORTS = omega arith in
    let whole : length c.loop-number.bytes ≤ c.loop-number.stand = omega arith in
    sym (take_all c.loop-number.stand c.loop-number.bytes whole) ∙ c.loop-number.invariant.bytes ∙ ap (λ n. text (map Enquire (range_with_len 0 n))) all

pub loop-number-init : goal.loop-number-init
loop-number-init c = search rules
