use Rattle.std.proofs.Common.{◌∷◌, [], ◌++◌, ◌∙◌, List, ℕ, ap, sym, subst, drop, get_or, ◌+◌, rules, Option}
use Rattle.std.proofs.lemmas.List.{take_more}
use Rattle.c004_commands.specs.Commands.{IsCommandFront}
use Rattle.c004_commands.specs.Reader.{GoesOn}
use Rattle.c004_commands.specs.declared.command.Command.{Command}
use Rattle.crossbar.proofs.Carrying.{goes_on, nothing_come}
use Rattle.link_devices.proofs.Begun.{more_begun, none_ends, nothing_whole}
use Rattle.link_devices.proofs.switch_state.reader_of.Goals as goal

pub loop-byte-init : goal.loop-byte-init
loop-byte-init c = record { come = c.new-reader.ensures; front = subst IsCommandFront (sym c.new-reader.ensures) nothing_come }

pub loop-byte-preserved : goal.loop-byte-preserved
loop-byte-preserved c =
    let bytes = c.args.begun.now in
    let k = c.loop-byte.byte-index in
    let more = more_begun c.loop-byte.reader c.feed.new.self (get_or bytes k 0) c.in-Ok-None.field-0 c.in-Ok-None.field-0-is c.loop-byte.invariant.front
    c.in-Ok-None.ensures.text in
    record {
      come = more ∙ ap (λ (t : List ℕ). t ++ get_or bytes k 0 ∷ []) c.loop-byte.invariant.come ∙ sym (take_more bytes k 0 c.loop-byte-test.true);
      front = c.feed.ensures.rest;
    }

pub returns-in-Ok-Some : goal.returns-in-Ok-Some
returns-in-Ok-Some c = λ whole.
    let bytes = c.args.begun.now in
    let k = c.loop-byte.byte-index in
    let on : GoesOn c.loop-byte.reader (get_or bytes k 0) c.in-Ok-Some.field-0 c.feed.new.self = c.in-Ok-Some.ensures.text in
    none_ends bytes c.loop-byte.reader c.feed.new.self k c.in-Ok-Some.field-0-0 c.loop-byte-test.true c.loop-byte.invariant.come c.loop-byte.invariant.front
    (subst (λ (o : Option Command). GoesOn c.loop-byte.reader (get_or bytes k 0) o c.feed.new.self) c.in-Ok-Some.field-0-is on) whole

pub returns-in-Err : goal.returns-in-Err
returns-in-Err c = λ whole.
    let bytes = c.args.begun.now in
    let k = c.loop-byte.byte-index in
    let is_ok = c.in-Err.ensures.taken c.loop-byte.reader (drop (k + 1) bytes) bytes [] [] (nothing_whole c.loop-byte.reader c.loop-byte.invariant.front)
    (rw c.loop-byte.invariant.come (goes_on bytes k [] bytes c.loop-byte-test.true (nothing_whole bytes whole))) in
    search (rules, is_ok)
