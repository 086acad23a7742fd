use Rattle.std.proofs.Common.{◌≡◌, ◌<◌, ◌≤◌, true, false, arith}
use Rattle.std.proofs.lemmas.Bool.Decides.{nat_tests}
use Rattle.std.specs.Prelude.{nat_lt}
use Rattle.c004_commands.specs.declared.port.TheConstants.{PORTS}
use Rattle.crossbar.specs.declared.switch.TheConstants.{JOINED_MODULES}
use Rattle.switch_settings.proofs.Replies.{more_pairs, some_too}
use Rattle.switch_settings.proofs.switching.configure_switches.Goals as goal

pub configure_one-requires-clause-pairs : goal.configure_one-requires-clause-pairs
configure_one-requires-clause-pairs g c = more_pairs c.args.modules JOINED_MODULES c.args.pairs.now (omega arith) c.requires.pairs

pub configure_one-requires-clause-standing : goal.configure_one-requires-clause-standing
configure_one-requires-clause-standing g c =
    let narrow : c.args.modules ≤ JOINED_MODULES = omega arith in
    some_too _ _ c.args.standing.now (λ ps p. (more_pairs c.args.modules JOINED_MODULES ps narrow p.0, λ honest. (p.1 honest).narrow narrow))
    c.requires.standing

pub configure_both-requires-clause-pairs : goal.configure_both-requires-clause-pairs
configure_both-requires-clause-pairs g c = more_pairs c.args.modules PORTS c.args.pairs.now c.requires.few c.requires.pairs

pub configure_both-requires-clause-standing : goal.configure_both-requires-clause-standing
configure_both-requires-clause-standing g c =
    let wide : JOINED_MODULES < c.args.modules = omega arith in
    some_too _ _ c.args.standing.now
    (λ ps p. (more_pairs c.args.modules PORTS ps c.requires.few p.0, λ honest. ((p.1 honest).wide_a wide, (p.1 honest).wide_b wide))) c.requires.standing

pub returns-clause-replied : goal.returns-clause-replied
returns-clause-replied g c =
    let two : nat_lt JOINED_MODULES c.args.modules ≡ true = grind (arith, nat_tests) in
    rw two c.configure_both.ensures.replied

pub returns-clause-vain : goal.returns-clause-vain
returns-clause-vain g c =
    let two : nat_lt JOINED_MODULES c.args.modules ≡ true = grind (arith, nat_tests) in
    rw two c.configure_both.ensures.vain

pub returns-then-modules-clause-replied : goal.returns-then-modules-clause-replied
returns-then-modules-clause-replied g c =
    let one : nat_lt JOINED_MODULES c.args.modules ≡ false = grind (arith, nat_tests) in
    rw one c.configure_one.ensures.replied

pub returns-then-modules-clause-vain : goal.returns-then-modules-clause-vain
returns-then-modules-clause-vain g c =
    let one : nat_lt JOINED_MODULES c.args.modules ≡ false = grind (arith, nat_tests) in
    rw one c.configure_one.ensures.vain
