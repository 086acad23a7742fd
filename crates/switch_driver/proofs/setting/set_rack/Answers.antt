use Rattle.std.proofs.Common.{◌<◌, ◌≤◌, ◌∙◌, ap, sym}
use Rattle.std.proofs.lemmas.Bool.{false≢true}
use Rattle.c004_commands.specs.declared.port.TheConstants.{PORTS}
use Rattle.crossbar.specs.declared.switch.TheConstants.{JOINED_MODULES}
use Rattle.switch_settings.proofs.Replies.{more_pairs, some_too}
use Rattle.switch_driver.proofs.Settings.{narrow_wirings, stands_in, stops_in, wide_wirings}
use Rattle.switch_driver.specs.Steps.{wirings_of}
use Rattle.switch_driver.proofs.setting.set_rack.Goals as goal

pub set_both-requires-clause-pairs : goal.set_both-requires-clause-pairs
set_both-requires-clause-pairs g c =
    let few = rw c.in-Usual.is at c.requires.few in
    more_pairs c.in-Usual.modules PORTS c.args.pairs.now few (rw c.in-Usual.is at c.requires.pairs)

pub set_both-requires-clause-standing : goal.set_both-requires-clause-standing
set_both-requires-clause-standing g c =
    let few = rw c.in-Usual.is at c.requires.few in
    let wide : JOINED_MODULES < c.in-Usual.modules = c.if-modules.true in
    some_too _ _ c.args.standing.now (λ ps p. (more_pairs c.in-Usual.modules PORTS ps few p.0, λ honest. ((p.1 honest).wide_a wide, (p.1 honest).wide_b wide)))
    (rw c.in-Usual.is at c.requires.standing)

pub set_one-requires-clause-pairs : goal.set_one-requires-clause-pairs
set_one-requires-clause-pairs g c =
    let narrow : c.in-Usual.modules ≤ JOINED_MODULES = c.if-modules.false in
    more_pairs c.in-Usual.modules JOINED_MODULES c.args.pairs.now narrow (rw c.in-Usual.is at c.requires.pairs)

pub set_one-requires-clause-standing : goal.set_one-requires-clause-standing
set_one-requires-clause-standing g c =
    let narrow : c.in-Usual.modules ≤ JOINED_MODULES = c.if-modules.false in
    some_too _ _ c.args.standing.now (λ ps p. (more_pairs c.in-Usual.modules JOINED_MODULES ps narrow p.0, λ honest. (p.1 honest).narrow narrow))
    (rw c.in-Usual.is at c.requires.standing)

pub returns-in-Usual-clause-stands : goal.returns-in-Usual-clause-stands
returns-in-Usual-clause-stands g c =
    stands_in c.set_both.result c.args.rack _ c.args.standing.now c.args.pairs.now _ _
    (wide_wirings c.args.rack c.in-Usual.modules c.in-Usual.is c.if-modules.true)
    (λ same. false≢true (sym c.if-is_standing.false ∙ c.is_standing.ensures.1 same)) c.set_both.ensures.done

pub returns-in-Usual-clause-vain : goal.returns-in-Usual-clause-vain
returns-in-Usual-clause-vain g c =
    stops_in c.set_both.result c.args.rack _ c.args.standing.now c.args.pairs.now _ _
    (wide_wirings c.args.rack c.in-Usual.modules c.in-Usual.is c.if-modules.true)
    (λ same. false≢true (sym c.if-is_standing.false ∙ c.is_standing.ensures.1 same)) c.set_both.ensures.vain

pub returns-in-Usual-2-clause-stands : goal.returns-in-Usual-2-clause-stands
returns-in-Usual-2-clause-stands g c =
    stands_in c.set_one.result c.args.rack _ c.args.standing.now c.args.pairs.now _ _
    (narrow_wirings c.args.rack c.in-Usual.modules c.in-Usual.is c.if-modules.false)
    (λ same. false≢true (sym c.if-is_standing.false ∙ c.is_standing.ensures.1 same)) c.set_one.ensures.done

pub returns-in-Usual-2-clause-vain : goal.returns-in-Usual-2-clause-vain
returns-in-Usual-2-clause-vain g c =
    stops_in c.set_one.result c.args.rack _ c.args.standing.now c.args.pairs.now _ _
    (narrow_wirings c.args.rack c.in-Usual.modules c.in-Usual.is c.if-modules.false)
    (λ same. false≢true (sym c.if-is_standing.false ∙ c.is_standing.ensures.1 same)) c.set_one.ensures.vain

pub returns-in-Own-clause-stands : goal.returns-in-Own-clause-stands
returns-in-Own-clause-stands g c =
    stands_in c.set_one-in-Own.result c.args.rack _ c.args.standing.now c.args.pairs.now _ _ (ap wirings_of c.in-Own.is)
    (λ same. false≢true (sym c.if-is_standing.false ∙ c.is_standing.ensures.1 same)) c.set_one-in-Own.ensures.done

pub returns-in-Own-clause-vain : goal.returns-in-Own-clause-vain
returns-in-Own-clause-vain g c =
    stops_in c.set_one-in-Own.result c.args.rack _ c.args.standing.now c.args.pairs.now _ _ (ap wirings_of c.in-Own.is)
    (λ same. false≢true (sym c.if-is_standing.false ∙ c.is_standing.ensures.1 same)) c.set_one-in-Own.ensures.vain
