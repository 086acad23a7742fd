use Rattle.std.proofs.Common.{ℕ, List, get_or, refl, sym, subst}
use Rattle.std.proofs.lemmas.List.{take_all}
use Rattle.batch.specs.declared.limits.TheConstants.{MAX_MODULES}
use Rattle.switch_settings.proofs.Joined.{IsTableOf, table_none, table_more, table_is_pairs, table_is_switch}
use Rattle.switch_settings.proofs.InOrder.{table_in_order}
use Rattle.switch_settings.proofs.pair_list.responders_of.Goals as goal

pub loop-t-init : goal.loop-t-init
loop-t-init c = record { size = refl; sound = λ i r e. absurd (table_none c.args.batch.now MAX_MODULES i r e); whole = λ i r none. absurd none }

pub loop-t-preserved : goal.loop-t-preserved
loop-t-preserved c =
    let t = get_or c.args.numbers.now c.loop-t.t-index 0 in
    table_more c.args.batch.now c.args.numbers.now c.loop-t.t-index t c.loop-t.responders c.transfer_of-transfer.result c.requires.batch c.requires.known
    c.requires.matching c.loop-t-test.true refl (sym c.transfer_of-transfer.ensures) c.loop-t.invariant

pub returns-clause-members : goal.returns-clause-members
returns-clause-members c =
    let all = take_all c.loop-t.t-index c.args.numbers.now c.loop-t-test.false in
    let is = subst (λ (ts : List ℕ). IsTableOf c.args.batch.now ts c.loop-t.responders) all c.loop-t.invariant in
    table_in_order c.args.batch.now c.args.numbers.now c.loop-t.responders is c.requires.known c.requires.matching

pub returns-clause-pairs : goal.returns-clause-pairs
returns-clause-pairs c = λ modules fits.
    let all = take_all c.loop-t.t-index c.args.numbers.now c.loop-t-test.false in
    let is = subst (λ (ts : List ℕ). IsTableOf c.args.batch.now ts c.loop-t.responders) all c.loop-t.invariant in
    table_is_pairs modules c.args.batch.now c.args.numbers.now c.loop-t.responders is c.requires.known c.requires.matching fits

pub returns-clause-switch : goal.returns-clause-switch
returns-clause-switch c = λ modules wiring fits room.
    let all = take_all c.loop-t.t-index c.args.numbers.now c.loop-t-test.false in
    let is = subst (λ (ts : List ℕ). IsTableOf c.args.batch.now ts c.loop-t.responders) all c.loop-t.invariant in
    table_is_switch modules wiring c.args.batch.now c.args.numbers.now c.loop-t.responders is c.requires.known c.requires.matching fits room
