use Rattle.std.proofs.Common.{◌≡◌, ◌<◌, ◌++◌, ◌∷◌, [], List, None, length, take, get_or, arith, sym, ap, ◌∙◌}
use Rattle.std.proofs.lemmas.List.{take_more, take_all, length-take-le}
use Rattle.crossbar.specs.Pairs.{switch_of}
use Rattle.crossbar.specs.declared.pair.Pair.{Pair}
use Rattle.switch_settings.specs.Tables.{table_pairs}
use Rattle.switch_settings.proofs.Joined.{table_push}
use Rattle.switch_settings.proofs.pair_list.PairList.of_setting.Goals as goal

pub returns-clause-members : goal.returns-clause-members
returns-clause-members c =
    let table = c.responders_of-responders.result in
    let all : take c.loop-initiator.initiator table ≡ table = take_all c.loop-initiator.initiator table (omega arith) in
    c.loop-initiator.invariant.built ∙ ap (table_pairs 0) all ∙ c.responders_of-responders.ensures.members

pub returns-clause-switch : goal.returns-clause-switch
returns-clause-switch c = λ modules wiring fits room.
    let table = c.responders_of-responders.result in
    let all : take c.loop-initiator.initiator table ≡ table = take_all c.loop-initiator.initiator table (omega arith) in
    ap (switch_of wiring) (c.loop-initiator.invariant.built ∙ ap (table_pairs 0) all) ∙ c.responders_of-responders.ensures.switch modules wiring fits room

pub loop-initiator-preserved : goal.loop-initiator-preserved
loop-initiator-preserved c =
    let i = c.loop-initiator.initiator in
    let table = c.responders_of-responders.result in
    let long : i < length table = omega arith in
    let more = ap (table_pairs 0) (take_more table i None long) ∙ table_push 0 (take i table) (get_or table i None) i
    (omega (arith, length-take-le i table (omega arith))) in
    record {
      room = omega (arith, c.put.ensures.count, c.loop-initiator.invariant.room);
      built = c.put.ensures.pairs ∙ ap (λ (x : List Pair). x ++ table_pairs i (get_or table i None ∷ [])) c.loop-initiator.invariant.built ∙ sym more;
    }
