use Rattle.steady_schedule.specs.Matchings.{partner}
use Rattle.steady_schedule.proofs.Covers.{none_from}
use Rattle.steady_schedule.proofs.Longest.{barred_is}
use Rattle.steady_schedule.proofs.choosing.join_needed_one.Goals as goal

pub returns-clause-vain : goal.returns-clause-vain
returns-clause-vain c =
    let free = none_from (partner c.args.of.now c.args.x) c.is_some.result c.is_some.ensures c.if-is_some.false in
    barred_is c.args.held.now.near c.args.held.now.needed c.augment.new.unseen c.args.x c.args.of.now c.augment.new.of c.args.back.now c.augment.new.back free
    (c.augment.ensures.vain c.if-augment.false) (c.augment.ensures.seen c.if-augment.false)
