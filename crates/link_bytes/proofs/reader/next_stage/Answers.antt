use Rattle.std.proofs.Common.{rules, subst}
use Rattle.link_bytes.specs.Stages.{IsStage}
use Rattle.link_bytes.proofs.BitSteps.{idle_bit, start_bit, one_bit, acknowledge, data_goes_on, data_ends, data_breaks}
use Rattle.link_bytes.proofs.reader.next_stage.Goals as goal

pub returns-in-Idle-false-clause-taken : goal.returns-in-Idle-false-clause-taken
returns-in-Idle-false-clause-taken c = rw (c.in-Idle-false.is-0, c.in-Idle-false.is-1) (search (rules, idle_bit))

pub returns-in-Idle-true-clause-taken : goal.returns-in-Idle-true-clause-taken
returns-in-Idle-true-clause-taken c = rw (c.in-Idle-true.is-0, c.in-Idle-true.is-1) (search (rules, start_bit))

pub returns-in-Started-true-clause-taken : goal.returns-in-Started-true-clause-taken
returns-in-Started-true-clause-taken c = rw (c.in-Started-true.is-0, c.in-Started-true.is-1) (search (rules, one_bit))

pub returns-in-Started-false-clause-taken : goal.returns-in-Started-false-clause-taken
returns-in-Started-false-clause-taken c = rw (c.in-Started-false.is-0, c.in-Started-false.is-1) (search (rules, acknowledge))

pub returns-in-Data-default-clause-taken : goal.returns-in-Data-default-clause-taken
returns-in-Data-default-clause-taken c =
    rw c.in-Data-default.is-0 (data_goes_on _ _ _ _ c.if-count-lt-DATA_BITS.true c.with_bit-value.ensures.range c.with_bit-value.ensures.bits)

pub returns-in-Data-false-clause-taken : goal.returns-in-Data-false-clause-taken
returns-in-Data-false-clause-taken c =
    let stage = subst IsStage c.in-Data-default.is-0 c.requires in
    rw (c.in-Data-default.is-0, c.in-Data-false.is-1) (data_ends _ _ c.if-count-lt-DATA_BITS.false stage)

pub returns-in-Data-true-clause-fault : goal.returns-in-Data-true-clause-fault
returns-in-Data-true-clause-fault c =
    let stage = subst IsStage c.in-Data-default.is-0 c.requires in
    rw (c.in-Data-default.is-0, c.in-Data-true.is-1) (data_breaks _ _ c.if-count-lt-DATA_BITS.false stage)
