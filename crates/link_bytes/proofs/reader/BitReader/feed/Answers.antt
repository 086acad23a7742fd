use Rattle.link_bytes.specs.Reading.{IsPartial}
use Rattle.link_bytes.specs.Stages.{reading_of}
use Rattle.link_bytes.proofs.Lines.{Answers, answers_of, HasRead-more, taken, fault_is, answer_is}
use Rattle.link_bytes.proofs.BitSteps.{IsPartial-reading_of}
use Rattle.link_bytes.proofs.reader.BitReader.feed.Goals as goal
use Rattle.link_bytes.proofs.reader.BitReader.feed.Goals.{After-next_stage-stage}

-- the answer to the bit
answers : (c : After-next_stage-stage) → Answers c.args.self.now c.args.bit c.next_stage-stage.result.1 (reading_of c.next_stage-stage.result.0)
answers c =
    let e = c.next_stage-stage.ensures in
    rw (← c.self.view_is) (answers_of (reading_of c.self.inside.stage) c.args.bit c.next_stage-stage.result.1 _ e.taken e.fault e.framing)

-- what had come is less than a packet
partial : (c : After-next_stage-stage) → IsPartial c.args.self.now
partial c = rw (← c.self.view_is) (IsPartial-reading_of c.self.inside.stage c.self.invariant)

pub returns-clause-text : goal.returns-clause-text
returns-clause-text c = λ bits packets h. HasRead-more bits packets c.args.self.now c.args.bit c.next_stage-stage.result.1
    (reading_of c.next_stage-stage.result.0) h (answers (goal.at.returns-clause-text c).After-next_stage-stage)

pub returns-clause-step : goal.returns-clause-step
returns-clause-step c = λ rest left given is.
    let f = (goal.at.returns-clause-step c).After-next_stage-stage in
    answer_is rest c.args.bit c.next_stage-stage.result.1 (reading_of c.next_stage-stage.result.0) left given (rw is at (partial f)) (rw is at (answers f))

pub returns-clause-partial : goal.returns-clause-partial
returns-clause-partial c = (
  partial (goal.at.returns-clause-partial c).After-next_stage-stage,
  IsPartial-reading_of c.next_stage-stage.result.0
      c.next_stage-stage.ensures.stage,
)

pub returns-clause-only : goal.returns-clause-only
returns-clause-only c = λ rest more left signs is p r e.
    let f = (goal.at.returns-clause-only c).After-next_stage-stage in
    taken rest c.args.bit more left signs c.next_stage-stage.result.1 (reading_of c.next_stage-stage.result.0) (rw is at (answers f)) p r e

pub returns-clause-fault : goal.returns-clause-fault
returns-clause-fault c = fault_is c.args.self.now c.args.bit c.next_stage-stage.result.1 (reading_of c.next_stage-stage.result.0)
    (answers (goal.at.returns-clause-fault c).After-next_stage-stage)
