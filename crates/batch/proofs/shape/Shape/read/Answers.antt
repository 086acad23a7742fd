use Rattle.std.proofs.Common.{rules}
use Rattle.batch.specs.ShapeView.{extent}
use Rattle.batch.proofs.Shapes.{no_shape}
use Rattle.batch.proofs.shape.Shape.read.Goals as goal

pub returns-clause-bad : goal.returns-clause-bad
returns-clause-bad c =
    no_shape c.args.text.now (extent c.in-Some.modules c.in-Some.blocks c.in-Some.words) c.new.result c.in-Some.ensures.spelled
    (record { modules = c.in-Some.ensures.numbers.0; blocks = c.in-Some.ensures.numbers.1; words = c.in-Some.ensures.numbers.2 })
    c.new.ensures.accepted

pub returns-clause-shape : goal.returns-clause-shape
returns-clause-shape c = search rules
