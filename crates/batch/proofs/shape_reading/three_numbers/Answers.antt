use Rattle.batch.proofs.Shapes.{of_shape, to_modules, to_blocks}
use Rattle.batch.proofs.shape_reading.three_numbers.Goals as goal

pub returns-in_err-blocks-clause-none : goal.returns-in_err-blocks-clause-none
returns-in_err-blocks-clause-none c = rw c.from_residual-in_err-blocks.ensures (λ b denotes.
    let fits = of_shape b denotes.allowed in
    let p = to_modules c.args.text.now c.in_ok-modules.modules c.in_ok-modules.rest.now b c.in_ok-modules.ensures.some fits denotes.spelled in
    c.in_err-blocks.ensures.none b.blocks _ fits.blocks p.1)

pub returns-in_err-words-clause-none : goal.returns-in_err-words-clause-none
returns-in_err-words-clause-none c = rw c.from_residual-in_err-words.ensures (λ b denotes.
    let fits = of_shape b denotes.allowed in
    let p = to_blocks c.args.text.now c.in_ok-modules.modules c.in_ok-blocks.blocks c.in_ok-modules.rest.now c.in_ok-blocks.rest.now b
    c.in_ok-modules.ensures.some c.in_ok-blocks.ensures.some fits denotes.spelled in
    c.in_err-words.ensures.none b.words fits.words p.2)
