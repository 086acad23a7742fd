use Rattle.std.proofs.Common.{◌≡◌, ◌∷◌, [], ◌++◌, length, refl, sym, subst, ◌∙◌, IsTrue, arith}
use Rattle.board_wiring.specs.Boards.{modules_of}
use Rattle.board_wiring.specs.Modules.{are_wired}
use Rattle.board_wiring.specs.declared.wired_module.WiredModule.{WiredModule}
use Rattle.board_wiring.proofs.Lines.{one_line, more_modules}
use Rattle.board_wiring.proofs.Modules.{last_ports}
use Rattle.board_wiring.proofs.reading.modules.Goals as goal

pub returns-in_default-with-clause-err : goal.returns-in_default-with-clause-err
returns-in_default-with-clause-err c =
    let modules = modules_of c.loop-number.board in
    let counted : length modules ≡ c.loop-number.number = c.loop-number.invariant.counted in (
      modules,
      c.loop-number.rest.now,
      record { counted = refl; wired = c.loop-number.invariant.wired; spelled = c.loop-number.invariant.spelled },
      omega (arith, counted, c.loop-number-test.true),
      λ on after same own.
          let one = one_line c.in-Some.on on c.in-Some.after.now after c.in-Some.ensures.some.0 (last_ports modules on own)
          (sym c.in-Some.ensures.some.1 ∙ same) in
          c.in_default-with.ensures.none (subst (λ (x : WiredModule). IsTrue (are_wired (modules ++ x ∷ []))) (sym one.0) own),
      omega (arith, counted),
    )

pub loop-number-preserved : goal.loop-number-preserved
loop-number-preserved c =
    more_modules c.args.lines.now c.loop-number.number (modules_of c.loop-number.board) (modules_of c.in-Some-with.more) c.in-Some.on c.loop-number.rest.now
    c.in-Some.after.now
    c.loop-number.invariant c.in-Some.ensures.some.1 c.in-Some-with.ensures.some c.in-Some-with.more.own
