use Rattle.std.proofs.Common.{◌∷◌, ◌++◌, [], ℕ, ◌≢◌, refl, sym}
use Rattle.std.proofs.lemmas.Bool.{false≢true}
use Rattle.std.proofs.lemmas.List.Elements.{All-push}
use Rattle.std.specs.Io.KnownBytes.{Consumes}
use Rattle.byte_streams.proofs.Carrying.{consumes_then}
use Rattle.switch_driver.proofs.lines.wait_line.Goals as goal

pub returns-in-Some-eq10-clause-waited : goal.returns-in-Some-eq10-clause-waited
returns-in-Some-eq10-clause-waited g c =
    let last : Consumes (g.I.Read.remaining c.loop.reader) (g.I.Read.remaining c.read_byte.new.reader) (10 ∷ []) =
    rw (c.in-Some-eq10.is, c.in-Some-eq10.field-0-test) at c.in_ok-read_byte.ensures.read in
    record {
      came = c.loop.invariant.0 ++ 10 ∷ [];
      read = consumes_then _ _ _ _ _ c.loop.invariant.2 last;
      ends = λ _. (c.loop.invariant.0, c.loop.invariant.1, refl);
      none = λ e. absurd (false≢true (sym e));
    }

pub loop-preserved : goal.loop-preserved
loop-preserved g c =
    let next : Consumes (g.I.Read.remaining c.loop.reader) (g.I.Read.remaining c.read_byte.new.reader) (c.in-Some.field-0 ∷ []) = rw c.in-Some.is
    at c.in_ok-read_byte.ensures.read in (
      c.loop.invariant.0 ++ c.in-Some.field-0 ∷ [],
      All-push (λ (b : ℕ). b ≢ 10) c.loop.invariant.0 c.in-Some.field-0 c.loop.invariant.1 c.in-Some.field-0-test.1,
      consumes_then _ _ _ _ _ c.loop.invariant.2 next,
    )
