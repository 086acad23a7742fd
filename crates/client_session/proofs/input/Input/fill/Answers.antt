use Rattle.std.proofs.Common.{◌-◌, ◌++◌, ◌∙◌, [], ap, sym, take, append-nil, arith}
use Rattle.std.proofs.lemmas.List.{length-take}
use Rattle.client_session.specs.declared.limits.TheConstants.{INPUT_BYTES}
use Rattle.client_session.proofs.Asking.{RisesBy-none}
use Rattle.client_session.proofs.Known.{Consumes-kept}
use Rattle.client_session.proofs.Parts.{refilled, unfilled}
use Rattle.client_session.proofs.input.Input.fill.Goals as goal

pub returns-in-Ok-clause-takes : goal.returns-in-Ok-clause-takes
returns-in-Ok-clause-takes g c =
    let s = c.self.inside in
    let got = take c.in-Ok.n c.ask.new.buf in
    record {
      bytes = got;
      consumed = c.in-Ok.ensures.bytes.0;
      kept = ap (λ h. h.pending ++ got) (sym c.self.view_is)
          ∙ sym (refilled s.start s.end (INPUT_BYTES - (s.end - s.start)) c.in-Ok.n s.buffer c.copy_within.new.self c.ask.new.buf c.copy_within.ensures.after
          (omega arith) (omega arith) c.in-Ok.ensures.bound.0);
    }

pub returns-in-Ok-clause-reads : goal.returns-in-Ok-clause-reads
returns-in-Ok-clause-reads g c = λ _. omega (arith, ap (λ h. h.reads) c.self.view_is)

pub returns-in-Ok-clause-gives : goal.returns-in-Ok-clause-gives
returns-in-Ok-clause-gives g c = λ _.
    let reads = ap (λ h. h.reads) c.self.view_is in
    record { asks = 1; counted = c.ask.ensures.asked; all = omega (arith, reads); few = omega (arith, reads) }

pub returns-in-Err-clause-takes : goal.returns-in-Err-clause-takes
returns-in-Err-clause-takes g c =
    let s = c.self.inside in
    let same = unfilled s.start s.end (INPUT_BYTES - (s.end - s.start)) s.buffer c.copy_within.new.self c.ask.new.buf c.copy_within.ensures.after (omega arith)
    (omega arith) in
    record { bytes = []; consumed = Consumes-kept _ _ c.in-Err.ensures.bytes; kept = append-nil _ ∙ sym (same ∙ ap (λ h. h.pending) c.self.view_is) }

pub returns-in-Err-clause-reads : goal.returns-in-Err-clause-reads
returns-in-Err-clause-reads g c = λ _. omega (arith, ap (λ h. h.reads) c.self.view_is)

pub returns-in-Err-clause-gives : goal.returns-in-Err-clause-gives
returns-in-Err-clause-gives g c = λ _.
    let reads = ap (λ h. h.reads) c.self.view_is in
    record { asks = 1; counted = c.ask.ensures.asked; all = omega (arith, reads); few = omega (arith, reads) }

pub returns-in-Err-2-clause-err : goal.returns-in-Err-2-clause-err
returns-in-Err-2-clause-err g c =
    let s = c.self.inside in (
      unfilled s.start s.end (INPUT_BYTES - (s.end - s.start)) s.buffer c.copy_within.new.self c.ask.new.buf c.copy_within.ensures.after (omega arith)
          (omega arith) ∙ ap (λ h. h.pending) c.self.view_is,
      tt,
    )

pub returns-in-Err-2-clause-takes : goal.returns-in-Err-2-clause-takes
returns-in-Err-2-clause-takes g c = record {
  bytes = [];
  consumed = Consumes-kept _ _ c.in-Err-2.ensures.bytes;
  kept = append-nil _ ∙ sym (returns-in-Err-2-clause-err g c).0;
}

pub returns-in-Err-2-clause-stops : goal.returns-in-Err-2-clause-stops
returns-in-Err-2-clause-stops g c = record { asks = 1; counted = c.ask.ensures.asked; within = omega (arith, ap (λ h. h.reads) c.self.view_is) }

pub returns-then-self-eq-MAX_READS-clause-stops : goal.returns-then-self-eq-MAX_READS-clause-stops
returns-then-self-eq-MAX_READS-clause-stops g c = record { asks = 0; counted = RisesBy-none _; within = omega (arith, ap (λ h. h.reads) c.self.view_is) }
