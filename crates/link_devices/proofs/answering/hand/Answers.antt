use Rattle.std.proofs.Common.{[], refl, sym, ◌∙◌}
use Rattle.std.proofs.lemmas.Result.{on_ok_weaker, on_err_weaker}
use Rattle.byte_streams.proofs.Carrying.{appends_none, front_written}
use Rattle.link_devices.specs.Answering.{refuses, takes}
use Rattle.link_devices.proofs.answering.hand.Goals as goal

pub returns-in-Ok-Some-clause-handled : goal.returns-in-Ok-Some-clause-handled
returns-in-Ok-Some-clause-handled g c =
    on_ok_weaker c.write_bytes.result (λ went. record {
      reply = _;
      told = [];
      handles = takes _ _ (rw c.in-Ok-Some.field-0-is at c.in-Ok-Some.ensures.taken);
      written = went;
      beside = appends_none _;
    }) c.write_bytes.ensures.went

pub returns-in-Ok-Some-clause-cut : goal.returns-in-Ok-Some-clause-cut
returns-in-Ok-Some-clause-cut g c =
    on_err_weaker c.write_bytes.result (λ cut. record {
      reply = _;
      handles = takes _ _ (rw c.in-Ok-Some.field-0-is at c.in-Ok-Some.ensures.taken);
      cut = cut;
      beside = refl;
    }) c.write_bytes.ensures.cut

pub returns-in-Ok-None-clause-handled : goal.returns-in-Ok-None-clause-handled
returns-in-Ok-None-clause-handled g c = record {
  reply = [];
  told = [];
  handles = takes _ _ (rw c.in-Ok-None.field-0-is at c.in-Ok-None.ensures.taken);
  written = appends_none _;
  beside = appends_none _;
}

pub returns-in-Err-clause-handled : goal.returns-in-Err-clause-handled
returns-in-Err-clause-handled g c =
    let line = front_written c.write_bytes-in-Err.result _ _ _ c.write_bytes-in-Err.ensures.went c.write_bytes-in-Err.ensures.cut in
    record {
      reply = [];
      told = line.front;
      handles = refuses c.in-Err.fault line.front line.missing _ ((c.in-Err.ensures.fault c.in-Err.fault).0 refl)
          (sym c.fault_line.ensures ∙ sym c.as_bytes.ensures.bytes ∙ line.bytes_are) c.in-Err.ensures.dropped;
      written = appends_none _;
      beside = line.appended;
    }
