use Rattle.std.proofs.Common.{List, Some, sym, subst, rules, arith}
use Rattle.std.proofs.lemmas.Grind.{common_steps}
use Rattle.batch.specs.ShapeView.{ShapeView}
use Rattle.module_memory.specs.Lending.{BlockAt}
use Rattle.setting_runner.specs.Plants.{LeavesPlant}
use Rattle.setting_runner.specs.Runs.{IsPrepared}
use Rattle.setting_runner.proofs.Starting.{going_no_memory, going_no_overlap, going_no_shape, memory_of, overlap_of, shape_of}
use Rattle.setting_runner.proofs.running.run.Goals as goal

pub run_settings-outcome-requires-clause-prepared : goal.run_settings-outcome-requires-clause-prepared
run_settings-outcome-requires-clause-prepared g c κs within =
    subst (λ (bays : List BlockAt). IsPrepared c.in-Ok.parted.rest bays c.args.batch.now c.args.schedule.now) (sym c.as_mut_slice.ensures.value)
    c.in-Ok.ensures.prepared

pub returns-in-Ok-clause-plant : goal.returns-in-Ok-clause-plant
returns-in-Ok-clause-plant g c =
    subst (λ (x : ShapeView). LeavesPlant g.P.ConfigPort g.W.WireMaker.is_sure x (Some (c.args.batch.now, c.args.schedule.now)) c.run_settings-outcome.result
    c.args.plant.now c.run_settings-outcome.new.plant)
    c.in-Ok.ensures.shape c.run_settings-outcome.ensures.plant

pub returns-in-Ok-clause-overlap : goal.returns-in-Ok-clause-overlap
returns-in-Ok-clause-overlap g c = going_no_overlap c.args.rack.shape c.args.batch.now c.run_settings-outcome.result c.run_settings-outcome.ensures.going
    c.in-Ok.ensures.free

pub returns-in-Ok-clause-shape : goal.returns-in-Ok-clause-shape
returns-in-Ok-clause-shape g c = going_no_shape c.args.rack.shape c.args.batch.now c.run_settings-outcome.result c.run_settings-outcome.ensures.going
    c.in-Ok.ensures.free

pub returns-in-Ok-clause-memory : goal.returns-in-Ok-clause-memory
returns-in-Ok-clause-memory g c = going_no_memory c.args.rack.shape c.args.batch.now c.run_settings-outcome.result c.run_settings-outcome.ensures.going

pub returns-in-Ok-clause-free : goal.returns-in-Ok-clause-free
returns-in-Ok-clause-free g c = λ going. c.in-Ok.ensures.free

pub returns-in-Err-clause-overlap : goal.returns-in-Err-clause-overlap
returns-in-Err-clause-overlap g c = overlap_of c.args.rack.shape c.args.batch.now c.in-Err.refusal c.in-Err.ensures.refusal

pub returns-in-Err-clause-shape : goal.returns-in-Err-clause-shape
returns-in-Err-clause-shape g c = shape_of c.args.rack.shape c.args.batch.now c.in-Err.refusal c.in-Err.ensures.refusal

pub returns-in-Err-clause-memory : goal.returns-in-Err-clause-memory
returns-in-Err-clause-memory g c = memory_of c.args.rack.shape c.args.batch.now c.in-Err.refusal c.in-Err.ensures.refusal

pub returns-in-Err-clause-plant : goal.returns-in-Err-clause-plant
returns-in-Err-clause-plant g c = search rules

pub returns-in-Ok-clause-memories : goal.returns-in-Ok-clause-memories
returns-in-Ok-clause-memories g c = grind (arith, common_steps)
