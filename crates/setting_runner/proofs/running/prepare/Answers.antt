use Rattle.std.proofs.Common.{inl, inr, ◌≡◌, List, length, arith, refl, sym, ap, ◌∙◌, subst}
use Rattle.std.specs.List.{concat}
use Rattle.std.proofs.lemmas.Bool.{false≢true}
use Rattle.std.proofs.lemmas.List.{length-map}
use Rattle.batch.specs.ShapeView.{ShapeView}
use Rattle.batch.specs.Held.{AreHeldSources}
use Rattle.batch.specs.Overlap.{destination_at}
use Rattle.batch.specs.declared.transfer.Place.{Place}
use Rattle.module_memory.specs.Bays.{AreFound}
use Rattle.module_memory.specs.Core.{FitsIn, IsReady}
use Rattle.module_memory.specs.Lending.{AreLendable, BlockAt, bays_of, found_in, store_rejoined, without}
use Rattle.module_memory.specs.Store.{Store}
use Rattle.module_memory.proofs.PartLaws.{shape-without}
use Rattle.module_memory.proofs.PartedSettings.{destinations_lendable, sources_are_found}
use Rattle.setting_runner.specs.Runs.{HasOwnBays, destinations_in}
use Rattle.setting_runner.proofs.Schedules.{all_settings, numbers_are_counted}
use Rattle.setting_runner.proofs.Starting.{held_is_read, held_places, lend_fault_is, setting_bays}
use Rattle.setting_runner.proofs.running.prepare.Goals as goal

pub returns-in-Some-clause-refusal : goal.returns-in-Some-clause-refusal
returns-in-Some-clause-refusal c = c.in-Some.ensures.first

pub returns-then-not-fits_in-clause-refusal : goal.returns-then-not-fits_in-clause-refusal
returns-then-not-fits_in-clause-refusal c = (
  c.in_default.ensures.none,
  λ fits. false≢true (sym c.if-not-fits_in.true ∙ c.fits_in.ensures.1 (subst (λ (s : ShapeView). FitsIn s c.args.batch.now) (sym c.shape.ensures.value) fits)),
)

pub returns-in_default-held_sources-clause-refusal : goal.returns-in_default-held_sources-clause-refusal
returns-in_default-held_sources-clause-refusal c = record {
  apart = c.in_default.ensures.none;
  fits = subst (λ (s : ShapeView). FitsIn s c.args.batch.now) c.shape.ensures.value (c.fits_in.ensures.0 c.if-not-fits_in.false);
  some = omega (arith, c.in_default-held_sources.ensures.memory.1.0.1);
}

pub returns-in-Ok-part-clause-prepared : goal.returns-in-Ok-part-clause-prepared
returns-in-Ok-part-clause-prepared c =
    let batch = c.args.batch.now in
    let settings = c.args.schedule.now in
    let fits : FitsIn c.args.rack.shape batch = subst (λ (s : ShapeView). FitsIn s c.args.batch.now) c.shape.ensures.value
    (c.fits_in.ensures.0 c.if-not-fits_in.false) in
    let apart = c.in_default.ensures.none in
    let schedule = c.requires in
    let ready : IsReady c.args.rack c.args.rack batch (concat settings) =
    record {
      opening_whole = c.shape.ensures.whole;
      whole = c.shape.ensures.whole;
      same_shape = refl;
      agrees = λ i l none. refl;
      places = fits;
      apart =
          apart;
      setting = all_settings batch settings schedule;
    } in
    let rest = c.in-Ok-part.parted.rest in
    let lent = c.in-Ok-part.parted.bays.items in
    let store : store_rejoined rest.store lent ≡ c.args.rack = c.in-Ok-part.ensures.store in
    let places : c.as_slice.result.now ≡ destinations_in batch settings = c.as_slice.ensures.value ∙ c.in-Ok.ensures.places in
    let left : rest.store ≡ without c.args.rack (destinations_in batch settings) = c.in-Ok-part.ensures.rest ∙ ap (without c.args.rack) places in
    let held : AreHeldSources batch c.as_slice-2.result.now = subst (AreHeldSources batch) (sym c.as_slice-2.ensures.value) c.in-Ok-held_sources.ensures.held in
    let found : AreFound (found_in rest) c.args.rack batch = sources_are_found c.args.rack batch (concat settings) c.as_slice-2.result.now rest ready left
    c.in-Ok-part.ensures.held held in
    let bays : lent ≡ bays_of c.args.rack (destinations_in batch settings) = c.in-Ok-part.ensures.bays ∙ ap (bays_of c.args.rack) places in
    record {
      schedule = schedule;
      ready = subst (λ (s : Store). IsReady s s batch (concat settings)) (sym store) ready;
      own_bays = λ k below. subst (λ (r : Store). HasOwnBays r lent batch settings k) (sym left)
          (subst (λ (b : List BlockAt). HasOwnBays (without c.args.rack (destinations_in batch settings)) b batch settings k) (sym bays)
          (setting_bays c.args.rack batch settings k ready below));
      rejoins = c.in-Ok-part.ensures.rejoins;
      found = subst (λ (s : Store). AreFound (found_in rest) s batch) (sym store) found;
    }

pub returns-in-Ok-part-clause-shape : goal.returns-in-Ok-part-clause-shape
returns-in-Ok-part-clause-shape c = ap (λ (s : Store). s.shape) c.in-Ok-part.ensures.rest ∙ shape-without c.args.rack c.as_slice.result.now

pub returns-in-Ok-part-clause-free : goal.returns-in-Ok-part-clause-free
returns-in-Ok-part-clause-free c = record {
  apart = c.in_default.ensures.none;
  fits = subst (λ (s : ShapeView). FitsIn s c.args.batch.now) c.shape.ensures.value (c.fits_in.ensures.0 c.if-not-fits_in.false);
}

pub returns-clause-refusal : goal.returns-clause-refusal
returns-clause-refusal c =
    let batch = c.args.batch.now in
    let settings = c.args.schedule.now in
    let fits : FitsIn c.args.rack.shape batch = subst (λ (s : ShapeView). FitsIn s c.args.batch.now) c.shape.ensures.value
    (c.fits_in.ensures.0 c.if-not-fits_in.false) in
    let apart = c.in_default.ensures.none in
    let schedule = c.requires in
    let ready : IsReady c.args.rack c.args.rack batch (concat settings) =
    record {
      opening_whole = c.shape.ensures.whole;
      whole = c.shape.ensures.whole;
      same_shape = refl;
      agrees = λ i l none. refl;
      places = fits;
      apart =
          apart;
      setting = all_settings batch settings schedule;
    } in
    let places : c.as_slice.result.now ≡ destinations_in batch settings = c.as_slice.ensures.value ∙ c.in-Ok.ensures.places in
    let lendable = destinations_lendable c.args.rack batch (concat settings) ready in
    let held : AreHeldSources batch c.as_slice-2.result.now = subst (AreHeldSources batch) (sym c.as_slice-2.ensures.value) c.in-Ok-held_sources.ensures.held in
    let held_exist = held_places c.args.rack.shape batch c.as_slice-2.result.now held fits in
    let some = lend_fault_is c.args.rack.shape c.as_slice.result.now c.as_slice-2.result.now c.in-Err._fault
    (subst (λ (ps : List Place). AreLendable c.args.rack.shape ps) (sym places) lendable) held_exist c.in-Err.ensures.fault in
    record {
      apart = apart;
      fits = fits;
      some = elim some [
        | inl lent ↦ omega (
          arith,
          ap (length {A = Place}) places,
          length-map (concat settings) (destination_at batch),
          numbers_are_counted batch settings schedule,
        )
        | inr one ↦ held_is_read batch c.as_slice-2.result.now held one
      ];
    }
