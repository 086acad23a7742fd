use Rattle.std.proofs.Common.{◌≡◌, ℕ, List, refl, sym, subst, rules}
use Rattle.std.specs.Prelude.{OnOk, IfErr}
use Rattle.std.proofs.lemmas.Result.{err_from_is_err_and}
use Rattle.setting_runner.specs.Moves.{HaveMoved, none_sure, AllWhole}
use Rattle.setting_runner.specs.Runs.{RunConditions, IsShortfall}
use Rattle.setting_runner.proofs.Moves.{AreMovable-known, none_have_moved}
use Rattle.setting_runner.proofs.Ending.{ended, ended_cause}
use Rattle.setting_runner.proofs.Passing.{ended_passes}
use Rattle.setting_runner.proofs.setting.run_setting.Goals as goal

pub begin_setting-requires-clause-known : goal.begin_setting-requires-clause-known
begin_setting-requires-clause-known g c κs within = AreMovable-known _ _ _ _ c.requires.movable

pub returns-in_err-begin_setting-clause-moved : goal.returns-in_err-begin_setting-clause-moved
returns-in_err-begin_setting-clause-moved g c =
    let setting = c.args.setting.now in
    let bays = c.args.bays.now in
    let p = err_from_is_err_and c.from_residual.result c.from_residual.ensures.1 in
    rw (p.1, p.2)
    (subst (λ (ms : List (ℕ × ℕ)). HaveMoved none_sure c.args.rest.now setting.batch.now setting.numbers.now bays bays ms)
    (sym c.in_err-begin_setting.ensures.unmoved) (none_have_moved c.args.rest.now setting.batch.now setting.numbers.now bays c.requires.movable))

pub returns-clause-moved : goal.returns-clause-moved
returns-clause-moved g c =
    let e : c.words.result ≡ c.args.rest.now.store.shape.words = search rules in
    ended _ _ _ _ _ _ _ _ c.move_all-moved.ensures (subst (λ (w : ℕ). OnOk c.end_setting.result (AllWhole w c.move_all-moved.result)) e
    c.end_setting.ensures.whole) c.end_setting.ensures.moved

pub returns-clause-cause : goal.returns-clause-cause
returns-clause-cause g c =
    let e : c.words.result ≡ c.args.rest.now.store.shape.words = search rules in
    let port = g.P.ConfigPort in
    let old = c.args.plant.now in
    let given : RunConditions = record {
      sure = g.W.WireMaker.is_sure old.wires;
      shape = c.args.rest.now.store.shape;
      before = port.failures old.port;
      after =
          port.failures c.begin_setting.new.plant.port;
      honest = port.honest old.port;
    } in
    let same : c.begin_setting.new.plant.wires ≡ old.wires = search rules in
    ended_cause _ given _ _ _ _ _ _ refl (rw same at c.move_all-moved.ensures) c.end_setting.ensures.moved
    (subst (λ (w : ℕ). IfErr c.end_setting.result (λ stop. IsShortfall w c.move_all-moved.result stop.cause)) e c.end_setting.ensures.short)
    c.in_ok-begin_setting.ensures.unfailed

pub returns-clause-passed : goal.returns-clause-passed
returns-clause-passed g c =
    let same : c.shape.result ≡ c.args.rest.now.store.shape = search rules in
    ended_passes _ _ _ _ _ _ _ _ c.end_setting.ensures.short (rw same at c.in_ok-begin_setting.ensures.replied)
