use Rattle.std.proofs.Common.{◌≡◌, ◌+◌, ◌∙◌, arith, refl}
use Rattle.switch_settings.specs.RackWirings.{wired_in}
use Rattle.switch_settings.specs.Sending.{pairs_at}
use Rattle.switch_settings.proofs.Schedules.{pairs_are}
use Rattle.switch_driver.proofs.Settings.{stands_so, known_after, one_more, set_later}
use Rattle.switch_driver.proofs.driving.drive.Goals as goal

pub loop-setting-init : goal.loop-setting-init
loop-setting-init g c = record {
  count = 0;
  at = omega arith;
  stood = (refl, refl);
  known = refl;
  standing = tt;
  unfailed = refl;
  honesty = refl;
}

pub loop-setting-preserved : goal.loop-setting-preserved
loop-setting-preserved g c =
    let batch = c.args.batch.now in
    let settings = c.args.schedule.now in
    let k = c.loop-setting.setting in
    let invariant = c.loop-setting.invariant in
    let given = c.in_default.ensures in
    let numbers = c.numbers_of_setting-numbers.ensures.numbers in
    let pairs = c.of_setting-pairs.result in
    let are : pairs ≡ pairs_at batch settings k = pairs_are batch settings k c.numbers_of_setting-numbers.result.now pairs numbers
    c.of_setting-pairs.ensures.members in
    let sliced : c.as_slice.result.now ≡ pairs_at batch settings k = c.as_slice.ensures.pairs ∙ are in
    record {
      count = invariant.count + 1;
      at = omega (arith, invariant.at);
      stood = one_more g.S.DriveObserver.hears c.args.rack batch settings c.args.first invariant.count k _ _ c.args.stage.now
          (g.P.ConfigPort.passed c.loop-setting.port) c.loop-setting.stage _ _ invariant.at numbers invariant.stood
          (stands_so c.args.rack batch settings c.args.first invariant.count k c.loop-setting.standing c.as_slice.result.now _ _ invariant.at invariant.known
          sliced given.stands) c.in_default-on_setting.ensures;
      known = known_after batch settings c.args.first invariant.count k pairs invariant.at are;
      standing = (
        c.of_setting-pairs.ensures.pairs (wired_in c.args.rack) c.requires.modules,
        set_later c.args.rack _ _ _ _ _ c.as_slice.ensures.pairs given.honesty given.set,
      );
      unfailed = given.unfailed ∙ invariant.unfailed;
      honesty = given.honesty ∙ invariant.honesty;
    }
