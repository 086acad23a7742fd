use Rattle.std.proofs.Common.{◌≡◌, ◌<◌, ◌≤◌, arith, length, take, ap, ◌∙◌}
use Rattle.std.proofs.lemmas.List.{length-set, length-take}
use Rattle.batch.specs.declared.limits.TheConstants.{MAX_MODULES}
use Rattle.switch_settings.proofs.Padding.{pad_less}
use Rattle.switch_settings.proofs.short_list.ShortList.push.Goals as goal

pub invariant_of-self : goal.invariant_of-self
invariant_of-self g c =
    let inside = c.self.inside in
    let few : inside.count ≤ MAX_MODULES = c.self.invariant.few in
    let whole : length inside.entries ≡ MAX_MODULES = c.self.invariant.all in
    let same : length (take inside.count inside.entries) ≡ length c.args.self.now = ap length c.self.view_is in
    let room : inside.count < MAX_MODULES = omega (arith, length-take inside.count inside.entries) in
    record {
      few = omega arith;
      filled = pad_less inside.entries inside.count MAX_MODULES c.args.entry g.T.Blank.blank room c.self.invariant.filled;
      all = length-set inside.entries inside.count _ ∙ whole;
    }
