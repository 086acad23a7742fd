use Rattle.std.proofs.Common.{◌≡◌, ◌∙◌, sym, ap, rules}
use Rattle.setting_runner.specs.Equal.{same_moved}
use Rattle.setting_runner.proofs.Equal.{same_moved_is, same_moved_self}
use Rattle.setting_runner.proofs.moved.MovedPartialEq.eq.Goals as goal

pub returns-clause-equal : goal.returns-clause-equal
returns-clause-equal c =
    let value : c.eq.result ≡ same_moved c.args.self.now c.args.other.now = search rules in (
      λ yes. same_moved_is c.args.self.now c.args.other.now (sym value ∙ yes),
      λ one. value ∙ ap (same_moved c.args.self.now) (sym one)
          ∙ same_moved_self c.args.self.now,
    )

pub returns-clause-value : goal.returns-clause-value
returns-clause-value c = search rules
