use Rattle.schedule_picture.proofs.Needed.{by_partners}
use Rattle.schedule_picture.proofs.verdict.least.Goals as goal

pub returns-then-settings-fewest : goal.returns-then-settings-fewest
returns-then-settings-fewest c = by_partners c.args.graph.now c.args.settings c.args.fewest c.args.partners c.requires.partners

pub returns-then-shown-partners : goal.returns-then-shown-partners
returns-then-shown-partners c = by_partners c.args.graph.now c.args.settings c.args.fewest c.args.partners c.requires.partners
