use Rattle.switch_settings.proofs.Turning.{settings_turn}
use Rattle.switch_settings.proofs.laws.settings_turn.Goals as goal

pub returns : goal.returns
returns c = settings_turn
