use Rattle.std.proofs.Common.{◌≡◌, ◌++◌, take, map}
use Rattle.link_graph.specs.Schedules.{lists_of}
use Rattle.link_graph.specs.ScheduleText.{setting_line, text_of}
use Rattle.link_graph.proofs.writing.settings_text.Given as goal

abbrev pub invariant-loop-setting : goal.invariant-loop-setting
invariant-loop-setting l = l.text.items ≡ l.initial.text.items ++ text_of (map setting_line (lists_of (take l.setting-index l.settings)))
