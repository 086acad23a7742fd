use Rattle.setting_runner.proofs.work.+fn-move_all-join_mut+arg2+fn-move_all-join_mut+arg3+move_all.Given as goal

abbrev pub decreases-join_mut+arg2 : goal.decreases-join_mut+arg2
decreases-join_mut+arg2 g l = l.workers1.count

abbrev pub decreases-join_mut+arg3 : goal.decreases-join_mut+arg3
decreases-join_mut+arg3 g l = l.workers2.count

abbrev pub decreases-move_all : goal.decreases-move_all
decreases-move_all g l = l.workers.count
