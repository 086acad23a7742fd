use Rattle.batch_book.specs.declared.raise.Raise.{Raise}
use Rattle.batch_book.proofs.Noting.{heard_made, replied_made, unheard_made, unstopped_made}
use Rattle.batch_book.proofs.calling.apply.Goals as goal

pub returns-clause-reply : goal.returns-clause-reply
returns-clause-reply g c = replied_made c.args.book.now c.try_apply-made.new.self c.args.session c.args.call c.try_apply-made.result c.next_run.ensures.sound
    c.try_apply-made.ensures.step

pub returns-clause-reaches : goal.returns-clause-reaches
returns-clause-reaches g c =
    heard_made (λ (r : Raise). r.watcher) (λ (r : Raise). r.run) _ c.try_apply-made.new.notice c.args.book.now _ c.args.session c.args.call
    c.try_apply-made.result
    c.next_run.ensures.sound c.next_run.ensures.number c.try_apply-made.ensures.step c.try_apply-made.ensures.told

pub returns-clause-quiet : goal.returns-clause-quiet
returns-clause-quiet g c =
    unheard_made (λ (r : Raise). r.watcher) (λ (r : Raise). r.run) _ c.try_apply-made.new.notice c.args.book.now _ c.args.session c.args.call
    c.try_apply-made.result
    c.next_run.ensures.sound c.try_apply-made.ensures.step c.try_apply-made.ensures.told

pub returns-clause-unstopped : goal.returns-clause-unstopped
returns-clause-unstopped g c =
    unstopped_made _ _ _ _ _ _ c.args.book.now _ c.args.session c.args.call c.try_apply-made.result c.try_apply-made.ensures.plant c.try_apply-made.ensures.step
