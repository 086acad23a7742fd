use Rattle.std.proofs.Common.{◌≡◌, ap, subst, rules}
use Rattle.batch.specs.ShapeView.{IsShape}
use Rattle.batch_book.specs.declared.refusal.BookRefusal.TheVariants.{Stranger}
use Rattle.batch_book.specs.declared.reply.Reply.{Reply}
use Rattle.batch_book.specs.declared.reply.Reply.TheVariants.{Refused}
use Rattle.batch_book.specs.Machine.{IsMachineStep}
use Rattle.batch_book.specs.Replies.{is_logged}
use Rattle.batch_book.proofs.Answering.{replied, sound}
use Rattle.record_replay.proofs.Entries.{no_stranger}
use Rattle.record_replay.proofs.Steps.{step_seen}
use Rattle.record_replay.proofs.asking.ask.Goals as goal

pub unreachable-requires : goal.unreachable-requires
unreachable-requires g c =
    let old = c.args.book.now in
    let shape : IsShape old.machine.store.shape = subst (λ s. IsShape s.shape) c.rack.ensures c.shape-shape.ensures.whole.within in
    let answers = replied old c.args.session c.args.call c.apply-reply.result c.apply-reply.new.self
    (sound old.opening old.history old.machine shape c.log.ensures.replay) c.apply-reply.ensures.grown in
    let is : c.apply-reply.result ≡ Refused Stranger = search rules in
    no_stranger old.machine c.args.session c.args.call c.apply-reply.new.self.machine c.requires.own (rw is at answers)
    (subst (λ (r : Reply). IsMachineStep old.machine c.args.session c.args.call r c.apply-reply.new.self.machine) is
    (c.apply-reply.ensures.grown (ap is_logged is)).step)

pub returns-in_default-clause-answers : goal.returns-in_default-clause-answers
returns-in_default-clause-answers g c =
    let old = c.args.book.now in
    let shape : IsShape old.machine.store.shape = subst (λ s. IsShape s.shape) c.rack.ensures c.shape-shape.ensures.whole.within in
    replied old c.args.session c.args.call c.apply-reply.result c.apply-reply.new.self (sound old.opening old.history old.machine shape c.log.ensures.replay)
    c.apply-reply.ensures.grown

pub returns-in_default-clause-step : goal.returns-in_default-clause-step
returns-in_default-clause-step g c =
    let old = c.args.book.now in
    step_seen old.machine c.args.session c.args.call c.apply-reply.result c.apply-reply.new.self.machine (search rules)
    (c.apply-reply.ensures.grown (search rules)).step
