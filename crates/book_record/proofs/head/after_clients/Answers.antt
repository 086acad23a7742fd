use Rattle.std.proofs.Common.{rules, sym, ◌∙◌}
use Rattle.std.proofs.lemmas.Bool.{false≢true}
use Rattle.book_record.proofs.Heads.{names_all, named_twice, no_other_name, none_read, one_read}
use Rattle.book_record.proofs.head.after_clients.Goals as goal

pub loop-read-init : goal.loop-read-init
loop-read-init c = none_read c.args.text.now

pub loop-read-preserved : goal.loop-read-preserved
loop-read-preserved c =
    let l = c.loop-read in
    let client = c.in_ok-name.ensures.some in
    one_read c.args.text.now l.rest.now c.in_ok-name.left.now c.in_ok-name.name.now l.read l.invariant client.0 client.1
    ((c.is_new.ensures l.invariant.names l.rest.now l.invariant.count l.invariant.are).0 c.if-not-is_new.false)

pub returns-in_err-name-clause-none : goal.returns-in_err-name-clause-none
returns-in_err-name-clause-none c =
    let l = c.loop-read in
    rw c.from_residual.ensures (no_other_name c.args.text.now l.rest.now l.read c.args.names l.invariant c.loop-read-test.true c.in_err-name.ensures.none)

pub returns-then-not-is_new-clause-none : goal.returns-then-not-is_new-clause-none
returns-then-not-is_new-clause-none c =
    let l = c.loop-read in
    let client = c.in_ok-name.ensures.some in
    named_twice c.args.text.now l.rest.now c.in_ok-name.left.now c.in_ok-name.name.now l.read c.args.names l.invariant c.loop-read-test.true client.0 client.1
    (λ new. false≢true (sym c.if-not-is_new.true ∙ (c.is_new.ensures l.invariant.names l.rest.now l.invariant.count l.invariant.are).1 new))

pub returns-clause-some : goal.returns-clause-some
returns-clause-some c =
    names_all c.args.text.now c.loop-read.rest.now c.loop-read.read c.args.names c.loop-read.invariant (search rules) c.if-names-gt-MAX_SESSIONS.false
