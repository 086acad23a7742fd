use Rattle.std.proofs.Common.{rules, sym, ◌∙◌}
use Rattle.std.proofs.lemmas.Bool.{false≢true}
use Rattle.std.proofs.lemmas.Bool.Decides.{Decides-eqb}
use Rattle.std.proofs.lemmas.Slice.Eq.{slice_eq-Decides}
use Rattle.book_record.proofs.Heads.{new_all, new_not, new_over, none_so, none_so_more}
use Rattle.book_record.proofs.head.is_new.Goals as goal

pub loop-seen-init : goal.loop-seen-init
loop-seen-init c = none_so c.args.text.now c.args.name.now

pub loop-seen-preserved : goal.loop-seen-preserved
loop-seen-preserved c =
    let l = c.loop-seen in
    let other = c.in-Some.other.now in
    let same = slice_eq-Decides Decides-eqb other c.args.name.now c.eq.result c.eq.ensures in
    none_so_more c.args.text.now c.args.name.now other l.rest.now c.in-Some.left.now l.seen l.invariant c.in-Some.ensures.some.0 c.in-Some.ensures.some.1
    (λ is. false≢true (sym c.if-eq.false ∙ same.1 is))

pub returns-in_default : goal.returns-in_default
returns-in_default c =
    let l = c.loop-seen in
    new_over c.args.text.now c.args.name.now l.rest.now l.seen c.args.clients l.invariant c.loop-seen-test.true c.in_default.ensures.none

pub returns-then-eq : goal.returns-then-eq
returns-then-eq c =
    let l = c.loop-seen in
    let other = c.in-Some.other.now in
    let same = slice_eq-Decides Decides-eqb other c.args.name.now c.eq.result c.eq.ensures in
    new_not c.args.text.now c.args.name.now other l.rest.now c.in-Some.left.now l.seen c.args.clients l.invariant c.loop-seen-test.true c.in-Some.ensures.some.0
    c.in-Some.ensures.some.1 (same.0 c.if-eq.true)

pub returns : goal.returns
returns c =
    let l = c.loop-seen in
    new_all c.args.text.now c.args.name.now l.rest.now l.seen c.args.clients l.invariant (search rules)
