use Rattle.std.proofs.Common.{◌≡◌, ◌<◌, ℕ, ap, sym, subst, length, arith, false, Bool}
use Rattle.std.specs.List.{concat}
use Rattle.std.proofs.lemmas.List.{length-replicate}
use Rattle.link_graph.specs.Checks.{IsFirstMissing}
use Rattle.link_graph.specs.Schedules.{lists_of}
use Rattle.link_graph.proofs.Firsts.{all_marked, missing_at}
use Rattle.link_graph.proofs.Once.{schedule_is}
use Rattle.link_graph.proofs.checker.check_settings.Goals as goal

pub returns-in-Some-first_unmarked-clause-err : goal.returns-in-Some-first_unmarked-clause-err
returns-in-Some-first_unmarked-clause-err c =
    let size : length c.first_repeated.new.marks ≡ length c.args.batch.now =
    omega (arith, ap length c.requires.marks, length-replicate {A = Bool} (length c.args.batch.now) false) in
    let first = missing_at _ _ c.in-Some-first_unmarked.t c.in_default.ensures.marks (sym c.in-Some-first_unmarked.ensures) in (
      λ e. cc,
      λ named. (
        c.requires.known,
        c.in_default.ensures.none,
        subst (λ (n : ℕ). IsFirstMissing n (concat (lists_of c.args.lists.now)) c.in-Some-first_unmarked.t) size first,
      ),
    )

pub returns-in-Some-first_clash-clause-err : goal.returns-in-Some-first_clash-clause-err
returns-in-Some-first_clash-clause-err c =
    let size : length c.first_repeated.new.marks ≡ length c.args.batch.now =
    omega (arith, ap length c.requires.marks, length-replicate {A = Bool} (length c.args.batch.now) false) in
    let every = λ (t : ℕ) (lt : t < length c.args.batch.now). all_marked _ _ c.in_default.ensures.marks (sym c.in_default-first_unmarked.ensures) t
    (omega (arith, size)) in
    (λ e. cc, λ named. (c.requires.known, record { distinct = c.in_default.ensures.none; every = every }, c.in-Some-first_clash.ensures.some))

pub returns-clause-ok : goal.returns-clause-ok
returns-clause-ok c =
    let size : length c.first_repeated.new.marks ≡ length c.args.batch.now =
    omega (arith, ap length c.requires.marks, length-replicate {A = Bool} (length c.args.batch.now) false) in
    schedule_is _ _ c.requires.known c.in_default.ensures.none (λ t lt. all_marked _ _ c.in_default.ensures.marks (sym c.in_default-first_unmarked.ensures) t
    (omega (arith, size))) c.in_default-first_clash.ensures.none
