use Rattle.std.proofs.Common.{◌∙◌, ap, sym, arith, length, [], All, get_or}
use Rattle.std.proofs.lemmas.List.{append-nil}
use Rattle.link_graph.specs.Certificates.{AreDistinct}
use Rattle.link_graph.specs.Checks.{UsesNamed, IsFirstRepeated}
use Rattle.link_graph.specs.Marks.{AreMarks}
use Rattle.link_graph.proofs.Firsts.{no_marks}
use Rattle.link_graph.proofs.OneFault.{certificate_is, named_within}
use Rattle.link_graph.proofs.checker.check_certificate.Goals as goal

pub mark-requires : goal.mark-requires
mark-requires c = λ k d lt. let t = named_within c.args.batch.now c.link.result (get_or c.transfers-transfers.result.now k d)
    (c.in_default.ensures.none k d lt) in omega (arith, c.fill.ensures.len, c.requires, t)

pub returns-in-Some-mark-clause-err : goal.returns-in-Some-mark-clause-err
returns-in-Some-mark-clause-err c =
    let cleared = c.fill.ensures.after (λ y e. e) in
    let marks : AreMarks c.fill.new.self [] = rw cleared (no_marks (length c.args.marks.now)) in
    let uses : All (UsesNamed c.args.batch.now c.args.certificate.now.link) c.args.certificate.now.transfers =
    rw (c.link.ensures.value, c.transfers-transfers.ensures.value) at c.in_default.ensures.none in
    let again : IsFirstRepeated c.args.certificate.now.transfers c.in-Some-mark.t = rw (append-nil, c.transfers-transfers.ensures.value)
    at (c.in-Some-mark.ensures.some [] [] marks (λ i j d lt within. absurd (omega arith))) in
    (λ e. cc, λ lists s many. (s, uses, again))

pub returns-then-settings-transfers-clause-err : goal.returns-then-settings-transfers-clause-err
returns-then-settings-transfers-clause-err c =
    let cleared = c.fill.ensures.after (λ y e. e) in
    let marks : AreMarks c.fill.new.self [] = rw cleared (no_marks (length c.args.marks.now)) in
    let uses : All (UsesNamed c.args.batch.now c.args.certificate.now.link) c.args.certificate.now.transfers =
    rw (c.link.ensures.value, c.transfers-transfers.ensures.value) at c.in_default.ensures.none in
    let distinct : AreDistinct c.args.certificate.now.transfers = rw c.transfers-transfers.ensures.value
    at (c.in_default-mark.ensures.none [] marks (λ i j d lt within. absurd (omega arith))) in
    (λ e. cc, λ lists s many. (s, uses, distinct, sym many, ap length c.transfers-transfers.ensures.value, c.if-settings-transfers.true))

pub returns-clause-ok : goal.returns-clause-ok
returns-clause-ok c =
    let cleared = c.fill.ensures.after (λ y e. e) in
    let marks : AreMarks c.fill.new.self [] = rw cleared (no_marks (length c.args.marks.now)) in
    let uses : All (UsesNamed c.args.batch.now c.args.certificate.now.link) c.args.certificate.now.transfers =
    rw (c.link.ensures.value, c.transfers-transfers.ensures.value) at c.in_default.ensures.none in
    let distinct : AreDistinct c.args.certificate.now.transfers = rw c.transfers-transfers.ensures.value
    at (c.in_default-mark.ensures.none [] marks (λ i j d lt within. absurd (omega arith))) in
    λ lists s many. certificate_is _ _ _ _ c.link.ensures.naming.both s uses distinct (many ∙ c.if-settings-transfers.false
    ∙ ap length c.transfers-transfers.ensures.value)
