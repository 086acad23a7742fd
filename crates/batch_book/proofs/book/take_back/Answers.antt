use Rattle.std.proofs.Common.{◌∙◌, ap, sym, subst}
use Rattle.batch_book.specs.History.{IsPrefix}
use Rattle.batch_book.specs.Values.{greatest}
use Rattle.batch_book.proofs.Histories.{replaced}
use Rattle.batch_book.proofs.book.take_back.Goals as goal

pub take_back-requires-clause-first : goal.take_back-requires-clause-first
take_back-requires-clause-first g c = subst (IsPrefix _) (ap (λ a. a.durable) (sym c.part-bare.ensures.same)) c.requires.first

pub take_back-requires-clause-text : goal.take_back-requires-clause-text
take_back-requires-clause-text g c = c.requires.text ∙ ap (λ a. g.H.Recorder.Recorder.texts (g.H.Recorder.Recorder.tried c.args.recorder) a.durable)
    (sym c.part-bare.ensures.same)

pub go_on-requires-clause-kept : goal.go_on-requires-clause-kept
go_on-requires-clause-kept g c = replaced _ _ _ _ _ _ _ _ c.part-bare.ensures.kept (sym c.requires.limited) c.requires.loses c.in-Some.ensures.pushed
    c.in-Some.ensures.front

pub go_on-requires-clause-furthest : goal.go_on-requires-clause-furthest
go_on-requires-clause-furthest g c = c.part-bare.ensures.furthest ∙ ap greatest (sym c.in-Some.ensures.pushed)
