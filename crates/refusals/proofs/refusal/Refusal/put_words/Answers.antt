use Rattle.std.proofs.Common.{◌++◌, ◌∙◌, ap, sym, arith}
use Rattle.refusals.specs.Refusals.{refusal_words}
use Rattle.refusals.proofs.refusal.Refusal.put_words.Goals as goal

pub returns-in-ScheduleLine-clause-words : goal.returns-in-ScheduleLine-clause-words
returns-in-ScheduleLine-clause-words c = c.put_numbered-in-ScheduleLine.ensures.text ∙ ap (λ r. c.args.line.now ++ refusal_words r) (sym c.in-ScheduleLine.is)

pub returns-in-CheckUnknown-clause-words : goal.returns-in-CheckUnknown-clause-words
returns-in-CheckUnknown-clause-words c = c.put_numbered-in-CheckUnknown.ensures.text ∙ ap (λ r. c.args.line.now ++ refusal_words r) (sym c.in-CheckUnknown.is)

pub returns-in-CheckRepeated-clause-words : goal.returns-in-CheckRepeated-clause-words
returns-in-CheckRepeated-clause-words c = c.put_numbered-in-CheckRepeated.ensures.text ∙ ap (λ r. c.args.line.now ++ refusal_words r)
    (sym c.in-CheckRepeated.is)

pub returns-in-CheckWrongLink-clause-words : goal.returns-in-CheckWrongLink-clause-words
returns-in-CheckWrongLink-clause-words c = c.put_numbered-in-CheckWrongLink.ensures.text ∙ ap (λ r. c.args.line.now ++ refusal_words r)
    (sym c.in-CheckWrongLink.is)

pub returns-in-CheckCertificateRepeats-clause-words : goal.returns-in-CheckCertificateRepeats-clause-words
returns-in-CheckCertificateRepeats-clause-words c = c.put_numbered-in-CheckCertificateRepeats.ensures.text ∙ ap (λ r. c.args.line.now ++ refusal_words r)
    (sym c.in-CheckCertificateRepeats.is)

pub returns-in-HistoryFull-clause-words : goal.returns-in-HistoryFull-clause-words
returns-in-HistoryFull-clause-words c = c.put-in-HistoryFull.ensures ∙ ap (λ r. c.args.line.now ++ refusal_words r) (sym c.in-HistoryFull.is)

pub put_link-requires : goal.put_link-requires
put_link-requires c = omega (arith, c.put_numbered-in-CheckClash.ensures.room, c.requires)
