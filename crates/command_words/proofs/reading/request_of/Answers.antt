use Rattle.std.proofs.Common.{◌∙◌, ap, sym}
use Rattle.command_words.specs.Jobs.{IsRequest, name_of, rows_in}
use Rattle.command_words.specs.Program.{command_word}
use Rattle.command_words.proofs.CommandNames.{same_word}
use Rattle.command_words.proofs.Wanted.{still_lacks}
use Rattle.command_words.proofs.reading.request_of.Goals as goal

pub returns : goal.returns
returns c =
    let job = c.in_ok-job_of.ensures in
    record { calls = sym c.in-Some.ensures.some ∙ ap command_word (sym job.0); job = job.1; quiet = c.is_given.ensures }

pub returns-in_err-job_of : goal.returns-in_err-job_of
returns-in_err-job_of c =
    still_lacks (IsRequest c.args.word.now (rows_in c.args.found.now)) _ c.from_residual.result c.from_residual.ensures.1 (λ request is.
    c.in_err-job_of.ensures request.job (same_word (name_of request.job) c.in-Some.name (sym is.calls ∙ sym c.in-Some.ensures.some), is.job))

pub returns-in_default : goal.returns-in_default
returns-in_default c = λ request is. absurd (c.in_default.ensures.none (name_of request.job) (sym is.calls))
