use Rattle.std.proofs.Common.{◌≡◌, ◌∙◌, [], map, refl, sym, ap}
use Rattle.batch_book.specs.History.{BookView}
use Rattle.session_answers.specs.Frames.{Transcript, sessions_text, has_fault}
use Rattle.session_answers.specs.Histories.{part_of}
use Rattle.session_answers.specs.Hosting.{transcript}
use Rattle.session_answers.proofs.Sessions.{parts_are}
use Rattle.session_answers.proofs.serving.serve_scripts.Goals as goal

pub returns : goal.returns
returns g c =
    let ss = c.in_ok-sessions.sessions.items in
    let seats = c.in_ok-seats.seats.items in
    let sessions = map transcript ss in
    let none : g.L.ExchangeName.earlier ≡ [] = sym c.requires.named.entries ∙ ap (λ (a : BookView). a.history) c.requires.new in
    let shape = c.in-Ok.ensures.shape ∙ ap (λ (a : BookView). a.machine.store.shape) c.requires.new in
    let framed : c.in_ok-text.text.items ≡ sessions_text sessions = rw c.as_slice.ensures.value at c.in_ok-text.ensures in
    let fails : c.has_fault-failed.result ≡ has_fault sessions = rw c.as_slice-2.ensures.value at c.has_fault-failed.ensures in
    let parts : map (λ (t : Transcript). t.part) sessions ≡ map part_of seats = parts_are ss seats c.in_ok-seats.ensures in (
      sessions,
      rw (shape, none) at c.in_ok-sessions.ensures.of_scripts,
      c.finish.result.book,
      refl,
      c.finish.ensures.few,
      rw (sym c.requires.named.opening, none, framed, fails, sym parts) at c.finish.ensures.closing,
    )
