use Rattle.std.proofs.Common.{◌≡◌, ◌∙◌, ℕ, [], ◌∷◌, ◌++◌, List, ap, arith, length, length-append, subst, sym}
use Rattle.std.specs.List.{range_with_len}
use Rattle.std.proofs.lemmas.List.FromFn.{map-range_with_len_more}
use Rattle.batch.proofs.Lists.{range_more}
use Rattle.session_answers.specs.HostedSessions.{AreEach}
use Rattle.session_answers.specs.Passes.{GivenPasses, given_to}
use Rattle.session_answers.proofs.HostedSessions.{each_push}
use Rattle.session_answers.proofs.hosting.passes_for.Goals as goal

pub loop-client-preserved : goal.loop-client-preserved
loop-client-preserved g c =
    let inv = c.loop-client.invariant in
    let k = c.loop-client.client in
    let was = c.loop-client.passes.items in
    let named = (g.D.ClientStreams.known c.args.streams.now).named in
    let admits = g.D.ClientStreams.admits c.args.streams.now in
    let given_all : List (List ℕ) → GivenPasses = λ names. record { given = names; admitted = [] } in
    let pushed : c.push.new.self.items ≡ was ++ c.pass.result ∷ [] = rw c.unwrap.ensures at c.push.ensures.items in (
      omega (arith, inv.0, ap length pushed, length-append was (c.pass.result ∷ [])),
      omega (arith, inv.1, c.push.ensures.capacity),
      subst (λ (ns : List ℕ). AreEach admits ns c.push.new.self.items) (sym (range_more k))
          (rw pushed (each_push admits (range_with_len 0 k) was k c.pass.result inv.2 c.pass.ensures.admits)),
      c.pass.ensures.given ∙ ap (given_to (named k)) inv.3 ∙ ap given_all (sym (map-range_with_len_more named 0 k k (omega arith))),
    )
