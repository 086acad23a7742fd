use Rattle.std.proofs.Common.{◌≡◌, ◌<◌, ◌+◌, ◌++◌, ◌∷◌, [], List, ℕ, length, take, drop, get_or, sym, ap, ◌∙◌, arith, rules}
use Rattle.std.proofs.lemmas.List.{take-append-drop, take_all, take_more_set}
use Rattle.crossbar.proofs.Carrying.{take_more, goes_on, spells_conversation}
use Rattle.switch_driver.proofs.Conversing.{none_so_far, quiet_more, asked_more, fits, all_conversed, broke_within, broke_after}
use Rattle.switch_driver.proofs.Streams.{at_err}
use Rattle.switch_driver.proofs.stream.converse.Goals.{in-Some-2, in_default-2}
use Rattle.switch_driver.proofs.stream.converse.Goals as goal

split : (bytes : List ℕ) (i : ℕ) → i < length bytes → bytes ≡ (take i bytes ++ get_or bytes i 0 ∷ []) ++ drop (i + 1) bytes
split bytes i lt = sym (take-append-drop (i + 1) bytes) ∙ ap (λ (front : List ℕ). front ++ drop (i + 1) bytes) (take_more bytes i lt)

pub loop-byte-init : goal.loop-byte-init
loop-byte-init g c = rw c.new-reader.ensures (none_so_far _ _ _ _ _ _)

pub unreachable-requires : goal.unreachable-requires
unreachable-requires g c =
    let i = c.loop-byte.byte-index in
    let bytes = c.args.bytes.now in
    let so_far = c.loop-byte.invariant in
    let ok = c.feed.ensures.taken (take i bytes) (drop (i + 1) bytes) [] so_far.commands c.requires.commands so_far.spells
    (goes_on bytes i c.requires.commands [] c.loop-byte-test.true (spells_conversation bytes _ c.requires)) in
    search rules

pub loop-byte-preserved-in_default-given : goal.loop-byte-preserved-in_default-given
loop-byte-preserved-in_default-given g c =
    let i = c.loop-byte.byte-index in
    let bytes = c.args.bytes.now in
    let so_far = c.loop-byte.invariant in
    let now = c.in-Ok.ensures.text (take i bytes) so_far.commands so_far.spells in
    rw (take_more bytes i c.loop-byte-test.true) (quiet_more _ _ _ _ _ _ _ _ _ _ _ _ _ so_far (rw c.in_default-given.is at now))

pub returns-in_err-reply-clause-broken : goal.returns-in_err-reply-clause-broken
returns-in_err-reply-clause-broken g c =
    let i = c.loop-byte.byte-index in
    let bytes = c.args.bytes.now in
    let so_far = c.loop-byte.invariant in
    let now = c.in-Ok.ensures.text (take i bytes) so_far.commands so_far.spells in
    at_err c.from_residual.result (broke_within _ _ _ _ _ _ _ _ _ _ _ _ _ _ _ _ _ _ (split bytes i c.loop-byte-test.true) so_far (rw c.in-Some.is at now)
    c.in_err-reply.ensures.vain)

pub bounds-replies-heard : goal.bounds-replies-heard
bounds-replies-heard g c =
    let i = c.loop-byte.byte-index in
    let bytes = c.args.bytes.now in
    let so_far = c.loop-byte.invariant in
    let now = c.in-Ok.ensures.text (take i bytes) so_far.commands so_far.spells in
    let asked = rw c.in-Some-2.is at c.in_ok-reply.ensures.asked in
    omega (
      arith,
      fits _ _ _ c.in-Some.command _ _ _ _ _ _ _ _ _ _ _ _ _ (sym (split bytes i c.loop-byte-test.true)) so_far (rw c.in-Some.is at now) c.requires,
      asked.count,
      c.loop-byte.auto.replies,
    )

pub loop-byte-preserved : goal.loop-byte-preserved
loop-byte-preserved g c =
    let i = c.loop-byte.byte-index in
    let bytes = c.args.bytes.now in
    let so_far = c.loop-byte.invariant in
    let now = c.in-Ok.ensures.text (take i bytes) so_far.commands so_far.spells in
    let asked = c.in_ok-reply.ensures.asked in
    let room = fits _ _ _ c.in-Some.command _ _ _ _ _ _ _ _ _ _ _ _ _ (sym (split bytes i c.loop-byte-test.true)) so_far (rw c.in-Some.is at now) c.requires in
    rw (take_more bytes i c.loop-byte-test.true) (elim c.match-branch-2.branch [
      | in-Some-2 w ↦
          let lt : c.loop-byte.heard < length c.loop-byte.replies = omega (arith, room, (rw w.in-Some-2.is at asked).count, c.loop-byte.auto.replies) in
          rw (w.replies-is, w.heard-is) (asked_more _ _ _ _ _ _ _ _ _ _ _ _ _ _ _ _ _ _ _ so_far (rw c.in-Some.is at now) (rw w.in-Some-2.is at asked)
          (search rules) (search rules) (take_more_set _ _ _ lt))
      | in_default-2 w ↦ rw (w.replies-is, w.heard-is) (asked_more _ _ _ _ _ _ _ _ _ _ _ _ _ _ _ _ _ _ _ so_far (rw c.in-Some.is at now) asked (search rules)
          (search rules) (search rules))
    ])

pub returns-clause-whole : goal.returns-clause-whole
returns-clause-whole g c =
    let all = take_all c.loop-byte.byte-index c.args.bytes.now c.loop-byte-test.false in
    let whole = all_conversed _ _ _ _ _ _ _ _ _ _ _ _ _ c.loop-byte.invariant all c.requires c.loop-byte.auto.replies in
    search rules

pub returns-clause-broken : goal.returns-clause-broken
returns-clause-broken g c =
    let all = take_all c.loop-byte.byte-index c.args.bytes.now c.loop-byte-test.false in
    at_err c.flush.result (broke_after _ _ _ _ _ _ _ _ _ _ _ _ c.loop-byte.invariant all)
