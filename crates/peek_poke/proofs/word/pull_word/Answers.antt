use Rattle.std.proofs.Common.{rules, ◌≡◌, ◌++◌, ◌∷◌, ◌-◌, [], ap, ◌∙◌, ℕ, Ok, arith, subst, List, append_assoc}
use Rattle.std.proofs.lemmas.Grind.{common_steps}
use Rattle.std.proofs.lemmas.Result.{err_from_is_err_and}
use Rattle.peek_poke.specs.declared.message.TheConstants.{PEEK_BYTES}
use Rattle.peek_poke.specs.declared.message.Message.TheVariants.{Peek}
use Rattle.peek_poke.specs.Messages.{Pending}
use Rattle.peek_poke.specs.Sending.{IsCut}
use Rattle.peek_poke.proofs.Breaking.{in_front, after_front, within_reply}
use Rattle.std.specs.Int.{from_le_bytes}
use mir.Syntax.{w32}
use Rattle.peek_poke.specs.Messages.{spell, word_bytes}
use Rattle.peek_poke.proofs.WholeText.{peeked, replied}
use Rattle.peek_poke.proofs.word.pull_word.Goals as goal

pub returns-in_err-send_front-clause-broken : goal.returns-in_err-send_front-clause-broken
returns-in_err-send_front-clause-broken g c =
    let p = err_from_is_err_and c.from_residual.result c.from_residual.ensures.1 in
    rw (p.1) (λ word is. in_front g.W.Wire.carried _ _ _ _ (PEEK_BYTES - 1) c.peek_bytes-bytes.result _ (word_bytes word) c.peek_bytes-bytes.ensures
    c.in_err-send_front.ensures.broken)

pub returns-clause-carried : goal.returns-clause-carried
returns-clause-carried g c =
    let a = c.args.address in
    let read = g.S.WordStore.read_gives in
    let old = g.W.Wire.carried c.args.wire.now in
    let f = rw c.in-Ok-Some.field-0-is at c.in-Ok-Some.ensures.step in
    let text : c.send_front.new.answerer.bytes ++ c.in_ok-tail.tail ∷ [] ≡ spell (Peek a) = search rules in
    let carried : g.W.Wire.carried c.carry.new.self ≡ old ++ spell (Peek a) = search (rules, append_assoc) in
    let word : from_le_bytes w32 c.in-Ok-Some.reply ≡ c.from_le_bytes.result = search rules in
    let e = peeked read g.S.WordStore.write_gives c.send_front.new.answerer c.feed.new.self c.args.store.now c.feed.new.store c.in_ok-tail.tail a
    c.in-Ok-Some.reply c.ranges.address.fits f text in
    let reply = replied read g.S.WordStore.write_gives c.send_front.new.answerer c.feed.new.self c.args.store.now c.feed.new.store c.in_ok-tail.tail a
    c.in-Ok-Some.reply c.ranges.address.fits f text c.from_le_bytes.result (e ∙ ap (λ (n : ℕ). Ok n) word) in
    c.in_ok-arrived-in-Ok-Some.ensures.carried ∙ ap (λ (xs : List ℕ). xs ++ c.in-Ok-Some.reply) carried ∙ append_assoc old (spell (Peek a)) c.in-Ok-Some.reply
    ∙ ap (λ (xs : List ℕ). old ++ (spell (Peek a) ++ xs)) reply

pub returns-clause-taken : goal.returns-clause-taken
returns-clause-taken g c = grind (arith, common_steps)

pub returns-clause-read : goal.returns-clause-read
returns-clause-read g c =
    let a = c.args.address in
    let read = g.S.WordStore.read_gives in
    let f = rw c.in-Ok-Some.field-0-is at c.in-Ok-Some.ensures.step in
    let text : c.send_front.new.answerer.bytes ++ c.in_ok-tail.tail ∷ [] ≡ spell (Peek a) = search rules in
    let word : from_le_bytes w32 c.in-Ok-Some.reply ≡ c.from_le_bytes.result = search rules in
    let e = peeked read g.S.WordStore.write_gives c.send_front.new.answerer c.feed.new.self c.args.store.now c.feed.new.store c.in_ok-tail.tail a
    c.in-Ok-Some.reply c.ranges.address.fits f text in
    e ∙ ap (λ (n : ℕ). Ok n) word

pub returns-in_err-tail-clause-broken : goal.returns-in_err-tail-clause-broken
returns-in_err-tail-clause-broken g c =
    let p = err_from_is_err_and c.from_residual-in_err-tail.result c.from_residual-in_err-tail.ensures.1 in
    let front = c.in_ok-send_front.ensures in
    rw (p.1) (λ word is. after_front g.W.Wire.carried _ _ _ _ (PEEK_BYTES - 1) c.peek_bytes-bytes.result _ (word_bytes word) c.peek_bytes-bytes.ensures
    (omega arith) (c.in_err-tail.ensures.kept ∙ front.carried) (ap (λ (p : Pending). p.taken) front.sent))

pub returns-in_err-arrived-in-Ok-Some-clause-broken : goal.returns-in_err-arrived-in-Ok-Some-clause-broken
returns-in_err-arrived-in-Ok-Some-clause-broken g c =
    let p = err_from_is_err_and c.from_residual-in_err-arrived-in-Ok-Some.result c.from_residual-in_err-arrived-in-Ok-Some.ensures.1 in
    let a = c.args.address in
    let read = g.S.WordStore.read_gives in
    let f = rw c.in-Ok-Some.field-0-is at c.in-Ok-Some.ensures.step in
    let text : c.send_front.new.answerer.bytes ++ c.in_ok-tail.tail ∷ [] ≡ spell (Peek a) = search rules in
    let carried : g.W.Wire.carried c.carry.new.self ≡ g.W.Wire.carried c.args.wire.now ++ spell (Peek a) = search (rules, append_assoc) in
    let taken : c.feed.new.self.taken ≡ c.args.answerer.now.taken ++ spell (Peek a) = search (rules, append_assoc) in
    let reply = replied read g.S.WordStore.write_gives c.send_front.new.answerer c.feed.new.self c.args.store.now c.feed.new.store c.in_ok-tail.tail a
    c.in-Ok-Some.reply c.ranges.address.fits f text in
    rw (p.1) (λ word is.
    let bytes = reply word is in
    within_reply g.W.Wire.carried _ _ _ _ (spell (Peek a)) (word_bytes word) (g.W.Wire.carried c.carry.new.self) carried
    (subst (λ (xs : List ℕ). IsCut xs (g.W.Wire.carried c.carry.new.self) (g.W.Wire.carried c.carry_back.new.wire)) bytes
    c.in_err-arrived-in-Ok-Some.ensures.broken) taken)
