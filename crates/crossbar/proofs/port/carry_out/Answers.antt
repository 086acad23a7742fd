use Rattle.std.proofs.Common.{◌+◌, ◌++◌, ◌∷◌, [], List, ℕ, take, drop, sym, ap, ◌∙◌, subst, arith, rules}
use Rattle.std.proofs.lemmas.List.{take-append-drop, take_all}
use Rattle.std.specs.Option.{option_to_list}
use Rattle.c004_commands.specs.Commands.{Spells}
use Rattle.crossbar.proofs.Carrying.{carried_none, carried_more, carried_all, fewer_enquiries, enquiries-append, take_more, goes_on, spells_conversation}
use Rattle.crossbar.proofs.port.carry_out.Goals as goal

pub loop-byte-init : goal.loop-byte-init
loop-byte-init c = rw c.new-reader.ensures (carried_none c.args.crossbar.now c.args.replies.now)

pub unreachable-requires : goal.unreachable-requires
unreachable-requires c =
    let i = c.loop-byte.byte-index in
    let bytes = c.args.bytes.now in
    let ran = c.loop-byte.invariant.ran in
    let ok = c.feed.ensures.taken (take i bytes) (drop (i + 1) bytes) [] ran.commands c.requires.commands ran.spells
    (goes_on bytes i c.requires.commands [] c.loop-byte-test.true (spells_conversation bytes _ c.requires)) in
    search rules

pub carry_given-answered-requires : goal.carry_given-answered-requires
carry_given-answered-requires c =
    let i = c.loop-byte.byte-index in
    let bytes = c.args.bytes.now in
    let so_far = c.loop-byte.invariant in
    let now = c.in-Ok.ensures.text (take i bytes) so_far.ran.commands so_far.ran.spells in
    let fewer = fewer_enquiries (take i bytes ++ _ ∷ []) (drop (i + 1) bytes) (so_far.ran.commands ++ option_to_list c.in-Ok.given) c.requires.commands _ [] now
    (subst (λ (b : List ℕ). Spells b c.requires.commands [])
    (sym (ap (λ t. t ++ drop (i + 1) bytes) (sym (take_more bytes i c.loop-byte-test.true)) ∙ take-append-drop (i + 1) bytes))
    (spells_conversation bytes _ c.requires)) in
    omega (arith, fewer, enquiries-append so_far.ran.commands (option_to_list c.in-Ok.given), so_far.count, c.requires.count, c.loop-byte.auto.replies)

pub loop-byte-preserved : goal.loop-byte-preserved
loop-byte-preserved c =
    let i = c.loop-byte.byte-index in
    let bytes = c.args.bytes.now in
    let so_far = c.loop-byte.invariant in
    rw (take_more bytes i c.loop-byte-test.true)
    (carried_more _ _ _ _ _ _ _ _ _ _ _ c.in-Ok.given so_far (c.in-Ok.ensures.text (take i bytes) so_far.ran.commands so_far.ran.spells)
    c.carry_given-answered.ensures.switch c.carry_given-answered.ensures.count c.carry_given-answered.ensures.replies)

pub returns : goal.returns
returns c =
    carried_all _ _ _ _ _ _ _ _ c.loop-byte.invariant (take_all c.loop-byte.byte-index c.args.bytes.now c.loop-byte-test.false) c.requires
    c.loop-byte.auto.replies
