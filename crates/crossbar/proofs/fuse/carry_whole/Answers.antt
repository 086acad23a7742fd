use Rattle.std.proofs.Common.{◌≡◌, ◌∙◌, ◌+◌, take, drop, rules}
use Rattle.std.specs.Option.{option_to_list}
use Rattle.crossbar.specs.Switch.{after_all}
use Rattle.crossbar.proofs.fuse.carry_whole.Goals.{in-Some, in_default-given}
use Rattle.std.proofs.lemmas.List.{take_all}
use Rattle.crossbar.proofs.Carrying.{ran_none, ran_more, ran_all, take_more, goes_on}
use Rattle.crossbar.proofs.fuse.carry_whole.Goals as goal

pub loop-byte-init : goal.loop-byte-init
loop-byte-init c = rw c.new-reader.ensures (ran_none c.args.crossbar.now)

pub unreachable-requires : goal.unreachable-requires
unreachable-requires c =
    let i = c.loop-byte.byte-index in
    let bytes = c.args.bytes.now in
    let ran = c.loop-byte.invariant in
    let ok = c.feed.ensures.taken (take i bytes) (drop (i + 1) bytes) c.requires.rest ran.commands c.requires.commands ran.spells
    (goes_on bytes i c.requires.commands c.requires.rest c.loop-byte-test.true c.requires.spells) in
    search rules

pub loop-byte-preserved : goal.loop-byte-preserved
loop-byte-preserved c =
    let i = c.loop-byte.byte-index in
    let bytes = c.args.bytes.now in
    let ran = c.loop-byte.invariant in
    let switch : c.match-given.crossbar ≡ after_all (option_to_list c.in-Ok.given) c.loop-byte.crossbar = elim c.match-given.branch [
      | in-Some w ↦ rw w.in-Some.is (w.crossbar-is ∙ w.apply-answer.ensures.switch)
      | in_default-given w ↦ rw w.in_default-given.is w.crossbar-is
    ] in
    rw (take_more bytes i c.loop-byte-test.true)
    (ran_more _ _ _ _ _ _ _ c.in-Ok.given ran (c.in-Ok.ensures.text (take i bytes) ran.commands ran.spells) switch)

pub returns : goal.returns
returns c = ran_all _ _ _ _ _ c.loop-byte.invariant (take_all c.loop-byte.byte-index c.args.bytes.now c.loop-byte-test.false)
