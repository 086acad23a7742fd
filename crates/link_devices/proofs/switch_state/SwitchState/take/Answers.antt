use Rattle.std.proofs.Common.{◌∷◌, [], ◌++◌, ◌∙◌, List, ℕ, ap, sym, subst}
use Rattle.c004_commands.specs.Commands.{IsCommandFront}
use Rattle.link_devices.specs.SwitchStates.{kept_end}
use Rattle.link_devices.proofs.Begun.{more_begun, took, waited}
use Rattle.link_devices.proofs.switch_state.SwitchState.take.Goals as goal

pub keep-requires-clause-partial : goal.keep-requires-clause-partial
keep-requires-clause-partial c =
    let same = c.in-Some.ensures.1 in
    let front = subst IsCommandFront (sym same) c.in-Some.ensures.0.begun in
    let more = more_begun c.in-Some.reader c.feed.new.self c.args.byte c.in-Ok-None.field-0 c.in-Ok-None.field-0-is front c.in-Ok-None.ensures.text in
    subst IsCommandFront (more ∙ ap (λ (t : List ℕ). t ++ c.args.byte ∷ []) same) c.feed.ensures.rest

pub returns-in-Ok-Some : goal.returns-in-Ok-Some
returns-in-Ok-Some c =
    let same = c.in-Some.ensures.1 in
    let front = subst IsCommandFront (sym same) c.in-Some.ensures.0.begun in (
      c.in-Some.ensures.0,
      c.apply.ensures.state,
      took (kept_end c.args.self.now) (kept_end c.apply.new.self) c.in-Some.reader c.feed.new.self c.args.byte c.in-Ok-Some.field-0 front same
          c.in-Ok-Some.ensures.text
          (kept_end c.drop_partial.new.self) c.in-Ok-Some.command c.apply.result c.in-Ok-Some.field-0-is c.drop_partial.ensures.dropped c.apply.ensures.switch
          c.apply.ensures.answer,
    )

pub returns-in-Ok-None : goal.returns-in-Ok-None
returns-in-Ok-None c =
    let same = c.in-Some.ensures.1 in
    let front = subst IsCommandFront (sym same) c.in-Some.ensures.0.begun in (
      c.in-Some.ensures.0,
      c.keep.ensures.state,
      waited (kept_end c.args.self.now) (kept_end c.keep.new.self) c.in-Some.reader c.feed.new.self c.args.byte c.in-Ok-None.field-0 front same
          c.in-Ok-None.ensures.text
          c.in-Ok-None.field-0-is
          (c.keep.ensures.kept ∙ ap (λ (t : List ℕ). record { switch = (kept_end c.args.self.now).switch; begun = t ++ c.args.byte ∷ [] }) (sym same)),
    )
