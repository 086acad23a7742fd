use Rattle.std.proofs.Common.{◌≡◌, None, is_some, sym, ap, ◌∙◌, refl, rules}
use Rattle.link_graph.specs.declared.link.End.TheVariants.{Zero, Three}
use Rattle.alternating_path.specs.Ends.{link_at}
use Rattle.alternating_path.specs.Colouring.{colour_at}
use Rattle.alternating_path.proofs.Links.{uses-link_at}
use Rattle.alternating_path.proofs.Shown.{none_from}
use Rattle.alternating_path.proofs.Step.{no_full_link}
use Rattle.alternating_path.proofs.table.Table.insert_in_steps.Goals as goal

pub returns-in_default-clause-no_room : goal.returns-in_default-clause-no_room
returns-in_default-clause-no_room c =
    let out : colour_at c.args.self.now.colour c.args.t ≡ None = none_from _ (ap is_some (sym c.colour_in_steps.ensures.colour) ∙ sym c.if-is_some.ensures) in (
      λ _. (
        out,
        record {
          link = link_at c.args.self.now.batch c.args.t Zero;
          used = uses-link_at c.args.self.now.batch c.args.t Zero c.requires;
          full =
              c.in_default.ensures.none;
        },
      ),
      λ _. refl,
    )

pub returns-in_default-free_colour-clause-no_room : goal.returns-in_default-free_colour-clause-no_room
returns-in_default-free_colour-clause-no_room c =
    let out : colour_at c.args.self.now.colour c.args.t ≡ None = none_from _ (ap is_some (sym c.colour_in_steps.ensures.colour) ∙ sym c.if-is_some.ensures) in (
      λ _. (
        out,
        record {
          link = link_at c.args.self.now.batch c.args.t Three;
          used = uses-link_at c.args.self.now.batch c.args.t Three c.requires;
          full =
              c.in_default-free_colour.ensures.none;
        },
      ),
      λ _. refl,
    )

pub returns-clause-no_room : goal.returns-clause-no_room
returns-clause-no_room c =
    (λ bad. absurd cc, λ both. absurd (no_full_link c.args.self.now c.args.t c.in-Some.ensures.room c.in-Some-free_colour.ensures.room both.1))

pub returns-clause-counted : goal.returns-clause-counted
returns-clause-counted c = search rules

pub returns-clause-placed : goal.returns-clause-placed
returns-clause-placed c = search rules

pub returns-then-is_some-clause-already : goal.returns-then-is_some-clause-already
returns-then-is_some-clause-already c = search rules
