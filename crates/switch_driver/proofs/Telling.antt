-- What replies tell of a switch, and where what it is sent leads.
use Rattle.std.proofs.Common.{◌≡◌, ℕ, [], ◌∷◌, ◌++◌, get_or, Option, Some, None, refl, ap, ◌∙◌, arith}
use Rattle.std.specs.FinMap as map
use Rattle.c004_commands.specs.declared.command.Command.TheVariants.{Settle}
use Rattle.crossbar.proofs.Carrying.{after_all-append}
use Rattle.crossbar.specs.Pairs.{switch_of}
use Rattle.crossbar.specs.Switch.{Switch, after, after_all}
use Rattle.switch_settings.specs.Answers.{Reports}
use Rattle.switch_settings.specs.Pairs.{all_enquiries}
use Rattle.switch_settings.proofs.Replies.{all_report, enquiries_leave}
use Rattle.switch_driver.specs.Laws.{RepliesTell}

-- a reply reports one input, or none
one_report : (a b : Option ℕ) (reply : ℕ) → Reports a reply → Reports b reply → a ≡ b
one_report None None reply p q = refl
one_report None (Some j) reply p q = absurd (omega (arith, p, q))
one_report (Some i) None reply p q = absurd (omega (arith, p, q))
one_report (Some i) (Some j) reply p q = let same : i ≡ j = omega (arith, p, q) in ap (λ (x : ℕ). Some x) same

-- after the enquiries the end of the sequence makes a switch ready, and no more
pub settled : (s : Switch) → after_all (all_enquiries ++ Settle ∷ []) s ≡ after Settle s
settled s = after_all-append all_enquiries (Settle ∷ []) s ∙ ap (after Settle) (enquiries_leave s)

pub replies_tell : RepliesTell
replies_tell wiring pairs switch replies are agree =
    rw settled (record {
      ready = refl;
      feeds = λ output known.
          one_report (map.get switch.sources output) (map.get (switch_of wiring pairs).sources output) (get_or replies output 0)
          (all_report switch output replies known are) (agree output known);
    })
