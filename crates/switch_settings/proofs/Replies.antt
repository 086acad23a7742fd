-- What an honest port replies to the enquiries.
use Rattle.std.proofs.Common.{◌≡◌, ◌<◌, ◌≤◌, ◌+◌, ℕ, Bool, true, false, IsTrue, zero, suc, List, [], ◌∷◌, map, get_or, refl, sym, ap, ◌∙◌, arith, Option, Some, None}
use Rattle.std.specs.List.{range_with_len}
use Rattle.std.specs.Option.{IfSome, option_eq}
use Rattle.std.specs.Prelude.{◌↔◌}
use Rattle.std.proofs.Common.{eqb, not, is_some, eq-eqb}
use Rattle.std.proofs.lemmas.Bool.{eqb-true, false≢true}
use Rattle.c004_commands.specs.Answers.{IsAnswer}
use Rattle.c004_commands.specs.declared.answer.OutputState.TheVariants.{Connected}
use Rattle.std.specs.FinMap as finmap
use Rattle.c004_commands.specs.declared.command.Command.TheVariants.{Enquire}
use Rattle.c004_commands.specs.Commands.{AreCommands, text}
use Rattle.c004_commands.specs.Answers.{answer_byte}
use Rattle.crossbar.specs.Switch.{Switch, after_all, answers}
use Rattle.crossbar.specs.Chips.{Switches, switch_at, put_switch, CarriesOutAt}
use Rattle.crossbar.specs.Pairs.{ArePairs}
use Rattle.crossbar.specs.declared.chip.Chip.{Chip}
use Rattle.crossbar.specs.declared.chip.Chip.TheVariants.{A, B}
use Rattle.crossbar.specs.declared.pair.Pair.{Pair}
use Rattle.switch_settings.specs.Pairs.{Turns, all_enquiries}
use Rattle.switch_settings.specs.Answers.{Reports, Agrees, Disagrees, Misses, seen}
use Rattle.switch_settings.specs.declared.fault.Disagreement.{Disagreement}
use Rattle.switch_settings.specs.declared.fault.SettingFault.{SettingFault}
use Rattle.switch_settings.specs.declared.fault.SettingFault.TheVariants.{Port, Switch as Disagreed}
use Rattle.c004_commands.specs.declared.port.TheConstants.{PORTS}

some_enquiries : (a n : ℕ) → a + n ≤ PORTS → AreCommands (map Enquire (range_with_len a n))
some_enquiries a zero h = tt
some_enquiries a (suc n) h = ((omega arith, tt), some_enquiries (a + 1) n (omega arith))

pub all_ports : AreCommands all_enquiries
all_ports = some_enquiries 0 PORTS (omega arith)

unmoved : (a n : ℕ) (s : Switch) → after_all (map Enquire (range_with_len a n)) s ≡ s
unmoved a zero s = refl
unmoved a (suc n) s = unmoved (a + 1) n s

pub enquiries_leave : (s : Switch) → after_all all_enquiries s ≡ s
enquiries_leave s = unmoved 0 PORTS s

some_answers : (a n k : ℕ) (s : Switch) → k < n → get_or (answers (map Enquire (range_with_len a n)) s) k 0 ≡ answer_byte (finmap.get s.sources (a + k))
some_answers a zero k s h = absurd (omega arith)
some_answers a (suc n) zero s h = ap (λ i. answer_byte (finmap.get s.sources i)) (omega arith)
some_answers a (suc n) (suc k) s h = some_answers (a + 1) n k s (omega arith) ∙ ap (λ i. answer_byte (finmap.get s.sources i)) (omega arith)

reports : (o : Option ℕ) (reply : ℕ) → reply ≡ answer_byte o → Reports o reply
reports None reply e = omega arith
reports (Some input) reply e = e

pub all_report : (s : Switch) (output : ℕ) (replies : List ℕ) → output < PORTS → replies ≡ answers all_enquiries s → Agrees s output (get_or replies output 0)
all_report s output replies h e =
    reports (finmap.get s.sources output) (get_or replies output 0) (ap (λ (r : List ℕ). get_or r output 0) e ∙ some_answers 0 PORTS output s h
    ∙ ap (λ i. answer_byte (finmap.get s.sources i)) (omega arith))

pub some_too : {X : Type 0} (P Q : X → Type 0) (o : Option X) → ((x : X) → P x → Q x) → IfSome o P → IfSome o Q
some_too P Q None f h = tt
some_too P Q (Some x) f h = f x h

put_same : (chip : Chip) (s : Switches) → put_switch chip (switch_at chip s) s ≡ s
put_same A s = refl
put_same B s = refl

-- a port that carried out the bytes that turn a switch
pub sent : (chip : Chip) (bytes : List ℕ) (old new : Switches) (goal_switch : Switch) (replies : List ℕ) → Turns bytes (switch_at chip old) goal_switch
    → CarriesOutAt chip bytes old new replies → new ≡ put_switch chip goal_switch old
sent chip bytes old new goal_switch replies t did = (did t.commands t.ports t.whole).0 ∙ ap (λ (s : Switch). put_switch chip s old) t.turned

-- a port that carried out the enquiries
pub asked : (chip : Chip) (bytes : List ℕ) (old new : Switches) (replies : List ℕ) → bytes ≡ text all_enquiries → CarriesOutAt chip bytes old new replies
    → (new ≡ old) × (replies ≡ answers all_enquiries (switch_at chip old))
asked chip bytes old new replies e did =
    let b = did all_enquiries all_ports e in
    (b.0 ∙ ap (λ (s : Switch). put_switch chip s old) (enquiries_leave (switch_at chip old)) ∙ put_same chip old, b.1)

-- ---- the switches of a rack

pub more_pairs : (m n : ℕ) (ps : List Pair) → m ≤ n → ArePairs m ps → ArePairs n ps
more_pairs m n [] h a = tt
more_pairs m n (p ∷ ps) h a = (omega (arith, a.0), omega (arith, a.1), a.2, a.3, more_pairs m n ps h a.4)

-- ---- a reply that was read

-- a reply that names an input says it, and nothing else
pub connected_reports : (o : Option ℕ) (n input reply : ℕ) (b : Bool) → b ≡ option_eq eqb o (Some n) → n ≡ input → IsAnswer (Connected input) reply
    → IsTrue b ↔ Reports o reply
connected_reports None n input reply b e same is = (λ t. absurd (false≢true (sym e ∙ t)), λ low. absurd (omega (arith, is.0)))
connected_reports (Some i) n input reply b e same is = (
  λ t. let here : i ≡ n = eqb-true i n (sym e ∙ t) in omega (arith, is.0),
  λ says. let here : i ≡ n = omega (arith, is.0) in e ∙ eq-eqb i n here,
)

unnot : (b : Bool) → false ≡ not b → IsTrue b
unnot true e = refl
unnot false e = absurd (false≢true e)

-- a reply that names none says that there is none
pub loose_reports : (o : Option ℕ) (reply : ℕ) (b : Bool) → is_some o ≡ not b → reply < 128 → IsTrue b ↔ Reports o reply
loose_reports None reply b e low = (λ t. low, λ says. unnot b e)
loose_reports (Some i) reply b e low = (λ t. absurd (false≢true (sym (ap not t) ∙ sym e)), λ says. absurd (omega arith))

-- what is missed where a reply is the first that doesn't agree
pub missed : (fault : SettingFault) (chip : Chip) (switch wanted : Switch) (replies : List ℕ) (number output : ℕ) → wanted ≡ switch → output ≡ number
    → number < PORTS → fault ≡ Disagreed (seen chip wanted output (get_or replies number 0)) → (Agrees wanted output (get_or replies number 0) → ⊥)
    → ((before : ℕ) → before < number → Agrees wanted before (get_or replies before 0)) → Misses chip switch replies fault
missed fault chip switch wanted replies number output e f lt is differs agree =
    rw (is, e, f) (refl, record { known = lt; differs = rw (e, f) at differs; agree = rw e at agree })

pub disagreed : (fault : SettingFault) (chip : Chip) (switch : Switch) (replies : List ℕ) → Misses chip switch replies fault → (found : Disagreement)
    × (fault ≡ Disagreed found) × Disagrees found chip switch replies
disagreed Port chip switch replies misses = absurd misses
disagreed (Disagreed found) chip switch replies misses = (found, refl, misses)
