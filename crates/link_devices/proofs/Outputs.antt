-- The byte of an output, written and read.
use Rattle.std.proofs.Common.{◌≡◌, ◌<◌, ◌≤◌, ◌+◌, ◌-◌, ℕ, true, false, cond, List, get_or, length, refl, sym, ap, ◌∙◌, arith, Option, Some, None, SomeIff, map, set, length-set, nat_lt}
use Rattle.std.proofs.lemmas.Bool.Decides.{nat_tests}
use Rattle.std.proofs.lemmas.List.{get_or-map, length-map, map-set}
use Rattle.std.proofs.lemmas.List.Elements.{All-set}
use Rattle.std.proofs.lemmas.List.Sums.{AllPass-from_list_all, list_all-from_AllPass}
use Rattle.std.specs.FinMap.{get, insert, remove}
use Rattle.std.specs.List.{list_all}
use Rattle.c004_commands.specs.Answers.{answer_byte}
use Rattle.c004_commands.specs.declared.port.TheConstants.{PORTS}
use Rattle.c004_commands.specs.declared.answer.TheConstants.{CONNECTED}
use Rattle.crossbar.specs.Latches.{sources_of}
use Rattle.crossbar.proofs.Latches.{sources_connect, sources_disconnect, source_at}
use Rattle.link_devices.specs.declared.switch_state.SwitchState.{SwitchState}
use Rattle.link_devices.specs.SwitchBytes.{is_answer, input_of}
use Rattle.link_devices.specs.SwitchStates.{IsSwitchState}

-- the input that feeds an output whose byte says so
pub connected_byte : (input : ℕ) → input_of (CONNECTED + input) ≡ Some input
connected_byte input =
    let high : nat_lt (CONNECTED + input) CONNECTED ≡ false = grind (arith, nat_tests) in
    rw high (ap (λ (n : ℕ). Some n) (omega arith))

pub is_connected : (input : ℕ) → input < PORTS → is_answer (CONNECTED + input) ≡ true
is_connected input h = grind (arith, nat_tests)

loose : (byte : ℕ) → is_answer byte ≡ true → nat_lt byte CONNECTED ≡ true → 0 ≡ byte
loose byte h low = grind (arith, nat_tests)

fed : (byte : ℕ) → nat_lt byte CONNECTED ≡ false → CONNECTED + (byte - CONNECTED) ≡ byte
fed byte high = grind (arith, nat_tests)

-- the byte is the answer of an output that has its input
answer-input : (byte : ℕ) → is_answer byte ≡ true → answer_byte (input_of byte) ≡ byte
answer-input byte h =
    elim (nat_lt byte CONNECTED) as (λ b. nat_lt byte CONNECTED ≡ b → answer_byte (cond b None (Some (byte - CONNECTED))) ≡ byte) [
      | true ↦ λ low. loose byte h low
      | false ↦ λ high. fed byte high
    ] refl

-- the state with another byte of an output
pub with_output : (s : SwitchState) (i byte connecting : ℕ) → IsSwitchState s → is_answer byte ≡ true → connecting ≤ 1
    → IsSwitchState (record { outputs = set s.outputs i byte; begun = s.begun; begun_count = s.begun_count; connecting = connecting })
with_output s i byte connecting h answer low = record {
  all_outputs = length-set s.outputs i byte ∙ h.all_outputs;
  answers = list_all-from_AllPass is_answer (set s.outputs i byte)
      (All-set (λ x. is_answer x ≡ true) s.outputs i byte answer (AllPass-from_list_all is_answer s.outputs h.answers));
  room = h.room;
  begun = h.begun;
  behind = h.behind;
  connecting = low;
}

pub sources-connected : (outputs : List ℕ) (i input : ℕ) → i < length outputs → sources_of (map input_of (set outputs i (CONNECTED + input)))
    ≡ insert (sources_of (map input_of outputs)) i input
sources-connected outputs i input h =
    ap sources_of (map-set input_of outputs i (CONNECTED + input) ∙ ap (set (map input_of outputs) i) (connected_byte input))
    ∙ sources_connect (map input_of outputs) i input (omega (arith, length-map outputs input_of))

pub sources-loose : (outputs : List ℕ) (i : ℕ) → i < length outputs → sources_of (map input_of (set outputs i 0)) ≡ remove (sources_of (map input_of outputs)) i
sources-loose outputs i h =
    ap sources_of (map-set input_of outputs i 0) ∙ sources_disconnect (map input_of outputs) i (omega (arith, length-map outputs input_of))

-- the input that an output has
pub input_at : (outputs : List ℕ) (i : ℕ) → i < length outputs → input_of (get_or outputs i 0) ≡ get (sources_of (map input_of outputs)) i
input_at outputs i h =
    sym (get_or-map input_of outputs i 0 None h) ∙ source_at (map input_of outputs) i i None (omega (arith, length-map outputs input_of)) refl

-- what an output answers
pub answer_at : (outputs : List ℕ) (i : ℕ) → list_all is_answer outputs ≡ true → i < length outputs → get_or outputs i 0
    ≡ answer_byte (get (sources_of (map input_of outputs)) i)
answer_at outputs i all h =
    sym (answer-input (get_or outputs i 0) (AllPass-from_list_all is_answer outputs all i 0 h)) ∙ ap answer_byte (input_at outputs i h)

-- what is left of a byte of which the top bit is taken off, if it is 1
pub input_is : (o : Option ℕ) (byte : ℕ) → SomeIff o (CONNECTED ≤ byte) (byte - CONNECTED) → o ≡ input_of byte
input_is None byte less = let low : nat_lt byte CONNECTED ≡ true = grind (arith, nat_tests) in rw low refl
input_is (Some i) byte so = let high : nat_lt byte CONNECTED ≡ false = grind (arith, nat_tests) in rw (high, so.1) refl
