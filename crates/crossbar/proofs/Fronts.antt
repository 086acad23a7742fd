-- What the bytes of whole commands begin with.
use Rattle.std.proofs.Common.{◌≡◌, ◌≤◌, ◌<◌, ◌+◌, ◌-◌, inl, inr, ℕ, suc, zero, List, [], ◌∷◌, ◌++◌, length, take, drop, get_or, refl, sym, ap, ◌∙◌, subst, append_assoc, arith}
use Rattle.std.proofs.Math.Seq.{drop-cons, take-append-add}
use Rattle.std.proofs.lemmas.Bool.{cases_lt}
use Rattle.std.proofs.lemmas.List.{take-append-drop, take-append-le}
use Rattle.c004_commands.specs.Commands.{row, text, HasPorts, AreCommands, IsCommandFront, Spells}
use Rattle.c004_commands.specs.declared.command.Command.{Command}
use Rattle.crossbar.specs.Port.{IsConversation, IsFront}
use Rattle.crossbar.proofs.Carrying.{nothing_come}

-- less than the bytes of a command are less than a whole one
row_rest : (c : Command) (k : ℕ) → HasPorts c → k < length (row c) → IsCommandFront (take k (row c))
row_rest c k p h = record {
  command = c;
  ports = p;
  next = get_or (row c) k 0;
  more = drop (suc k) (row c);
  row_is = sym (take-append-drop k (row c)) ∙ ap (λ t. take k (row c) ++ t) (drop-cons (row c) k 0 h);
}

-- the first bytes of a text are commands and less than a whole one
record Front (commands : List Command) (k : ℕ) : Type 0 where
  whole : List Command
  rest : List ℕ
  spells : Spells (take k (text commands)) whole rest

front_none : (k : ℕ) → Front [] k
front_none zero = record { whole = []; rest = []; spells = record { whole = refl; ports = tt; partial = nothing_come } }
front_none (suc k) = record { whole = []; rest = []; spells = record { whole = refl; ports = tt; partial = nothing_come } }

front_within : (c : Command) (cs : List Command) (k : ℕ) → HasPorts c → k < length (row c) → Front (c ∷ cs) k
front_within c cs k p h = record {
  whole = [];
  rest = take k (row c);
  spells = record { whole = (let le : k ≤ length (row c) = omega arith in take-append-le k (row c) (text cs) le); ports = tt; partial = row_rest c k p h };
}

front_past : (c : Command) (cs : List Command) (k j : ℕ) → HasPorts c → k ≡ length (row c) + j → Front cs j → Front (c ∷ cs) k
front_past c cs k j p e f = record {
  whole = c ∷ f.whole;
  rest = f.rest;
  spells = record {
    whole = ap (λ n. take n (row c ++ text cs)) e ∙ take-append-add (row c) (text cs) j ∙ ap (λ t. row c ++ t) f.spells.whole
        ∙ sym (append_assoc (row c) (text f.whole) f.rest);
    ports = (p, f.spells.ports);
    partial = f.spells.partial;
  };
}

front_of : (commands : List Command) (k : ℕ) → AreCommands commands → Front commands k
front_of [] k a = front_none k
front_of (c ∷ cs) k a = elim (cases_lt k (length (row c))) [
  | inl h ↦ front_within c cs k a.0 h
  | inr h ↦ front_past c cs k (k - length (row c)) a.0 (omega arith) (front_of cs (k - length (row c)) a.1)
]

-- the first bytes of a conversation are the front of one
pub front_of_conversation : (bytes : List ℕ) (replies k : ℕ) → IsConversation bytes replies → IsFront (take k bytes)
front_of_conversation bytes replies k e =
    let f = front_of e.commands k e.ports in record {
      commands = f.whole;
      rest = f.rest;
      spells = subst (λ (b : List ℕ). Spells (take k b) f.whole f.rest) (sym e.whole) f.spells;
    }
