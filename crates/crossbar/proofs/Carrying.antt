-- Commands that are carried out as their bytes come.
use Rattle.std.proofs.Common.{◌≡◌, ◌≤◌, ◌<◌, ◌+◌, ℕ, List, [], ◌∷◌, ◌++◌, length, take, drop, get_or, refl, sym, ap, ap₂, ◌∙◌, append_assoc, append-nil, arith, add-one, subst, Option}
use Rattle.std.proofs.Math.Seq.{take-suc, drop-cons}
use Rattle.std.proofs.lemmas.List.{take-append-drop, take_all}
use Rattle.std.specs.Option.{option_to_list}
use Rattle.c004_commands.specs.Commands.{text, AreCommands, IsCommandFront, Spells}
use Rattle.c004_commands.specs.declared.command.Command.{Command}
use Rattle.c004_commands.specs.declared.command.Command.TheVariants.{Connect, Join, Enquire, Settle, Reset, Cut, CutPair}
use Rattle.c004_commands.proofs.Readings.{one_reading, longer_text}
use Rattle.crossbar.specs.Switch.{Switch, after, after_all, answer, answers, enquiries}
use Rattle.crossbar.specs.Port.{IsConversation, CarriesOut, CarriesOutWhole}

pub after_all-append : (cs ds : List Command) (s : Switch) → after_all (cs ++ ds) s ≡ after_all ds (after_all cs s)
after_all-append [] ds s = refl
after_all-append (c ∷ cs) ds s = after_all-append cs ds (after c s)

pub answers-append : (cs ds : List Command) (s : Switch) → answers (cs ++ ds) s ≡ answers cs s ++ answers ds (after_all cs s)
answers-append [] ds s = refl
answers-append (c ∷ cs) ds s = ap (λ bytes. option_to_list (answer c s) ++ bytes) (answers-append cs ds (after c s))
    ∙ sym (append_assoc (option_to_list (answer c s)) (answers cs (after c s)) (answers ds (after_all cs (after c s))))

enquiries-cons : (c : Command) (cs : List Command) → enquiries (c ∷ cs) ≡ enquiries (c ∷ []) + enquiries cs
enquiries-cons (Connect a b) cs = omega arith
enquiries-cons (Join a b) cs = omega arith
enquiries-cons (Enquire a) cs = omega arith
enquiries-cons Settle cs = omega arith
enquiries-cons Reset cs = omega arith
enquiries-cons (Cut a) cs = omega arith
enquiries-cons (CutPair a b) cs = omega arith

pub enquiries-append : (cs ds : List Command) → enquiries (cs ++ ds) ≡ enquiries cs + enquiries ds
enquiries-append [] ds = omega arith
enquiries-append (c ∷ cs) ds = omega (arith, enquiries-cons c cs, enquiries-cons c (cs ++ ds), enquiries-append cs ds)

-- the commands that the bytes so far spell have been carried out
pub record Ran (bytes reader : List ℕ) (start now : Switch) : Type 0 where
  pub commands : List Command
  pub spells : Spells bytes commands reader
  pub switch : now ≡ after_all commands start

-- and they have been answered
pub record Carried (bytes reader : List ℕ) (start now : Switch) (replies : List ℕ) (answered : ℕ) : Type 0 where
  pub ran : Ran bytes reader start now
  pub told : take answered replies ≡ answers ran.commands start
  pub count : answered ≡ enquiries ran.commands

pub nothing_come : IsCommandFront []
nothing_come = record { command = Settle; ports = tt; next = 3; more = []; row_is = refl }

pub ran_none : (start : Switch) → Ran [] [] start start
ran_none start = record {
  commands = [];
  spells = record { whole = refl; ports = tt; partial = nothing_come };
  switch = refl;
}

pub carried_none : (start : Switch) (replies : List ℕ) → Carried [] [] start start replies 0
unfolding ran_none
carried_none start replies = record { ran = ran_none start; told = refl; count = refl }

pub ran_more : (bytes more reader left : List ℕ) (start now new : Switch) (given : Option Command) (h : Ran bytes reader start now)
    → Spells more (h.commands ++ option_to_list given) left → new ≡ after_all (option_to_list given) now → Ran more left start new
ran_more bytes more reader left start now new given h s n = record {
  commands = h.commands ++ option_to_list given;
  spells = s;
  switch = n ∙ ap (after_all (option_to_list given)) h.switch ∙ sym (after_all-append h.commands (option_to_list given) start);
}

pub carried_more : (bytes more reader left : List ℕ) (start now new : Switch) (replies replies' : List ℕ) (answered answered' : ℕ) (given : Option Command)
    (h : Carried bytes reader start now replies answered) → Spells more (h.ran.commands ++ option_to_list given) left → new
    ≡ after_all (option_to_list given) now → answered' ≡ answered + enquiries (option_to_list given) → take answered' replies' ≡ take answered replies
    ++ answers (option_to_list given) now → Carried more left start new replies' answered'
unfolding ran_more
carried_more bytes more reader left start now new replies replies' answered answered' given h s n k t = record {
  ran = ran_more bytes more reader left start now new given h.ran s n;
  told = t ∙ ap₂ (λ bytes s. bytes ++ answers (option_to_list given) s) h.told h.ran.switch ∙ sym (answers-append h.ran.commands (option_to_list given) start);
  count = omega (arith, enquiries-append h.ran.commands (option_to_list given));
}

-- a front asks no more replies than the whole
pub fewer_enquiries : (bytes more : List ℕ) (commands others : List Command) (rest left : List ℕ) → Spells bytes commands rest
    → Spells (bytes ++ more) others left → enquiries commands ≤ enquiries others
fewer_enquiries bytes more commands others rest left s t =
    let on = longer_text bytes more commands others rest left s t in
    omega (arith, ap enquiries on.others_are, enquiries-append commands on.later)

pub take_more : (bytes : List ℕ) (i : ℕ) → i < length bytes → take (i + 1) bytes ≡ take i bytes ++ get_or bytes i 0 ∷ []
take_more bytes i h = rw add-one (take-suc bytes i 0 h)

split_here : (bytes : List ℕ) (i : ℕ) → i < length bytes → bytes ≡ take i bytes ++ get_or bytes i 0 ∷ drop (i + 1) bytes
split_here bytes i h = sym (take-append-drop i bytes) ∙ ap (λ t. take i bytes ++ t) (let e : drop i bytes ≡ get_or bytes i 0 ∷ drop (i + 1) bytes =
    rw (add-one, drop-cons bytes i 0) refl in e)

-- bytes that go on to others go on with their next byte
pub goes_on : (bytes : List ℕ) (i : ℕ) (commands : List Command) (rest : List ℕ) → i < length bytes → Spells bytes commands rest
    → Spells (take i bytes ++ get_or bytes i 0 ∷ drop (i + 1) bytes) commands rest
goes_on bytes i commands rest h s = subst (λ (b : List ℕ). Spells b commands rest) (split_here bytes i h) s

-- once all bytes have come, the commands that they spell have been carried out
pub ran_all : (come bytes reader : List ℕ) (start now : Switch) → Ran come reader start now → come ≡ bytes → CarriesOutWhole bytes start now
ran_all come bytes reader start now h all commands rest s =
    let same = (one_reading bytes h.commands commands reader rest (subst (λ b. Spells b h.commands reader) all h.spells) s).0 in
    h.switch ∙ ap (λ cs. after_all cs start) same

-- whole commands leave no rest
pub spells_whole : (bytes : List ℕ) (commands : List Command) → AreCommands commands → bytes ≡ text commands → Spells bytes commands []
spells_whole bytes commands a e = record { whole = e ∙ sym (append-nil (text commands)); ports = a; partial = nothing_come }

pub spells_conversation : (bytes : List ℕ) (replies : ℕ) (e : IsConversation bytes replies) → Spells bytes e.commands []
spells_conversation bytes replies e = spells_whole bytes e.commands e.ports e.whole

-- once all bytes of a conversation have come, it has been carried out
pub carried_all : (come bytes reader : List ℕ) (start now : Switch) (replies : List ℕ) (answered number : ℕ) → Carried come reader start now replies answered
    → come ≡ bytes → IsConversation bytes number → length replies ≡ number → CarriesOut bytes start now replies
carried_all come bytes reader start now replies answered number h all e len commands a is =
    let spells = spells_whole bytes commands a is in
    let same = (one_reading bytes commands e.commands [] [] spells (spells_conversation bytes number e)).0 in
    let ran = (one_reading bytes h.ran.commands commands reader [] (subst (λ b. Spells b h.ran.commands reader) all h.ran.spells) spells).0 in
    let filled : length replies ≤ answered = omega (arith, ap enquiries same, ap enquiries ran, h.count, e.count, len) in
    (ran_all come bytes reader start now h.ran all commands [] spells, sym (take_all answered replies filled) ∙ h.told ∙ ap (λ cs. answers cs start) ran)
