-- What messages do to a store, and how they are taken byte by byte: INMOS IMS T414 data sheet, peek
-- and poke over a link. The refusals, and that an answering end which refused has failed, are this
-- project's choice.
use Rattle.std.specs.Prelude.{ℕ, ◌≡◌, ◌<◌, ◌^◌, ◌⊎◌, List, [], ◌∷◌, ◌++◌, true, false, Option, Some}
use Rattle.std.specs.Prelude.{None, Result, Ok, Err, IfOk, MatchResult, All, option_to_list}
use Rattle.std.specs.List.{flat_map}
use Rattle.peek_poke.specs.declared.message.TheConstants.{PEEK}
use Rattle.peek_poke.specs.declared.message.Message.{Message}
use Rattle.peek_poke.specs.declared.message.Message.TheVariants.{Poke, Peek}
use Rattle.peek_poke.specs.declared.fault.StoreFault.{StoreFault}
use Rattle.peek_poke.specs.declared.fault.StoreFault.TheVariants.{Misaligned as StoreMisaligned}
use Rattle.peek_poke.specs.declared.fault.StoreFault.TheVariants.{Outside as StoreOutside}
use Rattle.peek_poke.specs.declared.fault.AnswerFault.{AnswerFault}
use Rattle.peek_poke.specs.declared.fault.AnswerFault.TheVariants.{Boot, Misaligned, Outside}
use Rattle.peek_poke.specs.declared.fault.AnswerFault.TheVariants.{Failed}
use Rattle.peek_poke.specs.Messages.{word_bytes, spell, IsMessage, IsPartial, Pending}

-- what reads of a store give
abbrev pub ReadsWord : Type 0 → Type 0
ReadsWord S = S → ℕ → Result ℕ StoreFault

-- what writes to a store leave
abbrev pub WritesWord : Type 0 → Type 0
WritesWord S = S → ℕ → ℕ → Result S StoreFault

-- a message makes one store of another: a poke writes its word, a peek answers the word as it is
abbrev pub HasEffect : {S : Type 0} → ReadsWord S → WritesWord S → S → Message → Option (List ℕ) → S
    → Type 0
HasEffect read write s (Poke address word) answer t = (answer ≡ None)
    × (write s address word ≡ Ok t)
HasEffect read write s (Peek address) answer t =
    (t ≡ s)
    × ((word : ℕ) × (word < 2 ^ 32) × (read s address ≡ Ok word)
    × (answer ≡ Some (word_bytes word)))

-- the store refuses the message
abbrev pub IsRefused : {S : Type 0} → ReadsWord S → WritesWord S → S → Message → StoreFault → Type 0
IsRefused read write s (Poke address word) fault = write s address word ≡ Err fault
IsRefused read write s (Peek address) fault = read s address ≡ Err fault

-- messages, one after another
abbrev pub DoAll : {S : Type 0} → ReadsWord S → WritesWord S → S → List Message → List (List ℕ) → S
    → Type 0
DoAll read write s [] answers t = (answers ≡ []) × (t ≡ s)
DoAll {S} read write s (m ∷ ms) answers t =
    (answer : Option (List ℕ)) × (u : S) × (more : List (List ℕ)) × HasEffect read write s m answer
    u
    × (answers ≡ option_to_list answer ++ more) × DoAll read write u ms more t

-- the text is that of messages, which made the one store of the other, with these answers, and then
-- less than a whole message
pub record HasAnswered {S : Type 0} (read : ReadsWord S) (write : WritesWord S) (s : S)
    (text : List ℕ)
    (answers : List (List ℕ)) (end : Pending) (t : S) : Type 0 where
  pub messages : List Message
  pub each : All IsMessage messages
  pub whole : text ≡ flat_map spell messages ++ end.bytes
  pub partial : IsPartial end.bytes
  pub alive : end.failed ≡ false
  pub did : DoAll read write s messages answers t

-- whatever came before, from whatever store on, the byte is the next one of that text
abbrev pub Continues : {S : Type 0} → ReadsWord S → WritesWord S → Pending → S → ℕ
    → Result (Option (List ℕ)) AnswerFault → Pending → S → Type 0
Continues {S} read write old s byte result new t =
    (first : S) (text : List ℕ) (answers : List (List ℕ))
    → HasAnswered read write first text answers old s
    → IfOk result
    (λ answer. HasAnswered read write first (text ++ byte ∷ [])
    (answers ++ option_to_list answer) new t)

-- the byte leaves less than a whole message, and nothing happens
pub record Waits {S : Type 0} (old : Pending) (s : S) (byte : ℕ) (answer : Option (List ℕ))
    (new : Pending) (t : S) : Type 0 where
  pub partial : IsPartial (old.bytes ++ byte ∷ [])
  pub kept : new.bytes ≡ old.bytes ++ byte ∷ []
  pub silent : answer ≡ None
  pub same : t ≡ s

-- the byte ends a message, which takes effect
pub record Ends {S : Type 0} (read : ReadsWord S) (write : WritesWord S) (old : Pending) (s : S)
    (byte : ℕ)
    (answer : Option (List ℕ)) (new : Pending) (t : S) : Type 0 where
  pub message : Message
  pub fits : IsMessage message
  pub whole : old.bytes ++ byte ∷ [] ≡ spell message
  pub rest : new.bytes ≡ []
  pub does : HasEffect read write s message answer t

-- the byte ends a message that the store refuses
abbrev pub EndsRefused : {S : Type 0} → ReadsWord S → WritesWord S → Pending → S → ℕ → StoreFault
    → Type 0
EndsRefused read write old s byte fault =
    (m : Message) × IsMessage m × (old.bytes ++ byte ∷ [] ≡ spell m)
    × IsRefused read write s m fault

-- the cause of a fault: no control byte of a message, a message that the store refuses, or an
-- earlier fault
abbrev pub IsCause : {S : Type 0} → ReadsWord S → WritesWord S → Pending → S → ℕ → AnswerFault
    → Type 0
IsCause read write old s byte (Boot control) =
    (old.failed ≡ false) × (old.bytes ≡ []) × (control ≡ byte) × (PEEK < byte)
IsCause read write old s byte Misaligned =
    (old.failed ≡ false) × EndsRefused read write old s byte StoreMisaligned
IsCause read write old s byte Outside =
    (old.failed ≡ false) × EndsRefused read write old s byte StoreOutside
IsCause read write old s byte Failed = old.failed ≡ true

-- one byte: it is taken, or there is a cause not to, which leaves the store
abbrev pub Feeds : {S : Type 0} → ReadsWord S → WritesWord S → Pending → S → ℕ
    → Result (Option (List ℕ)) AnswerFault → Pending → S → Type 0
Feeds read write old s byte result new t = MatchResult result
    (λ answer. (old.failed ≡ false) × (new.failed ≡ false)
    × (Waits old s byte answer new t ⊎ Ends read write old s byte answer new t))
    (λ fault. (new.failed ≡ true) × (t ≡ s) × IsCause read write old s byte fault)

-- the fault of an answering end whose store refuses
abbrev pub answer_fault : StoreFault → AnswerFault
answer_fault StoreMisaligned = Misaligned
answer_fault StoreOutside = Outside
