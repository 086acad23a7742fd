-- What the turns of a session leave is such as lines say.
use Rattle.std.proofs.Common.{◌≡◌, ℕ, inl, inr, List, [], ◌∷◌, ◌++◌, Bool, true, false, if◌then◌else◌, Option, None, Some, refl, sym, ap, ◌∙◌, subst, arith}
use Rattle.std.specs.List.{AllByRecursion}
use Rattle.std.proofs.lemmas.List.Elements.{All-from_recursion, All-weaker}
use Rattle.batch.specs.Batches.{IsBatch}
use Rattle.batch.specs.ShapeView.{ShapeView, IsShape, widest}
use Rattle.batch.specs.Text.{Denotes, IsWithin}
use Rattle.batch.specs.declared.transfer.Transfer.{Transfer}
use Rattle.batch_book.specs.declared.call.Call.{Call}
use Rattle.batch_book.specs.declared.call.Call.TheVariants as call
use Rattle.batch_book.specs.declared.entry.Entry.{Entry}
use Rattle.batch_book.specs.declared.reply.Reply.{Reply}
use Rattle.batch_book.specs.declared.reply.Reply.TheVariants.{Refused}
use Rattle.batch_book.specs.History.{entry}
use Rattle.batch_book.specs.Replies.{is_logged}
use Rattle.batch_book.specs.Told.{told}
use Rattle.book_record.specs.RecordText.{CanSay}
use Rattle.client_session.proofs.Lists.{every_append}
use Rattle.client_session.specs.Commands.{Means}
use Rattle.client_session.specs.Seats.{SeatView, logged}
use Rattle.client_session.specs.Sessions.{IsSession, added_entries, lost_entries}
use Rattle.client_session.specs.Turns.{CommandOutcome, LostTurn, Turn, MayHaveAdded, IsLostTurn, IsTurn, DoesCommand, Submits, Settles, Plans, TellsReply}
use Rattle.client_session.specs.declared.command.SessionCommand.{SessionCommand}
use Rattle.client_session.specs.declared.command.SessionCommand.TheVariants.{Batch, Plan as PlanOf, Run, Show, Drop, Peek, Poke, Progress}
use Rattle.client_session.specs.declared.fault.ServeFault.TheVariants.{Record, Write}
use Rattle.record_replay.specs.Fetched.{fetched_by, SettlesFetched, SettleFetched, AreOfLines}
use Rattle.record_replay.specs.SessionLaws.{SessionsSay}

-- a batch that was fetched, if one was
abbrev Last : Type 0
Last = Option (ℕ × List Transfer)

abbrev Say : List Entry → Type 0
Say es = AllByRecursion (λ e. CanSay (told e.call)) es

-- so whatever was fetched before
abbrev Said : List Entry → Type 0
Said es = Say es × ((last : Last) → SettleFetched last es)

nothing : Said []
nothing = (tt, (λ last. tt))

-- ---- one entry after others

settle_append : (last : Last) (xs ys : List Entry) → SettleFetched last xs → ((next : Last) → SettleFetched next ys) → SettleFetched last (xs ++ ys)
settle_append last [] ys one other = other last
settle_append last (x ∷ xs) ys one other = (one.0, settle_append (fetched_by x.call x.reply) xs ys one.1 other)

said_append : (xs ys : List Entry) → Said xs → Said ys → Said (xs ++ ys)
said_append xs ys one other = (every_append (λ e. CanSay (told e.call)) xs ys one.0 other.0, (λ last. settle_append last xs ys (one.1 last) other.1))

-- ---- a call that settles nothing

abbrev SettlesNone : Call → Type 0
SettlesNone (call.Settle id plan) = ⊥
SettlesNone c = Unit {0}

settles_none : (last : Last) (c : Call) → SettlesNone c → SettlesFetched last c
settles_none last (call.Settle id plan) none = absurd none
settles_none None c none = tt
settles_none (Some batch) c none = tt

logged_if : (by : ℕ) (c : Call) (r : Reply) (b : Bool) → CanSay (told c) → SettlesNone c → Said (if b then entry by c r ∷ [] else [])
logged_if by c r true say none = ((say, tt), (λ last. (settles_none last c none, tt)))
logged_if by c r false say none = nothing

logged_said : (by : ℕ) (c : Call) (r : Reply) → CanSay (told c) → SettlesNone c → Said (logged by c r)
logged_said by c r say none = logged_if by c r (is_logged r) say none

told_said : (by id : ℕ) (c : Call) (a : CommandOutcome) → CanSay (told c) → SettlesNone c → TellsReply by id c a → Said a.entries
told_said by id c a say none tells = subst (λ (x : CommandOutcome). Said x.entries) (sym tells.1) (logged_said by c tells.0 say none)

-- ---- a batch

within : (shape : ShapeView) → IsShape shape → (t : Transfer) → IsWithin shape t → IsWithin widest t
within shape is t has =
    let modules = is.few_modules in
    let blocks = is.few_blocks in
    ((omega (arith, has.0.0, modules), omega (arith, has.0.1, modules)), (omega (arith, has.1.0, blocks), omega (arith, has.1.1, blocks)))

batch_said : (shape : ShapeView) (text : List ℕ) (batch : List Transfer) → IsShape shape → Denotes shape text batch → IsBatch batch
batch_said shape text batch is denotes =
    record { few = denotes.few; within = All-weaker (IsWithin shape) (IsWithin widest) (within shape is) batch denotes.within }

submitted : (shape : ShapeView) (by : ℕ) (text : List ℕ) (a : CommandOutcome) → IsShape shape → Submits shape by text a → Said a.entries
submitted shape by text a is (inl done) = told_said by 0 (call.Submit done.0) a (batch_said shape text done.0 is done.1) tt done.2
submitted shape by text a is (inr (inl wrong)) = subst (λ (x : CommandOutcome). Said x.entries) (sym wrong.3) nothing
submitted shape by text a is (inr (inr none)) = subst (λ (x : CommandOutcome). Said x.entries) (sym none) nothing

-- ---- a plan

settled_if : (by id : ℕ) (batch : List Transfer) (c : Call) (r : Reply) (b : Bool) → CanSay (told c) → SettlesFetched (Some (id, batch)) c
    → Say (if b then entry by c r ∷ [] else []) × SettleFetched (Some (id, batch)) (if b then entry by c r ∷ [] else [])
settled_if by id batch c r true say settles = ((say, tt), (settles, tt))
settled_if by id batch c r false say settles = (tt, tt)

settles : (by id : ℕ) (batch : List Transfer) (a : CommandOutcome) → CanSay (told (call.Fetch id)) → Settles by id batch a → Said a.entries
settles by id batch a say (inl done) =
    let settled = settled_if by id batch (call.Settle id done.0) done.1 (is_logged done.1) say (refl, done.2) in
    subst (λ (x : CommandOutcome). Said x.entries) (sym done.3) ((say, settled.0), (λ last. (settles_none last (call.Fetch id) tt, settled.1)))
settles by id batch a say (inr none) = subst (λ (x : CommandOutcome). Said x.entries) (sym none) ((say, tt), (λ last. (settles_none last (call.Fetch id) tt, tt)))

planned : (by id : ℕ) (a : CommandOutcome) → CanSay (told (call.Fetch id)) → Plans by id a → Said a.entries
planned by id a say (inl refused) = subst (λ (x : CommandOutcome). Said x.entries) (sym refused.1) (logged_said by (call.Fetch id) (Refused refused.0) say tt)
planned by id a say (inr fetched) = settles by id fetched.0 a say fetched.1

-- ---- commands

none_said : (a b : CommandOutcome) → a ≡ b → b.entries ≡ [] → Said a.entries
none_said a b is none = subst Said (sym (ap (λ (x : CommandOutcome). x.entries) is ∙ none)) nothing

command_said : (shape : ShapeView) (by : ℕ) (head : List ℕ) (command : Option SessionCommand) (text : List ℕ) (a : CommandOutcome) → IsShape shape → Means head command
    → DoesCommand shape by command text a → Said a.entries
command_said shape by head (Some (Batch count)) text a is means (inl many) = none_said a _ many.1 refl
command_said shape by head (Some (Batch count)) text a is means (inr does) = submitted shape by text a is does.1
command_said shape by head (Some (PlanOf id)) text a is means does = planned by id a means.0 does
command_said shape by head (Some (Run id)) text a is means does = told_said by id (call.Run id) a means.0 tt does
command_said shape by head (Some (Show id)) text a is means does = told_said by id (call.Show id) a means.0 tt does
command_said shape by head (Some (Drop id)) text a is means does = told_said by id (call.Discard id) a means.0 tt does
command_said shape by head (Some (Peek mo ad)) text a is means does = told_said by 0 (call.Peek mo ad) a means.0 tt does
command_said shape by head (Some (Poke mo ad w)) text a is means does = told_said by 0 (call.Poke mo ad w) a means.0 tt does
command_said shape by head (Some Progress) text a is means does = none_said a _ does.2 refl
command_said shape by head command text a is means does = none_said a _ does refl

turns_said : (shape : ShapeView) (by : ℕ) (turns : List Turn) → IsShape shape → AllByRecursion (IsTurn shape by) turns → Said (added_entries turns)
turns_said shape by [] is each = nothing
turns_said shape by (t ∷ turns) is each =
    said_append t.did.entries (added_entries turns) (command_said shape by t.head t.command _ t.did is each.0.means each.0.does)
    (turns_said shape by turns is each.1)

-- what a command may have added before a call of it couldn't be recorded
begun_said : (by : ℕ) (head : List ℕ) (command : Option SessionCommand) (es : List Entry) → Means head command → MayHaveAdded by command es → Said es
begun_said by head (Some (PlanOf id)) es means (inl none) = subst Said (sym none) nothing
begun_said by head (Some (PlanOf id)) es means (inr fetched) = subst Said (sym fetched.1) ((means.0, tt), (λ last. (settles_none last (call.Fetch id) tt, tt)))
begun_said by head command es means is = subst Said (sym is) nothing

lost_said : (by : ℕ) (lost : List LostTurn) → AllByRecursion (IsLostTurn by) lost → Said (lost_entries lost)
lost_said by [] each = nothing
lost_said by (t ∷ lost) each = said_append t.entries (lost_entries lost) (begun_said by t.head t.command t.entries each.0.means each.0.begun)
    (lost_said by lost each.1)

-- ---- sessions

are_of_lines : (es : List Entry) → Said es → AreOfLines es
are_of_lines es said = record { calls = All-from_recursion (λ e. CanSay (told e.call)) es said.0; settle = said.1 None }

told_said_so : {breaks : Bool} (old new : SeatView) (turns : List Turn) (bytes rest : List ℕ) (entries : List Entry) (text : List ℕ) → IsShape old.shape
    → IsSession breaks old new turns bytes rest entries text → Said entries
told_said_so old new turns bytes rest entries text is session = subst Said (sym session.entries_are) (turns_said old.shape old.session turns is session.each)

session_said : (old new : SeatView) (turns : List Turn) (bytes rest : List ℕ) (entries : List Entry) (text : List ℕ) → IsShape old.shape
    → IsSession false old new turns bytes rest entries text → AreOfLines entries
session_said old new turns bytes rest entries text is session = are_of_lines entries (told_said_so old new turns bytes rest entries text is session)

pub sessions_say : SessionsSay
sessions_say (Some Write) known old new bytes entries written is ended = session_said old new _ bytes ended.rest entries _ is ended.session
sessions_say (Some Record) known old new bytes entries written is ended =
    are_of_lines entries (subst Said (sym ended.entries_are)
    (said_append ended.made (lost_entries ended.lost) (told_said_so old new _ bytes _ ended.made _ is ended.session)
    (lost_said old.session ended.lost ended.are_lost)))
sessions_say fault known old new bytes entries written is ended = session_said old new ended.0 bytes ended.1 entries written is ended.2
