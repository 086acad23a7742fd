-- What calls of the seat and readings do.
use Rattle.std.proofs.Common.{◌≡◌, ◌≢◌, ℕ, ◌≤◌, List, [], ◌∷◌, ◌++◌, map, Option, Some, Result, Ok, Err, Bool, true, false, ◌||◌, sym, ap, ◌∙◌, append_assoc, append-nil, refl, subst, arith, inl, inr}
use Rattle.std.specs.List.{AllByRecursion}
use Rattle.std.proofs.lemmas.List.{map-append}
use Rattle.batch.specs.declared.fault.BatchFault.{BatchFault}
use Rattle.batch.specs.declared.fault.BatchFault.TheVariants.{NoMemory}
use Rattle.batch.specs.Faults.{IsFirstFault}
use Rattle.batch.specs.declared.transfer.Transfer.{Transfer}
use Rattle.batch.specs.ShapeView.{ShapeView}
use Rattle.schedule_certificate.specs.Plans.{Plan}
use Rattle.batch_book.specs.declared.entry.Entry.{Entry}
use Rattle.batch_book.specs.declared.call.Call.{Call}
use Rattle.batch_book.specs.declared.call.Call.TheVariants as call
use Rattle.batch_book.specs.declared.reply.Reply.{Reply}
use Rattle.batch_book.specs.declared.reply.Reply.TheVariants.{Fetched, Ran, Refused}
use Rattle.batch_book.specs.Replies.{is_logged}
use Rattle.batch_book.specs.Answering.{IsReplyTo}
use Rattle.batch_book.specs.History.{entry}
use Rattle.batch_book.specs.Values.{value_of}
use Rattle.batch_book.proofs.Fronts.{starts_same, starts_then}
use Rattle.refusals.specs.declared.refusal.Refusal.TheVariants as refusal
use Rattle.refusals.specs.Refusals.{refusal_line}
use Rattle.refusals.specs.Sources.{of_batch}
use Rattle.client_session.specs.declared.command.SessionCommand.{SessionCommand}
use Rattle.client_session.specs.declared.fault.ServeFault.{ServeFault}
use Rattle.client_session.specs.declared.fault.ServeFault.TheVariants.{Record}
use Rattle.batch_book.specs.declared.reading.Reading.{Reading}
use Rattle.client_session.specs.Replies.{reply_line, progress_line}
use Rattle.client_session.specs.Seats.{SeatView, logged, GoesOnFrom, IsCalled, IsUncalled, IsProgressRead}
use Rattle.client_session.specs.Turns.{CommandOutcome, plain_answer, tells, settles, TellsReply, Submits, Settles, Plans, ReadsProgress, IsFetching}
use Rattle.client_session.specs.Steps.{CanBeTold, IsNoFetch, Did, Acts, Breaks, IsDoneOrFailed}
use Rattle.link_graph.proofs.Sums.{each}
use Rattle.client_session.proofs.Lists.{every_append}

pub stays : (p : SeatView) → GoesOnFrom false p p
stays p = record {
  exchange = refl;
  shape = refl;
  loses = refl;
  session = refl;
  parts = refl;
  log = starts_same p.log p.log refl;
  seen = omega arith;
  broken =
      refl;
}

pub goes_on : (breaks : Bool) (a b c : SeatView) → GoesOnFrom false a b → GoesOnFrom breaks b c → GoesOnFrom breaks a c
goes_on breaks a b c p q = record {
  exchange = q.exchange ∙ p.exchange;
  shape = q.shape ∙ p.shape;
  loses = q.loses ∙ p.loses;
  session = q.session ∙ p.session;
  parts = q.parts ∙ p.parts;
  log = starts_then a.log b.log c.log p.log q.log;
  seen = omega (arith, p.seen, q.seen);
  broken = q.broken ∙ ap (λ (b : Bool). breaks || b) p.broken;
}

-- the reply to a call that is none of `Fetch` can be told
pub can_be_told : (c : Call) (r : Reply) → IsNoFetch c → IsReplyTo c r → CanBeTold r
can_be_told (call.Fetch id) r other is = absurd other
can_be_told (call.Run id) (Ran run settings words) other is = is.few_words
can_be_told c (Ran run settings words) other is = absurd is
can_be_told c (Fetched b) other is = absurd is
can_be_told c r other is = tt

-- nothing was done but to answer
did_nothing : (p : SeatView) (line : List ℕ) → Did p p (plain_answer [] line)
did_nothing p line = record { goes_on = stays p; asked = sym (append-nil p.asked); low = tt; high = tt }

pub says : (p : SeatView) (IsSo : CommandOutcome → Type 0) (words line : List ℕ) → IsSo (plain_answer [] words) → line ≡ words → Acts p p IsSo line
says p IsSo words line h e = record { answer = plain_answer [] words; did = did_nothing p words; is_so = h; line_is = e }

shown_if : (seen : ℕ) (b : Bool) (by : ℕ) (c : Call) (r : Reply) → b ≡ is_logged r → value_of r ≤ seen
    → AllByRecursion (λ v. v ≤ seen) (map (λ (e : Entry). value_of e.reply) (logged by c r))
shown_if seen true by c r is h = rw (sym is) (h, tt)
shown_if seen false by c r is h = rw (sym is) tt

did_call : (old new : SeatView) (c : Call) (r : Reply) (line : List ℕ) → IsCalled old c r new → Did old new (plain_answer (logged old.session c r) line)
did_call old new c r line h = record { goes_on = h.goes_on; asked = h.asked; low = tt; high = shown_if new.seen (is_logged r) old.session c r refl h.seen }

-- a call was made, and its reply is the line
acts_call : (old new : SeatView) (id : ℕ) (c : Call) (r : Reply) (line : List ℕ) (IsSo : CommandOutcome → Type 0) → IsCalled old c r new
    → IsSo (tells old.session id c r) → line ≡ reply_line id r → Acts old new IsSo line
acts_call old new id c r line IsSo h so e = record { answer = tells old.session id c r; did = did_call old new c r _ h; is_so = so; line_is = e }

pub called : (old new : SeatView) (id : ℕ) (c : Call) (r : Reply) (line : List ℕ) → IsCalled old c r new → line ≡ reply_line id r
    → Acts old new (TellsReply old.session id c) line
called old new id c r line h e = acts_call old new id c r line (TellsReply old.session id c) h (r, refl) e

-- a call wasn't made, and nothing was added before
pub breaks : (old new : SeatView) (fault : ServeFault) (HasBegun : List Entry → Type 0) → fault ≡ Record → IsUncalled old new → HasBegun []
    → Breaks fault old new HasBegun
breaks old new fault HasBegun is un begun = record {
  fault_is = is;
  goes_on = un.goes_on;
  entries = [];
  asked = un.asked ∙ sym (append-nil old.asked);
  begun =
      begun;
}

-- what was done first, and then without a reading
did_more : (old mid new : SeatView) (a b : List Entry) (x y line : List ℕ) → Did old mid (plain_answer a x) → Did mid new (plain_answer b y)
    → Did old new (plain_answer (a ++ b) line)
did_more old mid new a b x y line p q = record {
  goes_on = goes_on false old mid new p.goes_on q.goes_on;
  asked = q.asked ∙ ap (λ l. l ++ b) p.asked ∙ append_assoc old.asked a b;
  low = tt;
  high = rw (map-append (λ (e : Entry). value_of e.reply) a b)
      (every_append (λ v. v ≤ new.seen) _ _ (each (λ v. v ≤ mid.seen) (λ v. v ≤ new.seen) (λ v le. omega (arith, le, q.goes_on.seen)) _ p.high) q.high);
}

-- ---- planning

plans : (old new : SeatView) (id : ℕ) (batch : List Transfer) (a : CommandOutcome) (line : List ℕ) → Did old new a → Settles old.session id batch a → line ≡ a.line
    → Acts old new (Plans old.session id) line
plans old new id batch a line did so e = record { answer = a; did = did; is_so = inr (batch, so); line_is = e }

-- a batch was fetched, and its plan settled
pub settled : (old mid new : SeatView) (id : ℕ) (batch : List Transfer) (plan : Plan) (line : List ℕ) → IsCalled old (call.Fetch id) (Fetched batch) mid
    → plan.batch ≡ batch → Acts mid new (TellsReply mid.session id (call.Settle id plan)) line → Acts old new (Plans old.session id) line
settled old mid new id batch plan line h of acts =
    let r = acts.is_so.0 in
    let same : acts.answer ≡ tells old.session id (call.Settle id plan) r = acts.is_so.1 ∙ ap (λ by. tells by id (call.Settle id plan) r) h.goes_on.session in
    let second : Did mid new (tells old.session id (call.Settle id plan) r) = subst (Did mid new) same acts.did in
    plans old new id batch (settles old.session id batch plan r) line
    (did_more old mid new (entry old.session (call.Fetch id) (Fetched batch) ∷ []) _ [] (reply_line id r) (reply_line id r)
    (did_call old mid (call.Fetch id) (Fetched batch) [] h) second)
    (inl (plan, r, of, refl))
    (acts.line_is ∙ ap (λ (x : CommandOutcome). x.line) same)

-- and a call with its plan wasn't made, or it was settled
pub settled_or : {T : Type 0} (old mid new : SeatView) (id : ℕ) (batch : List Transfer) (plan : Plan) (line : List ℕ) (r : Result T ServeFault)
    → IsCalled old (call.Fetch id) (Fetched batch) mid → plan.batch ≡ batch
    → IsDoneOrFailed mid new (TellsReply mid.session id (call.Settle id plan)) (λ es. es ≡ []) line r → IsDoneOrFailed old new (Plans old.session id)
    (IsFetching old.session id) line r
settled_or old mid new id batch plan line (Ok x) h of does = settled old mid new id batch plan line h of does
settled_or old mid new id batch plan line (Err e) h of b = record {
  fault_is = b.fault_is;
  goes_on = goes_on true old mid new h.goes_on b.goes_on;
  entries = entry old.session (call.Fetch id) (Fetched batch) ∷ [];
  asked = b.asked ∙ (ap (λ es. mid.asked ++ es) b.begun ∙ (append-nil mid.asked ∙ h.asked));
  begun = inr (batch, refl);
}

-- a batch was fetched, and there was no memory to plan it
pub unplanned : (old mid : SeatView) (id : ℕ) (batch : List Transfer) (line : List ℕ) → IsCalled old (call.Fetch id) (Fetched batch) mid → line
    ≡ refusal_line refusal.NoMemory → Acts old mid (Plans old.session id) line
unplanned old mid id batch line h e =
    plans old mid id batch (plain_answer (entry old.session (call.Fetch id) (Fetched batch) ∷ []) (refusal_line refusal.NoMemory)) line
    (did_call old mid (call.Fetch id) (Fetched batch) _ h) (inr refl) e

-- the reply to `Fetch`, where it is no batch, can be told, and refuses it
pub told_unfetched : (id : ℕ) (r : Reply) → IsReplyTo (call.Fetch id) r → ((batch : List Transfer) → r ≡ Fetched batch → ⊥) → CanBeTold r
told_unfetched id (Fetched b) is other = absurd (other b refl)
told_unfetched id (Refused why) is other = tt
told_unfetched id r is other = absurd is

pub unfetched : (old new : SeatView) (id : ℕ) (r : Reply) (line : List ℕ) → IsCalled old (call.Fetch id) r new
    → ((batch : List Transfer) → r ≡ Fetched batch → ⊥) → line ≡ reply_line id r → Acts old new (Plans old.session id) line
unfetched old new id (Fetched b) line h other e = absurd (other b refl)
unfetched old new id (Refused why) line h other e = acts_call old new id (call.Fetch id) (Refused why) line (Plans old.session id) h
    (inl (why, refl)) e
unfetched old new id r line h other e = absurd h.answers

-- ---- the progress word

pub read_progress : (old new : SeatView) (r : Reading) (line : List ℕ) → IsProgressRead old r new → line ≡ progress_line r → Acts old new ReadsProgress line
read_progress old new r line h e = record {
  answer = record { entries = []; reading = Some r; line = progress_line r };
  did = record {
    goes_on = h.goes_on;
    asked = h.asked ∙ sym (append-nil old.asked);
    low = (omega (arith, h.goes_on.seen, h.seen), tt);
    high = (omega (arith, h.seen), tt);
  };
  is_so = (r, h.done, refl);
  line_is = e;
}

-- ---- batch texts

tells_fault : (p : SeatView) (shape : ShapeView) (text : List ℕ) (fault : BatchFault) (line : List ℕ) → shape ≡ p.shape → fault ≢ NoMemory
    → (fault ≢ NoMemory → IsFirstFault shape text fault) → line ≡ refusal_line (of_batch fault) → Acts p p (Submits p.shape p.session text) line
tells_fault p shape text fault line same other first e =
    says p (Submits p.shape p.session text) (refusal_line (of_batch fault)) line
    (inr (inl (fault, other, subst (λ (x : ShapeView). IsFirstFault x text fault) same (first other), refl))) e

-- the first fault of a batch text is told, or want of memory
pub faulty : (p : SeatView) (shape : ShapeView) (text : List ℕ) (fault : BatchFault) (line : List ℕ) → shape ≡ p.shape
    → (fault ≢ NoMemory → IsFirstFault shape text fault) → line ≡ refusal_line (of_batch fault)
    → Acts p p (Submits p.shape p.session text) line
faulty p shape text NoMemory line same first e = says p (Submits p.shape p.session text) (refusal_line refusal.NoMemory) line
    (inr (inr refl)) e
faulty p shape text fault line same first e = tells_fault p shape text fault line same (λ x. cc) first e

-- the command that there is
pub which : (o : Option SessionCommand) (x y : SessionCommand) → o ≡ Some x → x ≡ y → o ≡ Some y
which o x y e f = e ∙ ap Some f
