-- The words of a command line ask for one thing at most, and are at fault only where they ask for
-- nothing.
use Rattle.std.proofs.Common.{◌≡◌, ◌∙◌, ◌↔◌, ap, sym, inl, inr, ℕ, List, [], ◌∷◌, Option, Some, None, Bool, true, false, IsTrue, refl}
use Rattle.std.specs.Prelude.{◌≤◌, MatchOption, find, option_and_then, slice_get}
use Rattle.std.specs.Str.{bytes_eq}
use Rattle.std.specs.Str.Parse.{IsNumeral, digits_value, without_leading_plus}
use Rattle.std.proofs.lemmas.Option.{same_Some}
use Rattle.clap.specs.Words.{Row, Text, IsAmong, one_of, subcommand_of}
use Rattle.clap.specs.Walk.{row_text}
use Rattle.clap.specs.Values.{kind_of}
use Rattle.clap.specs.declared.error.Error.{Error}
use Rattle.clap.specs.declared.error.kind.ErrorKind.{ErrorKind}
use Rattle.plan_answers.specs.declared.source.Planning.{Planning}
use Rattle.plan_answers.specs.declared.source.Planning.TheVariants as planning
use Rattle.plan_answers.specs.declared.source.ScheduleSource.{ScheduleSource}
use Rattle.plan_answers.specs.declared.source.ScheduleSource.TheVariants as source
use Rattle.command_words.specs.declared.jobs.ArgumentsFault.TheVariants.{Clap}
use Rattle.command_words.specs.declared.jobs.Job.{Job}
use Rattle.command_words.specs.declared.jobs.Job.TheVariants.{Texts, Ports, Sessions}
use Rattle.command_words.specs.declared.jobs.TextJob.TheVariants.{Plan, Check, Draw, Prices, Switch, Orders, Direct, Apply, Run, Replay}
use Rattle.command_words.specs.declared.jobs.PortJob.TheVariants.{Drive, C004}
use Rattle.command_words.specs.declared.jobs.SessionJob.TheVariants.{Serve, Host, Talk}
use Rattle.command_words.specs.declared.jobs.RecordFile.{RecordFile}
use Rattle.command_words.specs.declared.jobs.Request.{Request}
use Rattle.command_words.specs.declared.jobs.SharedRack.{SharedRack}
use Rattle.command_words.specs.Jobs.{AskFor, HasJob, HasNumeral, HasPlanning, HasRack, HasRecord, HasSource, HasTwo, HasWorkers, IsFaultIn, IsRequest, faults_of, name_of}
use Rattle.command_words.specs.Program.{program}
use Rattle.command_words.proofs.CommandNames.{same_word}

-- ---- options

text : {A : Type 0} (o : Option A) (a b : A) → o ≡ Some a → o ≡ Some b → a ≡ b
text o a b x y = same_Some a b (sym x ∙ y)

-- a value isn't there where no value is
no_value : (o : Option Row) → option_and_then (λ r. slice_get r.values 0) o ≡ None → option_and_then row_text o ≡ None
no_value None none = refl
no_value (Some row) none = rw none refl

no_numeral : (o : Option Text) (last n : ℕ) → o ≡ None
    → MatchOption o ⊥ (λ text. IsNumeral 10 (without_leading_plus text) × (n ≡ digits_value 10 (without_leading_plus text)) × (n ≤ last)) → ⊥
no_numeral None last n none has = has
no_numeral (Some text) last n none has = absurd (cc)

one_value : (o : Option Text) (last m n : ℕ)
    → MatchOption o ⊥ (λ text. IsNumeral 10 (without_leading_plus text) × (m ≡ digits_value 10 (without_leading_plus text)) × (m ≤ last))
    → MatchOption o ⊥ (λ text. IsNumeral 10 (without_leading_plus text) × (n ≡ digits_value 10 (without_leading_plus text)) × (n ≤ last)) → m ≡ n
one_value None last m n a b = absurd a
one_value (Some text) last m n a b = a.1 ∙ sym b.1

numeral : (id : Text) (last : ℕ) (rows : List Row) (m n : Option ℕ) → HasNumeral id last rows m → HasNumeral id last rows n → m ≡ n
numeral id last rows None None a b = refl
numeral id last rows None (Some n) a b = absurd (no_numeral (one_of id rows) last n (no_value (find (λ r. bytes_eq r.id id) rows) a) b)
numeral id last rows (Some m) None a b = absurd (no_numeral (one_of id rows) last m (no_value (find (λ r. bytes_eq r.id id) rows) b) a)
numeral id last rows (Some m) (Some n) a b = ap Some (one_value (one_of id rows) last m n a b)

workers : (rows : List Row) (m n : ℕ) → HasWorkers rows m → HasWorkers rows n → m ≡ n
workers rows m n a b = same_Some m n (numeral _ _ rows (Some m) (Some n) a.0 b.0)

flag : (P : Type 0) (a b : Bool) → (IsTrue a ↔ P) → (IsTrue b ↔ P) → a ≡ b
flag P true true x y = refl
flag P false false x y = refl
flag P true false x y = sym (y.1 (x.0 refl))
flag P false true x y = x.1 (y.0 refl)

planned : (rows : List Row) (a b : Planning) → HasPlanning rows a → HasPlanning rows b → a ≡ b
planned rows planning.Plain planning.Plain x y = refl
planned rows planning.Plain planning.Steady x y = absurd (x y.0)
planned rows planning.Steady planning.Plain x y = absurd (y x.0)
planned rows planning.Steady planning.Steady x y = refl

two : (rows : List Row) (a b : Bool) → HasTwo rows a → HasTwo rows b → a ≡ b
two rows false false x y = refl
two rows false true x y = absurd (x y.0)
two rows true false x y = absurd (y x.0)
two rows true true x y = refl

not_both : (o : Option Text) (a : Text) → o ≡ None → o ≡ Some a → ⊥
not_both o a none some = let e : None ≡ Some a = sym none ∙ some in absurd (cc)

sourced : (rows : List Row) (a b : ScheduleSource Text) → HasSource rows a → HasSource rows b → a ≡ b
sourced rows (source.Plan a) (source.Plan b) x y = ap source.Plan (planned rows a b x.1 y.1)
sourced rows (source.Plan a) (source.Text b) x y = absurd (not_both _ b x.0 y.0)
sourced rows (source.Text a) (source.Plan b) x y = absurd (not_both _ a y.0 x.0)
sourced rows (source.Text a) (source.Text b) x y = ap source.Text (text _ a b x.0 y.0)

same_file : (a b : Text) (r s x y : Bool) → a ≡ b → r ≡ s → x ≡ y → ◌≡◌ {A = RecordFile} (record { name = a; resumes = r; syncs = x })
    (record { name = b; resumes = s; syncs = y })
same_file a b r s x y names resumes syncs = rw (names, resumes, syncs) refl

recorded : (rows : List Row) (a b : Option RecordFile) → HasRecord rows a → HasRecord rows b → a ≡ b
recorded rows None None x y = refl
recorded rows None (Some b) x y = absurd (not_both _ b.name x.0 y.0)
recorded rows (Some a) None x y = absurd (not_both _ a.name y.0 x.0)
recorded rows (Some a) (Some b) x y =
    ap Some (same_file a.name b.name a.resumes b.resumes a.syncs b.syncs (text _ a.name b.name x.0 y.0) (flag _ a.resumes b.resumes x.1 y.1)
    (flag _ a.syncs b.syncs x.2 y.2))

same_rack : (s t : Text) (i j o p : Option Text) (r q : Option RecordFile) → s ≡ t → i ≡ j → r ≡ q → o ≡ p
    → ◌≡◌ {A = SharedRack} (record { shape = s; image = i; record_out = r; image_out = o }) (record { shape = t; image = j; record_out = q; image_out = p })
same_rack s t i j o p r q shapes images records outs = rw (shapes, images, records, outs) refl

racked : (rows : List Row) (a b : SharedRack) → HasRack rows a → HasRack rows b → a ≡ b
racked rows a b x y = same_rack a.shape b.shape a.image b.image a.image_out b.image_out a.record_out b.record_out (text _ a.shape b.shape x.shape y.shape)
    (sym x.image ∙ y.image) (recorded rows a.record_out b.record_out x.recorded y.recorded) (sym x.out ∙ y.out)

-- ---- jobs

one_job : (rows : List Row) (a b : Job) → name_of a ≡ name_of b → HasJob rows a → HasJob rows b → a ≡ b
one_job rows (Texts (Plan f p w)) (Texts (Plan g q v)) same x y = rw (text _ f g x.0 y.0, planned rows p q x.1 y.1, workers rows w v x.2 y.2) refl
one_job rows (Texts (Check f s)) (Texts (Check g t)) same x y = rw (text _ f g x.0 y.0, text _ s t x.1 y.1) refl
one_job rows (Texts (Draw f s r)) (Texts (Draw g t q)) same x y = rw (text _ f g x.0 y.0, text _ s t x.1 y.1, sym x.2 ∙ y.2) refl
one_job rows (Texts (Draw f s r)) (Texts (Prices g t)) same x y = absurd (x.3 y.3)
one_job rows (Texts (Prices f s)) (Texts (Prices g t)) same x y = rw (text _ f g x.0 y.0, text _ s t x.1 y.1) refl
one_job rows (Texts (Prices f s)) (Texts (Draw g t q)) same x y = absurd (y.3 x.3)
one_job rows (Texts (Switch f s i d w)) (Texts (Switch g t j e v)) same x y =
    rw (text _ f g x.0 y.0, sourced rows s t x.1 y.1, sym x.2 ∙ y.2, two rows d e x.3 y.3, workers rows w v x.4 y.4) refl
one_job rows (Texts (Orders f s m w)) (Texts (Orders g t n v)) same x y = rw (
  text _ f g x.0 y.0,
  sourced rows s t x.1 y.1,
  numeral _ _ rows m n x.2 y.2,
  workers rows w v x.3 y.3,
) refl
one_job rows (Texts (Direct f)) (Texts (Direct g)) same x y = rw (text _ f g x y) refl
one_job rows (Texts (Apply s f i w)) (Texts (Apply t g j v)) same x y =
    rw (text _ s t x.0 y.0, text _ f g x.1 y.1, text _ i j x.2 y.2, workers rows w v x.3 y.3) refl
one_job rows (Texts (Run s f o i w)) (Texts (Run t g p j v)) same x y = rw (
  text _ s t x.0 y.0,
  text _ f g x.1 y.1,
  sourced rows o p x.2 y.2,
  sym x.3 ∙ y.3,
  workers rows w v x.4 y.4,
) refl
one_job rows (Texts (Replay s f i n)) (Texts (Replay t g j m)) same x y = rw (sym x.0 ∙ y.0, text _ f g x.1 y.1, sym x.2 ∙ y.2, numeral _ _ rows n m x.3 y.3)
    refl
one_job rows (Ports (Drive f p o s i k l w)) (Ports (Drive g q r t j m n v)) same x y =
    rw (
      text _ f g x.0 y.0,
      text _ p q x.1 y.1,
      sym x.2 ∙ y.2,
      sourced rows s t x.3 y.3,
      sym x.4 ∙ y.4,
      same_Some k m (numeral _ _ rows (Some k) (Some m) x.5 y.5),
      flag _ l n x.6 y.6,
      workers rows w v x.7 y.7,
    ) refl
one_job rows (Ports C004) (Ports C004) same x y = refl
one_job rows (Sessions r (Serve s w)) (Sessions q (Serve t v)) same x y = rw (racked rows r q x.0 y.0, text _ s t x.1.0 y.1.0, workers rows w v x.2 y.2) refl
one_job rows (Sessions r (Host s w)) (Sessions q (Host t v)) same x y = rw (racked rows r q x.0 y.0, text _ s t x.1.0 y.1.0, workers rows w v x.2 y.2) refl
one_job rows (Sessions r Talk) (Sessions q Talk) same x y = rw (racked rows r q x y) refl
one_job rows a (Texts (Direct g)) same x y = absurd (let bad = same in cc)
one_job rows a (Ports C004) same x y = absurd (let bad = same in cc)
one_job rows a (Sessions q Talk) same x y = absurd (let bad = same in cc)
one_job rows a b same x y = absurd (let bad = same in cc)

same_request : (a b : Job) (q r : Bool) → a ≡ b → q ≡ r → ◌≡◌ {A = Request} (record { job = a; is_quiet = q }) (record { job = b; is_quiet = r })
same_request a b q r jobs quiet = rw (jobs, quiet) refl

pub one_found : (found : Option (Text × List Row)) (a b : Request) → MatchOption found ⊥ (λ p. IsRequest p.0 p.1 a)
    → MatchOption found ⊥ (λ p. IsRequest p.0 p.1 b) → a ≡ b
one_found None a b x y = absurd x
one_found (Some p) a b x y = same_request a.job b.job a.is_quiet b.is_quiet (one_job p.1 a.job b.job (same_word _ _ (sym x.calls ∙ y.calls)) x.job y.job)
    (flag _ a.is_quiet b.is_quiet x.quiet y.quiet)

-- there is one request at most
pub one_request : (words : List Text) (a b : Request) → AskFor words a → AskFor words b → a ≡ b
one_request words a b x y = one_found (subcommand_of program words) a b x.gives y.gives

none_among : (k : ErrorKind) (kinds : List ErrorKind) → kinds ≡ [] → IsAmong k kinds → ⊥
none_among k [] none among = among
none_among k (x ∷ xs) none among = absurd (cc)

-- where there is one, clap finds nothing at fault
pub no_fault : (words : List Text) (a : Request) (error : Error) → AskFor words a → IsFaultIn words (Clap error) → ⊥
no_fault words a error asks (known, inl among) = none_among (kind_of error) (faults_of words) asks.taken among
no_fault words a error asks (known, inr (taken, mistake, none)) = none a asks
