-- What `host` leaves.
use Rattle.std.specs.Prelude.{◌≡◌, ◌⊎◌, ℕ, Bool, true, List, [], ◌++◌, codes, flat_map, map, All}
use Rattle.std.specs.Prelude.{Option, is_some}
use Rattle.std.specs.Fmt.{decimal}
use Rattle.std.specs.Io.KnownBytes.{Appends}
use Rattle.std.specs.List.{list_any, range_with_len}
use Rattle.batch_book.specs.History.{BookView}
use Rattle.client_session.specs.declared.fault.ServeFault.{ServeFault}
use Rattle.session_answers.specs.declared.ended_session.Ending.{Ending}
use Rattle.session_answers.specs.declared.ended_session.Ending.TheVariants.{Unopened, Served}
use Rattle.plan_answers.specs.Refusals.{Printed}
use Rattle.refusals.specs.declared.refusal.Refusal.{Refusal}
use Rattle.refusals.specs.declared.refusal.Refusal.TheVariants.{NoMemory, Threads}
use Rattle.session_answers.specs.Frames.{end_line}
use Rattle.session_answers.specs.Histories.{Part, IsClosing}
use Rattle.session_answers.specs.Sessions.{Beginning, beginning, IsServedSession}

-- what is known of the clients of a host: how many they are, what each says, what its writer holds
-- at first, its name, and whether its files may be such that they can't be opened
pub record KnownClients : Type 0 where
  pub clients : ℕ
  pub says : ℕ → Option (List ℕ)
  pub contains : ℕ → Option (List ℕ)
  pub named : ℕ → List ℕ
  pub may_fail : ℕ → Bool

-- How a client's session ended: in place of the receipt of its writer it has the bytes that this
-- was closed with, where they are known.
abbrev pub SessionEnd : Type 0
SessionEnd = Ending (Option (List ℕ))

abbrev pub seen_end : {C : Type 0} → (C → Option (List ℕ)) → Ending C → SessionEnd
seen_end received Unopened = Unopened
seen_end received (Served fault receipt) = Served fault (received receipt)

-- a client's session at a host: its part of the history, and how it ended
pub record HostedSession : Type 0 where
  pub part : Part
  pub end : SessionEnd

-- its files couldn't be opened: nothing was asked, and nothing seen since
pub record WasUnopened (b : Beginning) (g : KnownClients) (part : Part) : Type 0 where
  pub may_fail : g.may_fail part.session ≡ true
  pub asked : part.asked ≡ []
  pub log : part.log ≡ []
  pub seen : part.seen ≡ b.seen

-- The session read of what its client said. What it told stands in its closed writer, after what
-- that held at first.
pub record WasServed (b : Beginning) (said out_before closed : Option (List ℕ))
    (fault : Option ServeFault) (part : Part) : Type 0 where
  pub rest : Option (List ℕ)
  pub told : List ℕ
  pub session : IsServedSession b said rest (record { part = part; told = told; fault = fault })
  pub wrote : Appends out_before closed told

-- what a client's part and end may be
abbrev pub IsHostedSession : Beginning → KnownClients → Part → SessionEnd → Type 0
IsHostedSession b g part Unopened = WasUnopened b g part
IsHostedSession b g part (Served fault closed) =
    WasServed b (g.says part.session) (g.contains part.session) closed fault part

-- each client had its session, in their order
pub record AreHostedSessions (b : Beginning) (g : KnownClients)
    (sessions : List HostedSession) : Type 0 where
  pub numbers : map (λ v. v.part.session) sessions ≡ range_with_len 0 g.clients
  pub each : All (λ v. IsHostedSession b g v.part v.end) sessions

-- the line that tells how a session ended, unless it ended by itself
abbrev pub ending_line : {C : Type 0} → Ending C → List ℕ
ending_line Unopened = codes "ended open\n"
ending_line (Served fault receipt) = end_line fault

-- `session I CLIENT`
abbrev pub hosted_heading : KnownClients → ℕ → List ℕ
hosted_heading g session =
    codes "session " ++ decimal session ++ codes " " ++ g.named session ++ codes "\n"

-- what is printed of a session
abbrev pub hosted_text : KnownClients → HostedSession → List ℕ
hosted_text g v = hosted_heading g v.part.session ++ ending_line v.end

-- it didn't end by itself
abbrev pub has_failed : {C : Type 0} → Ending C → Bool
has_failed Unopened = true
has_failed (Served fault receipt) = is_some fault

-- the sessions of the clients, which ended so, on one exchange over a book that was so, and the
-- book that they leave
abbrev pub AreHosted : Bool → BookView → KnownClients → List SessionEnd → Printed → BookView
    → Type 0
AreHosted loses was g ends printed left =
    (sessions : List HostedSession) × (map (λ v. v.end) sessions ≡ ends)
    × AreHostedSessions (beginning loses was) g sessions
    × IsClosing loses was.opening was.history (map (λ v. v.part) sessions)
    (flat_map (hosted_text g) sessions) (list_any has_failed ends) printed left

-- why no session began: their threads, or the memory, couldn't be had
abbrev pub IsUnhosted : Refusal → Type 0
IsUnhosted refusal = (refusal ≡ Threads) ⊎ (refusal ≡ NoMemory)
