-- What the laws state. Proofs use them; no contract of a call cites them.
use Rattle.std.specs.Prelude.{◌≡◌, ◌≢◌, ℕ, ◌^◌, ◌<◌, ◌≤◌, List, length, sum_by, All, Option, None}
use Rattle.std.specs.List.{range_with_len}
use Rattle.module_memory.specs.Store.{Store}
use Rattle.batch.specs.ShapeView.{IsShape}
use Rattle.batch.specs.declared.limits.TheConstants.{MAX_DIGITS}
use Rattle.batch_book.specs.declared.entry.Entry.{Entry}
use Rattle.batch_book.specs.declared.refusal.BookRefusal.TheVariants.{Stranger}
use Rattle.batch_book.specs.declared.reply.Reply.TheVariants.{Refused}
use Rattle.batch_book.specs.History.{AreUnstopped, IsReplay}
use Rattle.batch_book.specs.Machine.{Machine, opened}
use Rattle.batch_book.specs.Seats.{own}
use Rattle.client_session.specs.Seats.{SeatView}
use Rattle.client_session.specs.Sessions.{HasEnded}
use Rattle.client_session.specs.declared.fault.ServeFault.{ServeFault}
use Rattle.book_record.specs.RecordText.{CanTell}
use Rattle.record_replay.specs.Fetched.{AreOfLines, SettleFetched}

-- After any entries: where each session settles plans right after the fetching of their batches,
-- none is another's.
abbrev pub NoStrangers : Type 0
NoStrangers =
    (opening : Store) (earlier es : List Entry) (mid end : Machine)
    → IsReplay (opened opening) earlier mid → IsReplay mid es end
    → ((session : ℕ) → SettleFetched None (own session es))
    → All (λ e. e.reply ≢ Refused Stranger) es

-- After any entries: where sessions numbered from 0 have as many as there are, each of them such as
-- lines say, and no run stopped, a record can hold them all.
abbrev pub SessionsAreTold : Type 0
SessionsAreTold =
    (opening : Store) (earlier es : List Entry) (mid end : Machine) (n : ℕ)
    → IsReplay (opened opening) earlier mid → IsReplay mid es end
    → sum_by (λ session. length (own session es)) (range_with_len 0 n) ≡ length es
    → n ≤ 10 ^ MAX_DIGITS → ((session : ℕ) → session < n → AreOfLines (own session es))
    → AreUnstopped es → All CanTell es

-- the entries of a session are such as its lines say
abbrev pub SessionsSay : Type 0
SessionsSay =
    (fault : Option ServeFault) (known : Option (List ℕ)) (old new : SeatView) (bytes : List ℕ)
    (entries : List Entry) (written : List ℕ) → IsShape old.shape
    → HasEnded fault known old new bytes entries written → AreOfLines entries
