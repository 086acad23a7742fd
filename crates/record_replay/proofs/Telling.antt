-- A record can tell what sessions leave.
use Rattle.std.proofs.Common.{◌≢◌, ℕ, ◌<◌, ◌≤◌, inl, inr, List, [], ◌∷◌, None, sym, subst, arith}
use Rattle.std.specs.List.{AllByRecursion}
use Rattle.std.proofs.lemmas.Bool.{cases_lt}
use Rattle.std.proofs.lemmas.List.Elements.{All-from_recursion, recursion_from_All}
use Rattle.batch_book.specs.declared.entry.Entry.{Entry}
use Rattle.batch_book.specs.declared.refusal.BookRefusal.TheVariants.{Stranger}
use Rattle.batch_book.specs.declared.reply.Reply.TheVariants as reply
use Rattle.batch_book.specs.Seats.{own}
use Rattle.batch_book.specs.Told.{told}
use Rattle.book_record.specs.RecordText.{CanSay, CanTell}
use Rattle.batch_book.specs.Replies.{IsUnstopped}
use Rattle.record_replay.specs.Fetched.{SettleFetched}
use Rattle.record_replay.specs.SessionLaws.{SessionsAreTold}
use Rattle.record_replay.proofs.Others.{no_others, none_own, all_own}
use Rattle.record_replay.proofs.Strangers.{no_strangers}

each_told : (n : ℕ) (es : List Entry) → n ≤ 1000000000 → AllByRecursion (λ e. e.session < n) es → AllByRecursion (λ e. CanSay (told e.call)) es
    → AllByRecursion (λ e. IsUnstopped e.reply) es
    → AllByRecursion (λ e. e.reply ≢ reply.Refused Stranger) es → AllByRecursion CanTell es
each_told n [] few sessions say unstopped strange = tt
each_told n (e ∷ es) few sessions say unstopped strange = (
  let less = sessions.0 in
      record { session = omega (arith, less, few); call = say.0; reply = (unstopped.0, strange.0) },
  each_told n es few sessions.1 say.1 unstopped.1 strange.1,
)

settle_all : (n : ℕ) (es : List Entry) → AllByRecursion (λ e. e.session < n) es → ((s : ℕ) → s < n → SettleFetched None (own s es)) → (s : ℕ)
    → SettleFetched None (own s es)
settle_all n es sessions settle s = elim (cases_lt s n) [
  | inl less ↦ settle s less
  | inr out ↦ subst (SettleFetched None) (sym (none_own s n es sessions (omega (arith, out)))) tt
]

pub sessions_are_told : SessionsAreTold
sessions_are_told opening earlier es mid end n before led counted few say unstopped =
    let sessions = no_others es n counted in
    let strange = no_strangers opening earlier es mid end before led (settle_all n es sessions (λ s less. (say s less).settle)) in
    All-from_recursion CanTell es
    (each_told n es (omega (arith, few)) sessions
    (all_own (λ e. CanSay (told e.call)) n es sessions (λ s less. recursion_from_All (λ e. CanSay (told e.call)) (own s es) (say s less).calls))
    (recursion_from_All (λ e. IsUnstopped e.reply) es unstopped) (recursion_from_All (λ e. e.reply ≢ reply.Refused Stranger) es strange))
