-- Room for another entry.
use Rattle.std.proofs.Common.{◌≡◌, ℕ, ◌+◌, ◌<◌, Bool, true, false, nat_lt, if◌then◌else◌, length, true≢false, refl, sym, arith}
use Rattle.std.proofs.lemmas.Bool.{ltb-true}
use Rattle.batch_book.specs.declared.limits.TheConstants.{MAX_ENTRIES, MAX_NUMBER}
use Rattle.batch_book.specs.History.{BookView, AreFewEntries, has_room, has_numbers, has_book_room}

-- what room there is
pub record HasRoom (limited : Bool) (a : BookView) : Type 0 where
  pub entries : has_room limited (length a.history) ≡ true
  pub given : a.machine.given < MAX_NUMBER
  pub runs : a.machine.runs < MAX_NUMBER

both : (b c : Bool) → (if b then c else false) ≡ true → (b ≡ true) × (c ≡ true)
both true c is = (refl, is)
both false c is = absurd (true≢false (sym is))

below : (m n : ℕ) → nat_lt m n ≡ true → m < n
below m n is = ltb-true m n is

pub room_of : (limited : Bool) (a : BookView) → has_book_room limited a ≡ true → HasRoom limited a
room_of limited a is =
    let first = both (has_room limited (length a.history)) (has_numbers a.machine) is in
    let rest = both (nat_lt a.machine.given MAX_NUMBER) (nat_lt a.machine.runs MAX_NUMBER) first.1 in record {
      entries = first.0;
      given = below a.machine.given MAX_NUMBER rest.0;
      runs = below a.machine.runs MAX_NUMBER rest.1;
    }

pub within_more : (limited : Bool) (n : ℕ) → has_room limited n ≡ true → AreFewEntries limited (n + 1)
within_more true n is = let less = below n MAX_ENTRIES is in omega (arith, less)
within_more false n is = tt
