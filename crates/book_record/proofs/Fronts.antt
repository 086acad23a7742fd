-- Fronts of the text of entries.
use Rattle.std.proofs.Common.{◌≡◌, ◌≢◌, ℕ, suc, ◌+◌, List, [], ◌∷◌, ◌++◌, ◌⊎◌, inl, inr, get_or, length, All, refl, sym, ap, ◌∙◌, append_assoc, subst, arith}
use Rattle.std.specs.Fmt.{decimal}
use Rattle.std.specs.Int.{IsInRange}
use Rattle.std.proofs.lemmas.Fmt.{decimal_is_IsNumeral}
use Rattle.std.proofs.lemmas.List.{get_or_append_left, length-append, nil_from_length}
use Rattle.std.proofs.lemmas.List.Elements.{All-head, All-nil, All-cons, All-tail}
use Rattle.std.proofs.lemmas.Str.Parse.{digit_at}
use Rattle.batch.proofs.Numbers.{form}
use Rattle.batch.specs.Text.{IsNumber, number, space, line_feed}
use Rattle.batch_book.specs.Told.{told}
use Rattle.batch_book.specs.declared.entry.Entry.{Entry}
use Rattle.client_session.specs.Bytes.{HasNoFeed}
use Rattle.line_words.specs.HexWords.{hex8}
use Rattle.book_record.specs.RecordText.{call_text, id_of, reply_text, entry_lines, entry_text, texts, CanTell}
use Rattle.book_record.specs.Sums.{HasNoMark, sum_at, sum_mark, summed}
use Rattle.book_record.specs.Fronts.{IsDamaged, IsLineByte, IsTorn, IsUnfinished, IsCutOff, BeginsFirst, end_line}
use Rattle.book_record.specs.FrontLaws.{EachFrontIsRead, EndIsNoEntry}
use Rattle.book_record.proofs.Feeds.{first_at, hex8_plain, without_feed}
use Rattle.book_record.proofs.Marks.{end_lined, end_unmarked, front_lined, told_lined, told_unmarked}

-- ---- what is summed

sum_form : (b h x : List ℕ) → (b ++ (sum_mark ∷ (h ++ line_feed ∷ []))) ++ x ≡ b ++ sum_mark ∷ (h ++ line_feed ∷ x)
sum_form b h x = simp append_assoc

pub summed_form : (n : ℕ) (b x : List ℕ) → summed n b ++ x ≡ b ++ sum_mark ∷ (hex8 (sum_at n b) ++ line_feed ∷ x)
summed_form n b x = sum_form b (hex8 (sum_at n b)) x

hex_fed : (w : ℕ) → HasNoFeed (hex8 w)
hex_fed w = without_feed (hex8_plain w)

cut_form : (b l x m : List ℕ) → (b ++ sum_mark ∷ (l ++ line_feed ∷ x)) ++ m ≡ b ++ sum_mark ∷ (l ++ line_feed ∷ (x ++ m))
cut_form b l x m = simp append_assoc

-- a front of what is summed, and not the whole of it, is unfinished
cut_summed : (n : ℕ) (b front missing : List ℕ) → HasNoMark b → summed n b ≡ front ++ missing → missing ≢ [] → IsUnfinished front
cut_summed n b front missing none same some body line rest unmarked fed is =
    let whole : b ++ sum_mark ∷ (hex8 (sum_at n b) ++ line_feed ∷ []) ≡ body ++ sum_mark ∷ (line ++ line_feed ∷ (rest ++ missing)) =
    same ∙ ap (λ (l : List ℕ). l ++ missing) is ∙ cut_form body line rest missing in
    let first = first_at sum_mark b body _ _ none unmarked whole in
    let second = first_at line_feed (hex8 (sum_at n b)) line [] (rest ++ missing) (hex_fed (sum_at n b)) fed first.1 in
    some (nil_from_length missing (omega (arith, ap length second.1, length-append rest missing)))

pub torn_summed : (n : ℕ) (b front missing : List ℕ) → HasNoMark b → All IsLineByte b → summed n b ≡ front ++ missing → missing ≢ [] → IsTorn front
torn_summed n b front missing none lined same some = (cut_summed n b front missing none same some, front_lined n b front missing lined same)

-- what is summed isn't unfinished
pub never : (n : ℕ) (b x text : List ℕ) → HasNoMark b → text ≡ summed n b ++ x → IsUnfinished text → ⊥
never n b x text none is unfinished = unfinished b (hex8 (sum_at n b)) x none (hex_fed (sum_at n b)) (is ∙ summed_form n b x)

-- another sum stands there
pub other_sum : (n : ℕ) (text body line rest : List ℕ) → HasNoMark body → HasNoFeed line → text ≡ body ++ sum_mark ∷ (line ++ line_feed ∷ rest)
    → line ≢ hex8 (sum_at n body) → IsDamaged n text
other_sum n text body line rest none fed is differs = record {
  unsummed = λ b x s.
      let first = first_at sum_mark body b _ _ none s.none (sym is ∙ s.front ∙ summed_form n b x) in
      let second = first_at line_feed line (hex8 (sum_at n b)) rest x fed (hex_fed (sum_at n b)) first.1 in
      differs (second.0 ∙ ap (λ (l : List ℕ). hex8 (sum_at n l)) (sym first.0));
  whole = λ torn. torn.0 body line rest none fed is;
}

-- no sum does, and other bytes than lines have
pub other_bytes : (n : ℕ) (text : List ℕ) → IsUnfinished text → (All IsLineByte text → ⊥) → IsDamaged n text
other_bytes n text unfinished strange = record {
  unsummed = λ b x s. never n b x text s.none s.front unfinished;
  whole = λ torn. strange torn.1;
}

-- ---- entries

-- the first entry, and what stands after it
pub first_text : (n : ℕ) (e : Entry) (es : List Entry) (x : List ℕ) → texts n (e ∷ es) ++ x ≡ entry_text n e ++ (texts (suc n) es ++ x)
first_text n e es x = append_assoc (entry_text n e) (texts (suc n) es) x

-- ---- each front

-- where two texts in two parts are the same, the first part of the one goes on in the other
pub split : (a b c d : List ℕ) → a ++ b ≡ c ++ d → ((m : List ℕ) × (c ≡ a ++ m) × (b ≡ m ++ d)) ⊎ ((m : List ℕ) × (m ≢ []) × (a ≡ c ++ m))
split [] b c d same = inl (c, refl, same)
split (x ∷ a) b [] d same = inr (x ∷ a, (λ e. absurd cc), refl)
split (x ∷ a) b (y ∷ c) d same =
    let head : x ≡ y = cc in
    let rest : a ++ b ≡ c ++ d = cc in
    elim (split a b c d rest) [
      | inl s ↦ inl (s.0, ap (λ (n : ℕ). n ∷ c) (sym head) ∙ ap (λ (l : List ℕ). x ∷ l) s.1, s.2)
      | inr s ↦ inr (s.0, s.1, ap (λ (n : ℕ). n ∷ a) head ∙ ap (λ (l : List ℕ). y ∷ l) s.2)
    ]

-- nothing is torn
empty : IsTorn []
empty = ((λ body line rest none fed is. omega (arith, ap length is, length-append body (sum_mark ∷ (line ++ line_feed ∷ rest)))), All-nil IsLineByte)

pub nil_left : (a b : List ℕ) → [] ≡ a ++ b → a ≡ []
nil_left [] b e = refl
nil_left (x ∷ a) b e = absurd cc

none_whole : (n : ℕ) (es : List Entry) (front : List ℕ) → IsTorn front → BeginsFirst (n + 0) es front → IsCutOff n es front
none_whole n es front torn begun = record {
  whole = [];
  more = es;
  rest = front;
  are = refl;
  read = refl;
  each = All-nil CanTell;
  torn = torn;
  begun = begun;
}

one_whole : (n : ℕ) (e : Entry) (es : List Entry) (front m : List ℕ) → CanTell e → front ≡ entry_text n e ++ m → IsCutOff (suc n) es m
    → IsCutOff n (e ∷ es) front
one_whole n e es front m can is c =
    let count : suc n + length c.whole ≡ n + length (e ∷ c.whole) = omega arith in
    record {
      whole = e ∷ c.whole;
      more = c.more;
      rest = c.rest;
      are = ap (λ (l : List Entry). e ∷ l) c.are;
      read = is ∙ ap (λ (l : List ℕ). entry_text n e ++ l) c.read ∙ sym (first_text n e c.whole c.rest);
      each = All-cons CanTell e c.whole can c.each;
      torn = c.torn;
      begun = subst (λ (k : ℕ). BeginsFirst k c.more c.rest) count c.begun;
    }

at_first : (n : ℕ) → n ≡ n + 0
at_first n = omega arith

pub each_front : EachFrontIsRead
each_front n [] front missing each same =
    let none : front ≡ [] = nil_left front missing same in
    none_whole n [] front (subst IsTorn (sym none) empty) none
each_front n (e ∷ es) front missing each same =
    let can = All-head CanTell e es each in
    elim (split (entry_text n e) (texts (suc n) es) front missing same) [
      | inl s ↦ one_whole n e es front s.0 can s.1 (each_front (suc n) es s.0 missing (All-tail CanTell e es each) s.2)
      | inr s ↦ none_whole n (e ∷ es) front (torn_summed n (entry_lines e) front s.0 (told_unmarked e can) (told_lined e can) s.2 s.1)
          (subst (λ (k : ℕ). BeginsFirst k (e ∷ es) front) (at_first n) (s.0, s.1, s.2))
    ]

-- ---- the last lines

pub first_digit : (s : ℕ) (z : List ℕ) → IsNumber s → 101 ≡ get_or (number s space ++ z) 0 0 → ⊥
first_digit s z fits is =
    let numeral = (decimal_is_IsNumeral s (omega (arith, fits))).0 in
    let digit : IsInRange 48 57 (get_or (decimal s) 0 0) = digit_at (decimal s) 0 (form (decimal s) s fits refl).digits numeral.0 in
    let at : get_or (number s space ++ z) 0 0 ≡ get_or (decimal s) 0 0 = ap (λ (l : List ℕ). get_or l 0 0) (append_assoc (decimal s) (space ∷ []) z)
    ∙ get_or_append_left (decimal s) (space ∷ z) 0 0 numeral.0 in
    omega (arith, is, at, digit)

pub end_is_no_entry : EndIsNoEntry
end_is_no_entry = (
  λ n front missing same some. torn_summed n (end_line n) front missing (end_unmarked n) (end_lined n) same some,
  λ n e can is. first_digit e.session (call_text (told e.call) ++ reply_text (id_of (told e.call)) e.reply) can.session
      (ap (λ (l : List ℕ). get_or l 0 0) (sym is)),
)
