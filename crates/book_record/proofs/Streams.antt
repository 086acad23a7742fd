-- Entries that wait, and such as are written.
use Rattle.std.proofs.Common.{◌≡◌, ℕ, suc, ◌≤◌, ◌+◌, ◌%◌, ◌<◌, Bool, true, false, List, [], ◌∷◌, ◌++◌, length, take, drop, get_or, length-take-le, Option, refl, sym, ap, ◌∙◌, subst, append_assoc}
use Rattle.std.proofs.Common.{append-nil, true≢false, arith}
use Rattle.std.specs.Io.KnownBytes.{Appends}
use Rattle.std.proofs.lemmas.List.{take-append-drop, drop-append-le, length-take, length-append, take_all, take_more}
use Rattle.std.proofs.Math.Seq.{take-append_seam, drop-append_seam}
use Rattle.byte_streams.specs.Writing.{IsCutShort}
use Rattle.byte_streams.proofs.Carrying.{appends_none, appends_then}
use Rattle.batch.specs.Text.{number, space}
use Rattle.batch_book.specs.declared.call.Call.{Call}
use Rattle.batch_book.specs.declared.entry.Entry.{Entry}
use Rattle.batch_book.specs.declared.reply.Reply.{Reply}
use Rattle.batch_book.specs.History.{IsPrefix, entry}
use Rattle.batch_book.specs.Told.{told}
use Rattle.batch_book.proofs.Fronts.{front, starts, starts_same, starts_then}
use Rattle.book_record.specs.RecordText.{id_of, call_text, reply_text, entry_lines, entry_text, texts}
use Rattle.book_record.specs.Sums.{sum_at, numbered, sum_line}
use Rattle.book_record.specs.Streams.{IsWritten, StandsAtWriter, text_behind}
use Rattle.book_record.proofs.Sums.{sum_wraps}

-- entries after others
pub texts_append : (n : ℕ) (a b : List Entry) → texts n (a ++ b) ≡ texts n a ++ texts (n + length a) b
texts_append n [] b = let e : n ≡ n + 0 = omega arith in ap (λ (k : ℕ). texts k b) e
texts_append n (e ∷ a) b =
    let count : suc n + length a ≡ n + length (e ∷ a) = omega arith in
    ap (λ (l : List ℕ). entry_text n e ++ l) (texts_append (suc n) a b ∙ ap (λ (k : ℕ). texts (suc n) a ++ texts k b) count)
    ∙ sym (append_assoc (entry_text n e) (texts (suc n) a) (texts (n + length (e ∷ a)) b))

pub texts_both : (a b : List Entry) → texts 0 (a ++ b) ≡ texts 0 a ++ texts (length a) b
texts_both a b = let e : 0 + length a ≡ length a = omega arith in texts_append 0 a b ∙ ap (λ (k : ℕ). texts 0 a ++ texts k b) e

-- one more
pub texts_more : (all : List Entry) (k : ℕ) (e : Entry) → e ≡ get_or all k e → k < length all → texts 0 (take k all) ++ entry_text k e
    ≡ texts 0 (take (k + 1) all)
texts_more all k e is less =
    let count : 0 + length (take k all) ≡ k = omega (arith, length-take-le k all (omega (arith, less))) in
    let last : texts (0 + length (take k all)) (e ∷ []) ≡ entry_text k e = ap (λ (i : ℕ). texts i (e ∷ [])) count ∙ append-nil (entry_text k e) in
    ap (λ (l : List ℕ). texts 0 (take k all) ++ l) (sym last) ∙ sym (texts_append 0 (take k all) (e ∷ [])) ∙ ap (λ (x : Entry). texts 0 (take k all ++ x ∷ []))
    is ∙ ap (texts 0) (sym (take_more all k e less))

-- after those that are the first of others
count_of : (xs ys zs : List Entry) → zs ≡ xs ++ ys → length xs + length ys ≡ length zs
count_of xs ys zs is = omega (arith, ap length is, length-append xs ys)

after_are : (taken more all : List Entry) → all ≡ taken ++ more → text_behind taken all ≡ texts (length taken) more
after_are taken more all is = ap (texts (length taken)) (ap (drop (length taken)) is ∙ drop-append_seam taken more)

-- ---- what waits

split_at : (xs ys : List Entry) → IsPrefix xs ys → ys ≡ xs ++ drop (length xs) ys
split_at xs ys is = sym (take-append-drop (length xs) ys) ∙ ap (λ (l : List Entry). l ++ drop (length xs) ys) (sym is)

starts_le : (xs ys : List Entry) → IsPrefix xs ys → length xs ≤ length ys
starts_le xs ys is = let e : length xs ≡ length (take (length xs) ys) = ap length is in omega (arith, e, length-take (length xs) ys)

none_behind : (xs : List Entry) → drop (length xs) xs ≡ []
none_behind [] = refl
none_behind (x ∷ xs) = none_behind xs

pub behind_none : (taken all : List Entry) → taken ≡ all → text_behind taken all ≡ []
behind_none taken all is = ap (λ (l : List Entry). texts (length l) (drop (length l) all)) is ∙ ap (texts (length all)) (none_behind all)

behind_more : (taken all : List Entry) (e : Entry) → IsPrefix taken all → text_behind taken (all ++ e ∷ []) ≡ text_behind taken all ++ entry_text (length all) e
behind_more taken all e first =
    let rest = drop (length taken) all in
    ap (texts (length taken)) (drop-append-le (length taken) all (e ∷ []) (starts_le taken all first)) ∙ texts_append (length taken) rest (e ∷ [])
    ∙ ap (λ (k : ℕ). text_behind taken all ++ texts k (e ∷ [])) (count_of taken rest all (split_at taken all first))
    ∙ ap (λ (l : List ℕ). text_behind taken all ++ l) (append-nil (entry_text (length all) e))

-- what is known of the entries that wait, and of their text
abbrev pub IsText : (queued all : List Entry) → List ℕ → Type 0
IsText queued all buffer = IsPrefix queued all × (buffer ≡ text_behind queued all)

pub none_wait : (queued all : List Entry) (buffer : List ℕ) → queued ≡ all → buffer ≡ [] → IsText queued all buffer
none_wait queued all buffer is empty = (starts_same queued all is, empty ∙ sym (behind_none queued all is))

-- one entry more
pub one_more : (queued all : List Entry) (e : Entry) (more : List Entry) (buffer longer : List ℕ) → IsText queued all buffer → more ≡ all ++ e ∷ [] → longer
    ≡ buffer ++ entry_text (length all) e → IsText queued more longer
one_more queued all e more buffer longer b grown put = (
  subst (IsPrefix queued) (sym grown) (starts_then queued all (all ++ e ∷ []) b.0 (starts all (all ++ e ∷ []) (e ∷ []) refl)),
  put ∙ ap (λ (l : List ℕ). l ++ entry_text (length all) e) b.1 ∙ sym (behind_more queued all e b.0) ∙ ap (text_behind queued) (sym grown),
)

-- what is known of them, and of a buffer whose first bytes are their text
abbrev pub IsHeld : (queued all : List Entry) → ℕ → List ℕ → Type 0
IsHeld queued all count bytes = IsText queued all (take count bytes) × (count ≤ length bytes)

pub none_held : (queued all : List Entry) (count : ℕ) (bytes : List ℕ) → queued ≡ all → count ≡ 0 → IsHeld queued all count bytes
none_held queued all count bytes is zero = (
  none_wait queued all (take count bytes) is (ap (λ (n : ℕ). take n bytes) zero),
  omega (arith, zero),
)

length_front : (count : ℕ) (bytes : List ℕ) → count ≤ length bytes → length (take count bytes) ≡ count
length_front count bytes few = let e = length-take count bytes in omega (arith, e, few)

-- whatever stands after their text
pub still_held : (queued all : List Entry) (count : ℕ) (bytes begun more now : List ℕ) → IsHeld queued all count bytes → begun ≡ take count bytes → now ≡ begun
    ++ more
    → IsHeld queued all count now × (drop count now ≡ more)
still_held queued all count bytes begun more now b is grown =
    let long : length begun ≡ count = ap length is ∙ length_front count bytes b.1 in
    let first : take count now ≡ begun = ap (take count) grown ∙ ap (λ (n : ℕ). take n (begun ++ more)) (sym long) ∙ take-append_seam begun more in
    let rest : drop count now ≡ more = ap (drop count) grown ∙ ap (λ (n : ℕ). drop n (begun ++ more)) (sym long) ∙ drop-append_seam begun more in
    let all_long : length now ≡ length begun + length more = ap length grown ∙ length-append begun more in
    ((subst (IsText queued all) (sym (first ∙ is)) b.0, omega (arith, long, all_long)), rest)

-- one entry more, whose text stood after theirs but for its last line
pub more_held : (queued all : List Entry) (e : Entry) (more : List Entry) (count now : ℕ) (bytes line longer : List ℕ)
    → IsHeld queued all count bytes → more ≡ all ++ e ∷ [] → longer ≡ bytes ++ line → drop count bytes ++ line ≡ entry_text (length all) e → now ≡ length longer
    → IsHeld queued more now longer
more_held queued all e more count now bytes line longer b grown put is long =
    let parted : longer ≡ take count bytes ++ entry_text (length all) e =
    put ∙ ap (λ (l : List ℕ). l ++ line) (sym (take-append-drop count bytes)) ∙ append_assoc (take count bytes) (drop count bytes) line
    ∙ ap (λ (l : List ℕ). take count bytes ++ l) is in
    let whole : take now longer ≡ longer = take_all now longer (omega (arith, long)) in
    (one_more queued all e more (take count bytes) (take now longer) b.0 grown (whole ∙ parted), omega (arith, long))

-- the text of those after what was taken over, and of those after what was handed on, are together
-- that of all after what was taken over
pub after_both : (taken queued all : List Entry) → IsPrefix taken queued → IsPrefix queued all → text_behind taken queued ++ text_behind queued all
    ≡ text_behind taken all
after_both taken queued all first next =
    let f = front taken queued first in
    let m = front queued all next in
    let whole : all ≡ taken ++ (f.0 ++ m.0) = m.1 ∙ ap (λ (l : List Entry). l ++ m.0) f.1 ∙ append_assoc taken f.0 m.0 in
    ap (λ (l : List ℕ). l ++ text_behind queued all) (after_are taken f.0 queued f.1)
    ∙ ap (λ (l : List ℕ). texts (length taken) f.0 ++ l) (after_are queued m.0 all m.1)
    ∙ ap (λ (k : ℕ). texts (length taken) f.0 ++ texts k m.0) (sym (count_of taken f.0 queued f.1))
    ∙ sym (texts_append (length taken) f.0 m.0) ∙ sym (after_are taken (f.0 ++ m.0) all whole)

-- ---- what was written

pub begins : (held now : Option (List ℕ)) (earlier durable tried past : List Entry) → now ≡ held → past ≡ earlier → durable ≡ past → tried ≡ past
    → StandsAtWriter held now earlier durable tried true
begins held now earlier durable tried past same are all given = (
  record {
    added = [];
    stand = all ∙ are ∙ sym (append-nil earlier);
    waiting = [];
    are = given ∙ sym all ∙ sym (append-nil durable);
    front = [];
    missing = [];
    cut = refl;
    appended = subst (λ (o : Option (List ℕ)). Appends held o []) (sym same) (appends_none held);
    clean = λ _. refl;
  },
  λ _. all ∙ sym given,
)

-- what the writer has got where nothing failed
got : (before mid after : Option (List ℕ)) (text front more : List ℕ) → Appends before mid (text ++ front) → front ≡ [] → Appends mid after more
    → Appends before after (text ++ more)
got before mid after text front more had none went =
    subst (Appends before after) (ap (λ (l : List ℕ). (text ++ l) ++ more) none ∙ ap (λ (l : List ℕ). l ++ more) (append-nil text))
    (appends_then before mid after (text ++ front) more had went)

-- all that it was given was written
pub appended : (before mid after : Option (List ℕ)) (earlier durable tried all now_stands now_tried : List Entry) (whole is_whole : Bool) (text : List ℕ)
    → StandsAtWriter before mid earlier durable tried whole → whole ≡ true → IsPrefix tried all → text ≡ text_behind tried all → Appends mid after text
    → now_stands ≡ all → now_tried ≡ all
    → StandsAtWriter before after earlier now_stands now_tried is_whole
appended before mid after earlier durable tried all now_stands now_tried whole is_whole text s was first text_is went same same_tried =
    let w = s.0 in
    let rest = drop (length tried) all in
    let parted : all ≡ durable ++ rest = split_at tried all first ∙ ap (λ (l : List Entry). l ++ rest) (sym (s.1 was)) in
    let had = texts (length earlier) w.added in
    let count : length tried ≡ length earlier + length w.added = ap length (sym (s.1 was)) ∙ sym (count_of earlier w.added durable w.stand) in
    let all_text : had ++ text ≡ texts (length earlier) (w.added ++ rest) ++ [] =
    ap (λ (l : List ℕ). had ++ l) text_is ∙ ap (λ (k : ℕ). had ++ texts k rest) count ∙ sym (texts_append (length earlier) w.added rest)
    ∙ sym (append-nil (texts (length earlier) (w.added ++ rest))) in (
      record {
        added = w.added ++ rest;
        stand = same ∙ parted ∙ ap (λ (l : List Entry). l ++ rest) w.stand ∙ append_assoc earlier w.added rest;
        waiting = [];
        are = same_tried ∙ sym same ∙ sym (append-nil now_stands);
        front = [];
        missing = [];
        cut = refl;
        appended = subst (Appends before after) all_text (got before mid after had w.front text w.appended (w.clean was) went);
        clean = λ _. refl;
      },
      λ _. same ∙ sym same_tried,
    )

-- so much as a front of it was
pub torn : (before mid after : Option (List ℕ)) (earlier durable tried all now_tried : List Entry) (whole : Bool) (text : List ℕ)
    → StandsAtWriter before mid earlier durable tried whole → whole ≡ true → IsPrefix tried all → text ≡ text_behind tried all → IsCutShort mid after text
    → now_tried ≡ all
    → StandsAtWriter before after earlier durable now_tried false
torn before mid after earlier durable tried all now_tried whole text s was first text_is cut same_tried =
    let w = s.0 in
    let rest = drop (length tried) all in (
      record {
        added = w.added;
        stand = w.stand;
        waiting = rest;
        are = same_tried ∙ split_at tried all first ∙ ap (λ (l : List Entry). l ++ rest) (sym (s.1 was));
        front = cut.front;
        missing = cut.missing;
        cut = ap (λ (l : List Entry). texts (length l) rest) (s.1 was) ∙ sym text_is ∙ cut.bytes_are;
        appended = got before mid after (texts (length earlier) w.added) w.front cut.front w.appended (w.clean was) cut.appended;
        clean = λ never. absurd (true≢false (sym never));
      },
      λ never. absurd (true≢false (sym never)),
    )

-- where more entries wait than it was given
pub with_more : (before after : Option (List ℕ)) (earlier durable tried all : List Entry) (whole : Bool) → IsWritten before after earlier durable tried whole
    → IsPrefix tried all → IsWritten before after earlier durable all whole
with_more before after earlier durable tried all whole w first =
    let rest = drop (length tried) all in
    record {
      added = w.added;
      stand = w.stand;
      waiting = w.waiting ++ rest;
      are = split_at tried all first ∙ ap (λ (l : List Entry). l ++ rest) w.are ∙ append_assoc durable w.waiting rest;
      front = w.front;
      missing = w.missing ++ texts (length tried) rest;
      cut =
          texts_append (length durable) w.waiting rest ∙ ap (λ (k : ℕ). texts (length durable) w.waiting ++ texts k rest)
          (count_of durable w.waiting tried w.are)
          ∙ ap (λ (l : List ℕ). l ++ texts (length tried) rest) w.cut ∙ append_assoc w.front w.missing (texts (length tried) rest);
      appended = w.appended;
      clean = w.clean;
    }

-- the text that was drafted, and the line of the reply, are the text of the entry
pub drafted_text : (text : List ℕ) (session : ℕ) (call : Call) (r : Reply) → text ≡ number session space ++ call_text (told call)
    → text ++ reply_text (id_of (told call)) r ≡ entry_lines (entry session call r)
drafted_text text session call r is = ap (λ (l : List ℕ). l ++ reply_text (id_of (told call)) r) is ∙ append_assoc (number session space)
    (call_text (told call)) (reply_text (id_of (told call)) r)

-- the same, with the line of its sum after it
pub summed_text : (n m : ℕ) (bytes reply : List ℕ) (count : ℕ) (session : ℕ) (call : Call) (r : Reply) → m ≡ numbered n → count ≤ length bytes
    → drop count bytes ++ reply ≡ entry_lines (entry session call r)
    → drop count bytes ++ (reply ++ sum_line (sum_at m (drop count (bytes ++ reply)))) ≡ entry_text n (entry session call r)
summed_text n m bytes reply count session call r number few is =
    let told = entry_lines (entry session call r) in
    let both : drop count (bytes ++ reply) ≡ told = drop-append-le count bytes reply few ∙ is in
    sym (append_assoc (drop count bytes) reply (sum_line (sum_at m (drop count (bytes ++ reply)))))
    ∙ ap (λ (l : List ℕ). l ++ sum_line (sum_at m (drop count (bytes ++ reply)))) is
    ∙ ap (λ (l : List ℕ). told ++ sum_line (sum_at m l)) both ∙ ap (λ (s : ℕ). told ++ sum_line s) (sum_wraps n m told number)

-- the number of the next one
pub next_number : (n : ℕ) (past more : List Entry) (e : Entry) → n ≡ numbered (length past) → more ≡ past ++ e ∷ [] → (n + 1) % 18446744073709551616
    ≡ numbered (length more)
next_number n past more e is grown = omega (arith, is, ap length grown, length-append past (e ∷ []))
