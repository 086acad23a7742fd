-- The head is read in one way only.
use Rattle.std.proofs.Common.{◌≡◌, ◌≢◌, ◌↔◌, ◌==◌, ℕ, ◌+◌, ◌-◌, ◌<◌, ◌≤◌, Bool, true, false, IsTrue, None, Some, get_or, take, drop, length-take-le, AllPairs, List, [], ◌∷◌, ◌++◌, length, All, codes}
use Rattle.std.proofs.Common.{refl, sym, ap, ◌∙◌, append_assoc, subst, arith}
use Rattle.std.specs.Prelude.{position}
use Rattle.std.specs.Fmt.{decimal}
use Rattle.std.proofs.Math.Seq.{take-append_seam}
use Rattle.std.specs.List.{flat_map}
use Rattle.std.proofs.lemmas.Fmt.{decimal_injective}
use Rattle.std.proofs.lemmas.List.{append_cancel_left, get_or_append_left, get_or_at, length-append}
use Rattle.std.proofs.lemmas.List.Quantifiers.{all_pairs_push}
use Rattle.std.proofs.lemmas.List.Elements.{All-append, All-cons, All-head, All-nil, All-push, All-tail}
use Rattle.std.proofs.lemmas.Grind.{flat_map-append}
use Rattle.batch.specs.ShapeView.{ShapeView, IsShape}
use Rattle.batch.specs.ShapeText.{shape_text}
use Rattle.batch.specs.Text.{IsNumber, space, line_feed}
use Rattle.batch.proofs.Shapes.{one_shape}
use Rattle.client_session.specs.Bytes.{HasNoFeed}
use Rattle.exchange_limits.specs.declared.limits.TheConstants.{MAX_SESSIONS}
use Rattle.line_words.specs.HexWords.{IsWord, hex8}
use Rattle.line_words.proofs.Numbers.{after_hex8, after_word, hex8_in_front, one_hex8}
use Rattle.book_record.specs.Heads.{AreClients, AreNames, BeginsWithNoClient, BeginsWithNoHead, BeginsWithNoNames, IsName, IsNoRackLine, client_line, head_lines, head_of, rack_line, rack_words}
use Rattle.book_record.specs.Sums.{sum_at, sum_line}
use Rattle.book_record.proofs.Feeds.{IsNot, IsPlain, both, byte_at, decimal_plain, first_at, first_line, hex8_plain, no_byte, solid_decimal, without_feed, words}

-- ---- the first line

no_space : (n : ℕ) → All (IsNot space) (decimal n)
no_space n k d less same = let so = (solid_decimal n k d less).0 in omega (arith, so, same)

no_space_in_x : All (IsNot space) (codes "x")
no_space_in_x = All-cons (IsNot space) 120 [] (λ e. omega (arith, e)) (All-nil (IsNot space))

pub spaceless : (e : ShapeView) → All (IsNot space) (shape_text e)
spaceless e =
    let P = IsNot space in
    let m = decimal e.modules in
    let k = decimal e.blocks in
    All-append P (m ++ codes "x" ++ k ++ codes "x") (decimal e.words)
    (All-append P (m ++ codes "x" ++ k) (codes "x") (All-append P (m ++ codes "x") k (All-append P m (codes "x") (no_space e.modules) no_space_in_x)
    (no_space e.blocks)) no_space_in_x) (no_space e.words)

rack_plain : (e : ShapeView) (sum n : ℕ) → IsPlain (rack_words e sum n)
rack_plain e sum n =
    both (words (codes "record-2 ") refl)
    (both (both (both (both (both (decimal_plain e.modules) (words (codes "x") refl)) (decimal_plain e.blocks)) (words (codes "x") refl))
    (decimal_plain e.words))
    (both (words (space ∷ []) refl) (both (hex8_plain sum) (both (words (space ∷ []) refl) (decimal_plain n)))))

one_hex_front : (a b : ℕ) (x y : List ℕ) → IsWord a → IsWord b → hex8 a ++ space ∷ x ≡ hex8 b ++ space ∷ y → (a ≡ b) × (x ≡ y)
one_hex_front a b x y fa fb same = (one_hex8 a b fa fb (hex8_in_front a b (space ∷ x) (space ∷ y) same), after_hex8 _ x y a b refl same)

-- what stands before the space of a line that is read, and after it
pub shape_there : (line rest : List ℕ) (end : ℕ) (e : ShapeView) (sum n : ℕ) → line ≡ codes "record-2 " ++ rest → position (λ b. b == space) rest ≡ Some end
    → line ≡ rack_words e sum n → (take end rest ≡ shape_text e) × (drop (end + 1) rest ≡ hex8 sum ++ space ∷ decimal n)
shape_there line rest end e sum n is at same =
    let here = byte_at space rest end at in
    first_at space (take end rest) (shape_text e) _ _ here.1 (spaceless e) (sym here.2 ∙ after_word line (codes "record-2 ") rest _ is same)

pub no_count : (s sum n : ℕ) (digits there : List ℕ) → IsWord s × (there ≡ hex8 s ++ space ∷ digits) → IsWord sum → there ≡ hex8 sum ++ space ∷ decimal n
    → digits ≡ decimal n
no_count s sum n digits there read word same = (one_hex_front s sum digits (decimal n) read.0 word (sym read.1 ∙ same)).1

pub rack_spelled : (line rest digits : List ℕ) (end : ℕ) (e : ShapeView) (sum n : ℕ) → line ≡ codes "record-2 " ++ rest → position (λ b. b == space) rest
    ≡ Some end → take end rest ≡ shape_text e → drop (end + 1) rest ≡ hex8 sum ++ space ∷ digits → digits ≡ decimal n
    → line ≡ rack_words e sum n
rack_spelled line rest digits end e sum n is at shape hex count =
    is ∙ ap (λ (l : List ℕ). codes "record-2 " ++ l) ((byte_at space rest end at).2 ∙ ap (λ (l : List ℕ). l ++ space ∷ drop (end + 1) rest) shape
    ∙ ap (λ (l : List ℕ). shape_text e ++ space ∷ l) (hex ∙ ap (λ (l : List ℕ). hex8 sum ++ space ∷ l) count))

record OneRackLine (e f : ShapeView) (s t n m : ℕ) (x y : List ℕ) : Type 0 where
  shape : e ≡ f
  sum : s ≡ t
  count : n ≡ m
  rest : x ≡ y

one_rack_line : (e f : ShapeView) (s t n m : ℕ) (x y : List ℕ) → IsShape e → IsShape f → IsWord s → IsWord t → IsNumber n → IsNumber m → rack_line e s n ++ x
    ≡ rack_line f t m ++ y → OneRackLine e f s t n m x y
one_rack_line e f s t n m x y p q ws wt fn fm same =
    let line = first_line x y (rack_plain e s n) (rack_plain f t m) same in
    let shape = first_at space (shape_text e) (shape_text f) _ _ (spaceless e) (spaceless f) (append_cancel_left (codes "record-2 ") _ _ line.0) in
    let hex = one_hex_front s t (decimal n) (decimal m) ws wt shape.1 in
    record {
      shape = one_shape (shape_text f) e f (record { spelled = sym shape.0; allowed = p }) (record { spelled = refl; allowed = q });
      sum = hex.0;
      count = decimal_injective n m (omega (arith, fn)) (omega (arith, fm)) hex.1;
      rest = line.1;
    }

-- ---- the names

client_form : (w n x : List ℕ) → (w ++ (n ++ line_feed ∷ [])) ++ x ≡ w ++ (n ++ line_feed ∷ x)
client_form w n x = simp append_assoc

pub names_form : (name : List ℕ) (names : List (List ℕ)) (x : List ℕ) → flat_map client_line (name ∷ names) ++ x ≡ codes "client "
    ++ (name ++ line_feed ∷ (flat_map client_line names ++ x))
names_form name names x = append_assoc (client_line name) (flat_map client_line names) x ∙ client_form (codes "client ") name (flat_map client_line names ++ x)

one_client : (w v x y : List ℕ) → HasNoFeed w → HasNoFeed v → codes "client " ++ (w ++ line_feed ∷ x) ≡ codes "client " ++ (v ++ line_feed ∷ y) → (w ≡ v)
    × (x ≡ y)
one_client w v x y p q same = first_at line_feed w v x y p q (append_cancel_left (codes "client ") _ _ same)

pub one_names : (ns ms : List (List ℕ)) (x y : List ℕ) → length ns ≡ length ms → All IsName ns → All IsName ms → flat_map client_line ns ++ x
    ≡ flat_map client_line ms ++ y → (ns ≡ ms) × (x ≡ y)
one_names [] [] x y len p q same = (refl, same)
one_names [] (b ∷ ms) x y len p q same = absurd (omega (arith, len))
one_names (a ∷ ns) [] x y len p q same = absurd (omega (arith, len))
one_names (a ∷ ns) (b ∷ ms) x y len p q same =
    let one = one_client a b _ _ (All-head IsName a ns p).1 (All-head IsName b ms q).1 (sym (names_form a ns x) ∙ same ∙ names_form b ms y) in
    let more = one_names ns ms x y (omega (arith, len)) (All-tail IsName a ns p) (All-tail IsName b ms q) one.1 in
    (ap (λ (n : List ℕ). n ∷ ns) one.0 ∙ ap (λ (l : List (List ℕ)). b ∷ l) more.0, more.1)

-- the names are counted by themselves
pub counted : (names : List (List ℕ)) (n : ℕ) → AreNames names n → AreNames names (length names)
counted names n are = subst (AreNames names) (sym are.count) are

-- so many are a number
pub few_number : (n : ℕ) → n ≤ MAX_SESSIONS → IsNumber n
few_number n few = let least : n ≤ 16 = few in omega (arith, least)

-- ---- one line

-- where a name would be empty, there is none
pub no_name : (text after : List ℕ) (end : ℕ) → text ≡ codes "client " ++ after → position (λ b. b == line_feed) after ≡ Some end → end ≡ 0
    → BeginsWithNoClient text
no_name text after end is at zero name rest so same =
    let line = byte_at line_feed after end at in
    let nothing : take end after ≡ [] = ap (λ (k : ℕ). take k after) zero in
    so.0 (sym (first_at line_feed (take end after) name _ rest line.1 so.1 (sym line.2 ∙ append_cancel_left (codes "client ") _ _ (sym is ∙ same))).0 ∙ nothing)

pub is_name : (after : List ℕ) (end : ℕ) → position (λ b. b == line_feed) after ≡ Some end → (end ≡ 0 → ⊥) → IsName (take end after)
is_name after end at some =
    let line = byte_at line_feed after end at in
    ((λ none. some (omega (arith, ap length none, length-take-le end after (omega (arith, line.0))))), line.1)

-- ---- the names that were read

-- where fewer were read than there are, another one of these stands there
record LeftOver (ns ms : List (List ℕ)) (rest : List ℕ) : Type 0 where
  name : List ℕ
  more : List (List ℕ)
  left : List ℕ
  are : ms ≡ ns ++ name ∷ more
  so : IsName name
  is : rest ≡ codes "client " ++ (name ++ line_feed ∷ left)

left_over : (ns ms : List (List ℕ)) (rest end : List ℕ) → length ns < length ms → All IsName ns → All IsName ms → flat_map client_line ns ++ rest
    ≡ flat_map client_line ms ++ end → LeftOver ns ms rest
left_over [] [] rest end less p q same = absurd (omega (arith, less))
left_over [] (b ∷ ms) rest end less p q same =
    record { name = b; more = ms; left = flat_map client_line ms ++ end; are = refl; so = All-head IsName b ms q; is = same ∙ names_form b ms end }
left_over (a ∷ ns) [] rest end less p q same = absurd (omega (arith, less))
left_over (a ∷ ns) (b ∷ ms) rest end less p q same =
    let one = one_client a b _ _ (All-head IsName a ns p).1 (All-head IsName b ms q).1 (sym (names_form a ns rest) ∙ same ∙ names_form b ms end) in
    let l = left_over ns ms rest end (omega (arith, less)) (All-tail IsName a ns p) (All-tail IsName b ms q) one.1 in
    record {
      name = l.name;
      more = l.more;
      left = l.left;
      are = ap (λ (n : List ℕ). n ∷ ms) (sym one.0) ∙ ap (λ (l : List (List ℕ)). a ∷ l) l.are;
      so =
          l.so;
      is = l.is;
    }

-- the name that follows is one of them
there : (ns : List (List ℕ)) (name : List ℕ) (more : List (List ℕ)) (d : List ℕ) → get_or (ns ++ name ∷ more) (length ns) d ≡ name
there ns name more d = get_or_at ns name more d (length ns) refl

inside : (ns : List (List ℕ)) (name : List ℕ) (more : List (List ℕ)) → length ns < length (ns ++ name ∷ more)
inside ns name more = omega (arith, length-append ns (name ∷ more))

-- one line more
front_more : (text rest left name : List ℕ) (names : List (List ℕ)) → text ≡ flat_map client_line names ++ rest → rest ≡ codes "client "
    ++ (name ++ line_feed ∷ left) → text ≡ flat_map client_line (names ++ name ∷ []) ++ left
front_more text rest left name names front is =
    front ∙ ap (λ (l : List ℕ). flat_map client_line names ++ l) (is ∙ sym (names_form name [] left))
    ∙ sym (append_assoc (flat_map client_line names) (flat_map client_line (name ∷ [])) left)
    ∙ ap (λ (l : List ℕ). l ++ left) (sym (flat_map-append client_line names (name ∷ [])))

pub clients_more : (text rest left name : List ℕ) (names : List (List ℕ)) → AreClients text names rest → IsName name → rest ≡ codes "client "
    ++ (name ++ line_feed ∷ left) → AreClients text (names ++ name ∷ []) left
clients_more text rest left name names are so is =
    record { each = All-push IsName names name are.each so; front = front_more text rest left name names are.front is }

pub no_clients : (text : List ℕ) → AreClients text [] text
no_clients text = record { each = All-nil IsName; front = refl }

-- ---- whether a name is new

-- so many names were looked at, of which none is this
pub record NoneSo (text name : List ℕ) (k : ℕ) (rest : List ℕ) : Type 0 where
  pub names : List (List ℕ)
  pub count : length names ≡ k
  pub are : AreClients text names rest
  pub others : All (λ other. other ≢ name) names

abbrev TellsNew : List ℕ → List ℕ → ℕ → Bool → Type 0
TellsNew text name k b = (names : List (List ℕ)) → (rest : List ℕ) → length names ≡ k → AreClients text names rest → IsTrue b ↔ All (λ other. other ≢ name)
    names

pub none_so : (text name : List ℕ) → NoneSo text name 0 text
none_so text name = record { names = []; count = refl; are = no_clients text; others = All-nil (λ other. other ≢ name) }

pub none_so_more : (text name other rest left : List ℕ) (k : ℕ) → NoneSo text name k rest → IsName other → rest ≡ codes "client " ++ (other ++ line_feed ∷ left)
    → other ≢ name → NoneSo text name (k + 1) left
none_so_more text name other rest left k n so is differs = record {
  names = n.names ++ other ∷ [];
  count = omega (arith, n.count, length-append n.names (other ∷ []));
  are = clients_more text rest left other n.names n.are so is;
  others = All-push (λ o. o ≢ name) n.names other n.others differs;
}

over : (text name rest end : List ℕ) (k : ℕ) (names : List (List ℕ)) → (n : NoneSo text name k rest) → k < length names → AreClients text names end
    → LeftOver n.names names rest
over text name rest end k names n less are = left_over n.names names rest end (omega (arith, less, n.count)) n.are.each are.each (sym n.are.front ∙ are.front)

-- no line stands there though there are more
pub new_over : (text name rest : List ℕ) (k clients : ℕ) → NoneSo text name k rest → k < clients → BeginsWithNoClient rest → TellsNew text name clients true
new_over text name rest k clients n less none names end count are =
    absurd (let l = over text name rest end k names n (omega (arith, less, count)) are in none l.name l.left l.so l.is)

-- it stands there
pub new_not : (text name other rest left : List ℕ) (k clients : ℕ) → NoneSo text name k rest → k < clients → IsName other → rest ≡ codes "client "
    ++ (other ++ line_feed ∷ left) → other ≡ name → TellsNew text name clients false
new_not text name other rest left k clients n less so is same names end count are =
    let l = over text name rest end k names n (omega (arith, less, count)) are in
    let one = one_client other l.name left l.left so.1 l.so.1 (sym is ∙ l.is) in
    let never : All (λ o. o ≢ name) names → ⊥ =
    λ others. subst (All (λ o. o ≢ name)) l.are others (length n.names) [] (inside n.names l.name l.more) (there n.names l.name l.more [] ∙ sym one.0 ∙ same) in
    ((λ bad. absurd cc), (λ others. absurd (never others)))

-- it stands nowhere
pub new_all : (text name rest : List ℕ) (k clients : ℕ) → NoneSo text name k rest → k ≡ clients → TellsNew text name clients true
new_all text name rest k clients n same names end count are =
    let one = one_names n.names names rest end (omega (arith, n.count, same, count)) n.are.each are.each (sym n.are.front ∙ are.front) in
    ((λ yes. subst (All (λ o. o ≢ name)) one.0 n.others), (λ others. refl))

-- ---- all of them

-- so many names were read
pub record NamesRead (text : List ℕ) (k : ℕ) (rest : List ℕ) : Type 0 where
  pub names : List (List ℕ)
  pub count : length names ≡ k
  pub are : AreClients text names rest
  pub apart : AllPairs (λ one other. one ≢ other) names

pub none_read : (text : List ℕ) → NamesRead text 0 text
none_read text = record { names = []; count = refl; are = no_clients text; apart = λ i j d less within. absurd (omega (arith, within)) }

pub one_read : (text rest left name : List ℕ) (k : ℕ) → (read : NamesRead text k rest) → IsName name → rest ≡ codes "client " ++ (name ++ line_feed ∷ left)
    → All (λ other. other ≢ name) read.names → NamesRead text (k + 1) left
one_read text rest left name k read so is new = record {
  names = read.names ++ name ∷ [];
  count = omega (arith, read.count, length-append read.names (name ∷ []));
  are = clients_more text rest left name read.names read.are so is;
  apart = all_pairs_push (λ one other. one ≢ other) read.names name read.apart (λ i d less. new i d less);
}

pub no_other_name : (text rest : List ℕ) (k n : ℕ) → NamesRead text k rest → k < n → BeginsWithNoClient rest → BeginsWithNoNames text n
no_other_name text rest k n read less none names end are is =
    let l = left_over read.names names rest end (omega (arith, less, read.count, are.count)) read.are.each are.each (sym read.are.front ∙ is) in
    none l.name l.left l.so l.is

-- no two are the same, so none is that which follows
pub named_twice : (text rest left name : List ℕ) (k n : ℕ) → (read : NamesRead text k rest) → k < n → IsName name → rest ≡ codes "client "
    ++ (name ++ line_feed ∷ left) → (All (λ other. other ≢ name) read.names → ⊥) → BeginsWithNoNames text n
named_twice text rest left name k n read less so is known names end are same =
    let l = left_over read.names names rest end (omega (arith, less, read.count, are.count)) read.are.each are.each (sym read.are.front ∙ same) in
    let one = one_client name l.name left l.left so.1 l.so.1 (sym is ∙ l.is) in
    let apart = subst (AllPairs (λ a b. a ≢ b)) l.are are.apart in
    known (λ i d below twice. apart i (length read.names) d below (inside read.names l.name l.more) (get_or_append_left read.names (l.name ∷ l.more) d i below
    ∙ twice ∙ one.0 ∙ sym (there read.names l.name l.more d)))

pub names_all : (text rest : List ℕ) (k n : ℕ) → NamesRead text k rest → k ≡ n → n ≤ MAX_SESSIONS → (all : List (List ℕ)) × AreNames all n
    × (text ≡ flat_map client_line all ++ rest)
names_all text rest k n read same few = (
  read.names,
  (record { count = read.count ∙ same; few = few; each = read.are.each; apart = read.apart }),
  read.are.front,
)

-- ---- one head

head_form : (e : ShapeView) (s : ℕ) (names : List (List ℕ)) (x : List ℕ) → head_of e s names ++ x ≡ rack_line e s (length names)
    ++ (flat_map client_line names ++ (sum_line (sum_at 0 (head_lines e s names)) ++ x))
head_form e s names x =
    let sum = sum_line (sum_at 0 (head_lines e s names)) in
    append_assoc (head_lines e s names) sum x ∙ append_assoc (rack_line e s (length names)) (flat_map client_line names) (sum ++ x)

line_form : (e : ShapeView) (s : ℕ) (names : List (List ℕ)) (x : List ℕ) → head_of e s names ++ x ≡ rack_words e s (length names)
    ++ line_feed ∷ (flat_map client_line names ++ (sum_line (sum_at 0 (head_lines e s names)) ++ x))
line_form e s names x = head_form e s names x ∙ append_assoc (rack_words e s (length names)) (line_feed ∷ []) _

-- no head where no line ends, nor where the first is that of none
pub no_end : (text : List ℕ) → position (λ b. b == line_feed) text ≡ None → BeginsWithNoHead text
no_end text none e sum n names rest p word are same =
    no_byte line_feed text none (rack_words e sum (length names)) _ (without_feed (rack_plain e sum (length names))) (same ∙ line_form e sum names rest)

pub no_first : (text : List ℕ) (end : ℕ) → position (λ b. b == line_feed) text ≡ Some end → IsNoRackLine (take end text) → BeginsWithNoHead text
no_first text end at none e sum n names rest p word are same =
    let here = byte_at line_feed text end at in
    none e sum (length names) p word (few_number (length names) (counted names n are).few)
    (first_at line_feed (take end text) (rack_words e sum (length names)) _ _ here.1 (without_feed (rack_plain e sum (length names)))
    (sym here.2 ∙ same ∙ line_form e sum names rest)).0

-- the same shape, sum and names, and one rest
pub record IsSameHead (e f : ShapeView) (s t : ℕ) (ns ms : List (List ℕ)) (x y : List ℕ) : Type 0 where
  pub shape : e ≡ f
  pub sum : s ≡ t
  pub names : ns ≡ ms
  pub rest : x ≡ y

-- after the names of a head stands its sum
one_front : (e f : ShapeView) (s t : ℕ) (ns ms : List (List ℕ)) (rest y : List ℕ) → IsShape e → IsShape f → IsWord s → IsWord t → AreNames ns (length ns)
    → AreNames ms (length ms)
    → rack_line e s (length ns) ++ (flat_map client_line ns ++ rest) ≡ head_of f t ms ++ y
    → IsSameHead e f s t ns ms rest (sum_line (sum_at 0 (head_lines e s ns)) ++ y)
one_front e f s t ns ms rest y p q ws wt names others same =
    let line = one_rack_line e f s t (length ns) (length ms) _ _ p q ws wt (few_number (length ns) names.few) (few_number (length ms) others.few)
    (same ∙ head_form f t ms y) in
    let more = one_names ns ms _ _ line.count names.each others.each line.rest in
    let lines : head_lines f t ms ≡ head_lines e s ns =
    ap (λ (l : List (List ℕ)). head_lines f t l) (sym more.0) ∙ ap (λ (k : ℕ). head_lines f k ns) (sym line.sum) ∙ ap (λ (g : ShapeView). head_lines g s ns)
    (sym line.shape) in
    record { shape = line.shape; sum = line.sum; names = more.0; rest = more.1 ∙ ap (λ (l : List ℕ). sum_line (sum_at 0 l) ++ y) lines }

-- a text has one head at most
pub one_head : (e f : ShapeView) (s t : ℕ) (names others : List (List ℕ)) (x y : List ℕ) → IsShape e → IsShape f → IsWord s → IsWord t
    → AreNames names (length names) → AreNames others (length others)
    → head_of e s names ++ x ≡ head_of f t others ++ y → IsSameHead e f s t names others x y
one_head e f s t ns ms x y p q ws wt names others same =
    let sum = sum_line (sum_at 0 (head_lines e s ns)) in
    let one = one_front e f s t ns ms (sum ++ x) y p q ws wt names others (sym (head_form e s ns x) ∙ same) in
    record { shape = one.shape; sum = one.sum; names = one.names; rest = append_cancel_left sum x y one.rest }

-- no head where the first line is there, and not the names
pub no_names : (text after : List ℕ) (e : ShapeView) (sum n : ℕ) → IsShape e → IsWord sum → IsNumber n → text ≡ rack_line e sum n ++ after
    → BeginsWithNoNames after n → BeginsWithNoHead text
no_names text after e sum n p ws fits is none f other m names rest q wt are same =
    let line = one_rack_line e f sum other n (length names) after _ p q ws wt fits
    (few_number (length names) (subst (λ (k : ℕ). k ≤ MAX_SESSIONS) (sym are.count) are.few)) (sym is ∙ same ∙ head_form f other names rest) in
    none names _ (subst (AreNames names) (sym (line.count ∙ are.count)) are) line.rest

-- what was read of a head, but for its sum
pub record HeadRead (text : List ℕ) (e : ShapeView) (sum n : ℕ) (after : List ℕ) : Type 0 where
  pub names : List (List ℕ)
  pub are : AreNames names n
  pub is : text ≡ rack_line e sum (length names) ++ (flat_map client_line names ++ after)
  pub lines : take (length text - length after) text ≡ head_lines e sum names

front_of : (text a b : List ℕ) → text ≡ a ++ b → take (length text - length b) text ≡ a
front_of text a b is =
    let count : length text - length b ≡ length a = let e = ap length is ∙ length-append a b in omega (arith, e) in
    ap (λ (k : ℕ). take k text) count ∙ ap (take (length a)) is ∙ take-append_seam a b

pub head_read : (text after rest : List ℕ) (e : ShapeView) (sum n : ℕ) (names : List (List ℕ)) → text ≡ rack_line e sum n ++ rest → AreNames names n → rest
    ≡ flat_map client_line names ++ after → HeadRead text e sum n after
head_read text after rest e sum n names is are follow =
    let whole : text ≡ rack_line e sum (length names) ++ (flat_map client_line names ++ after) =
    is ∙ ap (λ (l : List ℕ). rack_line e sum n ++ l) follow ∙ ap (λ (k : ℕ). rack_line e sum k ++ (flat_map client_line names ++ after)) (sym are.count) in
    record {
      names = names;
      are = are;
      is = whole;
      lines = front_of text (head_lines e sum names) after
          (whole ∙ sym (append_assoc (rack_line e sum (length names)) (flat_map client_line names) after));
    }

-- its sum too
pub head_summed : (text after rest : List ℕ) (e : ShapeView) (sum n : ℕ) → (read : HeadRead text e sum n after) → after
    ≡ sum_line (sum_at 0 (take (length text - length after) text)) ++ rest → text ≡ head_of e sum read.names ++ rest
head_summed text after rest e sum n read follow =
    read.is ∙ ap (λ (l : List ℕ). rack_line e sum (length read.names) ++ (flat_map client_line read.names ++ l))
    (follow ∙ ap (λ (l : List ℕ). sum_line (sum_at 0 l) ++ rest) read.lines) ∙ sym (head_form e sum read.names rest)

-- no head where another line follows
pub no_summed : (text after : List ℕ) (e : ShapeView) (sum n : ℕ) → IsShape e → IsWord sum → HeadRead text e sum n after
    → ((x : List ℕ) → after ≢ sum_line (sum_at 0 (take (length text - length after) text)) ++ x) → BeginsWithNoHead text
no_summed text after e sum n p ws read none f other m names rest q wt are same =
    let one = one_front e f sum other read.names names after rest p q ws wt (counted read.names n read.are) (counted names m are) (sym read.is ∙ same) in
    none rest (one.rest ∙ ap (λ (l : List ℕ). sum_line (sum_at 0 l) ++ rest) (sym read.lines))
