-- The lines of a schedule text, each of which is read in one way only.
use Rattle.std.proofs.Common.{◌≡◌, ◌≢◌, ℕ, ◌+◌, ◌<◌, List, [], ◌∷◌, ◌++◌, length, get_or, take, drop, All, true, refl, sym, ap, subst, ◌∙◌, append_assoc, arith}
use Rattle.std.specs.Prelude.{codes, ◌==◌}
use Rattle.std.specs.Fmt.{decimal}
use Rattle.std.specs.Int.{IsInRange}
use Rattle.std.specs.List.{list_all}
use mathlib.Core.Bool.{not}
use Rattle.std.proofs.lemmas.Bool.{eqb-false, not-true}
use Rattle.std.proofs.lemmas.Fmt.{decimal_injective, decimal_digit}
use Rattle.std.proofs.lemmas.List.{append-nil, append_cancel_left, length-append, take-append-drop, flat_map_more}
use Rattle.std.proofs.lemmas.List.Elements.{All-head, All-tail, All-nil, All-append, All-push, All-from_get_or}
use Rattle.std.proofs.lemmas.List.Sums.{AllPass-from_list_all}
use Rattle.std.proofs.lemmas.Str.Parse.{digit_at}
use Rattle.batch.specs.Text.{IsNumber, space, line_feed}
use Rattle.batch.proofs.Numbers.{form}
use Rattle.link_graph.specs.declared.link.End.{End}
use Rattle.link_graph.specs.declared.link.End.TheVariants.{Zero, Three}
use Rattle.link_graph.specs.declared.link.Link.{Link}
use Rattle.link_graph.specs.declared.schedule_fault.ScheduleFault.{ScheduleFault}
use Rattle.link_graph.specs.declared.schedule_fault.ScheduleFault.TheVariants.{Line, NoMemory}
use Rattle.link_graph.specs.ScheduleText.{numbers, end_number, busiest_line}
use Rattle.link_graph.specs.ScheduleFaults.{IsLineFault, BeginsWithNumbers}
use Rattle.link_graph.proofs.LineBreaks.{Lacks, Starts, one_cut}

-- what holds of all of a list holds of its last part
pub All-behind : {X : Type 0} (P : X → Type 0) (xs ys : List X) → All P (xs ++ ys) → All P ys
All-behind P [] ys all = all
All-behind P (x ∷ xs) ys all = All-behind P xs ys (All-tail P x (xs ++ ys) all)

-- ---- bytes that aren't among those of a word or a number

pub word_lacks : (e : ℕ) (word : List ℕ) → list_all (λ c. not (c == e)) word ≡ true → Lacks e word
word_lacks e word test = λ k d less same. eqb-false _ _ (not-true _ (AllPass-from_list_all (λ c. not (c == e)) word test k d less)) same

pub digits_lack : (e n : ℕ) → e < 48 → IsNumber n → Lacks e (decimal n)
digits_lack e n low fits = All-from_get_or (λ c. c ≢ e) (decimal n) 0 (λ i less same.
    let digit : IsInRange 48 57 (get_or (decimal n) i 0) = digit_at (decimal n) i (form (decimal n) n fits refl).digits less in
    absurd (omega (arith, digit.0, same)))

pub numbers_lack : (ts : List ℕ) → All IsNumber ts → Lacks line_feed (numbers ts)
numbers_lack [] fit = All-nil (λ c. c ≢ line_feed)
numbers_lack (t ∷ ts) fit =
    All-append (λ c. c ≢ line_feed) (codes " " ++ decimal t) (numbers ts)
    (All-append (λ c. c ≢ line_feed) (codes " ") (decimal t) (word_lacks line_feed (codes " ") refl)
    (digits_lack line_feed t (omega arith) (All-head IsNumber t ts fit))) (numbers_lack ts (All-tail IsNumber t ts fit))

-- ---- numbers after spaces

starts_numbers : (ts rest : List ℕ) → Starts space rest → Starts space (numbers ts ++ rest)
starts_numbers [] rest starts = starts
starts_numbers (t ∷ ts) rest starts = refl

-- the longer list of numbers goes on from the shorter
pub record NumbersGoOn (ts us rest : List ℕ) : Type 0 where
  pub more : List ℕ
  pub list : us ≡ ts ++ more
  pub text : rest ≡ numbers more

pub numbers_go_on : (ts us rest : List ℕ) → All IsNumber ts → All IsNumber us → (0 < length ts → Starts space rest) → numbers ts ++ rest ≡ numbers us
    → NumbersGoOn ts us rest
numbers_go_on [] us rest ft fu starts same = record { more = us; list = refl; text = same }
numbers_go_on (t ∷ ts) [] rest ft fu starts same = absurd cc
numbers_go_on (t ∷ ts) (u ∷ us) rest ft fu starts same =
    let at_t = All-head IsNumber t ts ft in
    let at_u = All-head IsNumber u us fu in
    let spaced : Starts space rest = starts (omega arith) in
    let behind : decimal t ++ (numbers ts ++ rest) ≡ decimal u ++ (numbers us ++ []) = sym (append_assoc (decimal t) (numbers ts) rest) ∙ ap (drop 1) same
    ∙ ap (λ (x : List ℕ). decimal u ++ x) (sym (append-nil (numbers us))) in
    let cut = one_cut space (decimal t) (decimal u) (numbers ts ++ rest) (numbers us ++ []) (digits_lack space t (omega arith) at_t)
    (digits_lack space u (omega arith) at_u) (starts_numbers ts rest spaced) (starts_numbers us [] refl) behind in
    let rec = numbers_go_on ts us rest (All-tail IsNumber t ts ft) (All-tail IsNumber u us fu) (λ _. spaced) (cut.1 ∙ append-nil (numbers us)) in
    record {
      more = rec.more;
      list = ap (λ (x : ℕ). x ∷ us) (sym (decimal_injective t u (omega arith) (omega arith) cut.0)) ∙ ap (λ (x : List ℕ). t ∷ x) rec.list;
      text = rec.text;
    }

no_numbers : (ts : List ℕ) → [] ≡ numbers ts → ts ≡ []
no_numbers [] same = refl
no_numbers (t ∷ ts) same = absurd cc

pub numbers_injective : (ts us : List ℕ) → All IsNumber ts → All IsNumber us → numbers ts ≡ numbers us → ts ≡ us
numbers_injective ts us ft fu same =
    let g = numbers_go_on ts us [] ft fu (λ _. refl) (append-nil (numbers ts) ∙ same) in
    sym (g.list ∙ ap (λ (x : List ℕ). ts ++ x) (no_numbers g.more g.text) ∙ append-nil ts)

-- ---- reading them

-- the digits up to the next space, and what stands after them
pub cut_number : (digits : List ℕ) (end n : ℕ) → take end digits ≡ decimal n → digits ≡ decimal n ++ drop end digits
cut_number digits end n read = sym (take-append-drop end digits) ∙ ap (λ (x : List ℕ). x ++ drop end digits) read

-- where the bytes up to the next space spell no number, none stands there
pub no_next_number : (digits : List ℕ) (end t : ℕ) (ts : List ℕ) → Lacks space (take end digits) → Starts space (drop end digits)
    → ((n : ℕ) → IsNumber n → take end digits ≢ decimal n) → IsNumber t → digits ≡ decimal t ++ numbers ts → ⊥
no_next_number digits end t ts lacks starts none fits same =
    none t fits (one_cut space (take end digits) (decimal t) (drop end digits) (numbers ts ++ []) lacks (digits_lack space t (omega arith) fits) starts
    (starts_numbers ts [] refl) (take-append-drop end digits ∙ same ∙ ap (λ (x : List ℕ). decimal t ++ x) (sym (append-nil (numbers ts))))).0

-- numbers that were read, and the rest
pub record AreRead (words ts rest : List ℕ) : Type 0 where
  pub fit : All IsNumber ts
  pub spelled : words ≡ numbers ts ++ rest
  pub starts : 0 < length ts → Starts space rest

pub read_more : (words ts rest us after : List ℕ) (n : ℕ) → AreRead words ts rest → IsNumber n × (rest ≡ codes " " ++ decimal n ++ after)
    × (get_or after 0 space ≡ space) → us ≡ ts ++ n ∷ [] → AreRead words us after
read_more words ts rest us after n so_far next pushed = rw pushed (record {
  fit = All-push IsNumber ts n so_far.fit next.0;
  spelled = so_far.spelled ∙ ap (λ (x : List ℕ). numbers ts ++ x) next.1 ∙ sym (append_assoc (numbers ts) (codes " " ++ decimal n) after)
      ∙ ap (λ (x : List ℕ). x ++ after) (flat_map_more (λ t. codes " " ++ decimal t) [] ts n);
  starts = λ _. next.2;
})

pub unread : (words ts rest : List ℕ) → AreRead words ts rest → 0 < length rest → ((t : ℕ) (us : List ℕ) → IsNumber t → rest ≢ numbers (t ∷ us)) → (us : List ℕ)
    → All IsNumber us → words ≢ numbers us
unread words ts rest so_far some none us fit same =
    let g = numbers_go_on ts us rest so_far.fit fit so_far.starts (sym so_far.spelled ∙ same) in
    bad g.more g.text g.list
  where
    bad : (more : List ℕ) → rest ≡ numbers more → us ≡ ts ++ more → ⊥
    bad [] text list = omega (arith, ap length text)
    bad (t ∷ more) text list = none t more (All-head IsNumber t more (All-behind IsNumber ts (t ∷ more) (subst (All IsNumber) list fit))) text

pub kept : (words ts rest after : List ℕ) (n : ℕ) → AreRead words ts rest → IsNumber n × (rest ≡ codes " " ++ decimal n ++ after)
    × (get_or after 0 space ≡ space) → BeginsWithNumbers [] words
kept words ts rest after n so_far next =
    let more = read_more words ts rest (ts ++ n ∷ []) after n so_far next refl in
    record { transfers = ts ++ n ∷ []; rest = after; some = omega (arith, length-append ts (n ∷ [])); fit = more.fit; spelled = more.spelled }

-- a fault of the words after the first is one of the line
pub line_fault : (at : ℕ) (word line words : List ℕ) (fault : ScheduleFault) → line ≡ word ++ words → IsLineFault at [] words fault → IsLineFault
    at word line fault
line_fault at word line words (Line n) parts f = (f.0, λ ts fit same. f.1 ts fit (append_cancel_left word words (numbers ts) (sym parts ∙ same)))
line_fault at word line words NoMemory parts f = record {
  transfers = f.transfers;
  rest = f.rest;
  some = f.some;
  fit = f.fit;
  spelled = parts ∙ ap (λ (x : List ℕ). word ++ x) f.spelled ∙ sym (append_assoc word (numbers f.transfers) f.rest);
}

-- ---- the line of a link

pub ends_at : (n : ℕ) (rest : List ℕ) → n < 10 → decimal n ++ rest ≡ (48 + n) ∷ rest
ends_at n rest low = ap (λ (x : List ℕ). x ++ rest) (decimal_digit n low)

pub no_end : (bytes : List ℕ) → ((rest : List ℕ) → bytes ≢ 48 ∷ rest) → ((rest : List ℕ) → bytes ≢ 51 ∷ rest) → (end : End) (rest : List ℕ)
    → bytes ≢ decimal (end_number end) ++ rest
no_end bytes zero three Zero rest same = zero rest (same ∙ ends_at 0 rest (omega arith))
no_end bytes zero three Three rest same = three rest (same ∙ ends_at 3 rest (omega arith))

abbrev first_byte : List ℕ → ℕ
first_byte bytes = get_or bytes 0 0

apart : (x y : List ℕ) → 48 ∷ x ≡ 51 ∷ y → ⊥
apart x y same = let bytes : 48 ≡ 51 = ap first_byte same in omega (arith, bytes)

pub one_end : (e f : End) (x y : List ℕ) → decimal (end_number e) ++ x ≡ decimal (end_number f) ++ y → (e ≡ f) × (x ≡ y)
one_end Zero Zero x y same = (refl, ap (drop 1) (sym (ends_at 0 x (omega arith)) ∙ same ∙ ends_at 0 y (omega arith)))
one_end Three Three x y same = (refl, ap (drop 1) (sym (ends_at 3 x (omega arith)) ∙ same ∙ ends_at 3 y (omega arith)))
one_end Zero Three x y same = absurd (apart x y (sym (ends_at 0 x (omega arith)) ∙ same ∙ ends_at 3 y (omega arith)))
one_end Three Zero x y same = absurd (apart y x (sym (ends_at 0 y (omega arith)) ∙ sym same ∙ ends_at 3 x (omega arith)))

-- what stands after `busiest link `
pub link_parts : (link : Link) → busiest_line link ≡ codes "busiest link " ++ (decimal (end_number link.end) ++ (codes " module " ++ decimal link.«module»))
link_parts link = simp append_assoc

pub one_module : (m n : ℕ) → IsNumber m → IsNumber n → codes " module " ++ decimal m ≡ codes " module " ++ decimal n → m ≡ n
one_module m n fm fn same = decimal_injective m n (omega arith) (omega arith) (append_cancel_left (codes " module ") (decimal m) (decimal n) same)
