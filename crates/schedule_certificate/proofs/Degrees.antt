-- Counting the uses of each link, one transfer after the other.
use Rattle.std.proofs.Common.{◌≡◌, ◌≢◌, ℕ, ◌+◌, ◌<◌, ◌≤◌, inl, inr, max, List, [], ◌∷◌, ◌++◌, length, get_or, set, take, replicate, slice_get, All, Option, Some, option_map, refl, sym, ap, ◌∙◌, subst}
use Rattle.std.proofs.Common.{arith}
use Rattle.std.proofs.lemmas.Bool.{cases_eq}
use Rattle.std.proofs.lemmas.Bool.Decides.{eqb_tells}
use Rattle.std.proofs.lemmas.Option.{same_Some}
use Rattle.std.proofs.lemmas.List.{length-set, length-take, get_or-set_same, get_or-set_other}
use Rattle.std.proofs.lemmas.List.Elements.{All-get_or, All-set}
use Rattle.batch.specs.declared.limits.TheConstants.{MAX_MODULES, MAX_TRANSFERS}
use Rattle.batch.specs.Batches.{IsBatch}
use Rattle.batch.specs.declared.transfer.Transfer.{Transfer}
use Rattle.batch.specs.ShapeView.{widest}
use Rattle.batch.specs.Text.{HasModules}
use Rattle.link_graph.specs.declared.limits.TheConstants.{LINKS}
use Rattle.link_graph.specs.declared.link.End.{End}
use Rattle.link_graph.specs.declared.link.End.TheVariants.{Zero, Three}
use Rattle.link_graph.specs.declared.link.Link.{Link}
use Rattle.link_graph.specs.Links.{index_by, link_index}
use Rattle.link_graph.specs.Uses.{start_link, answer_link}
use Rattle.link_graph.specs.Counts.{uses}
use Rattle.link_graph.specs.Tables.{AreCounts}
use Rattle.link_graph.specs.Marks.{members}
use Rattle.link_graph.proofs.Users.{use_of, use_no, uses_push}
use Rattle.link_graph.proofs.Tables.{no_counts, modules_of, room_left}
use Rattle.link_graph.proofs.Sharing.{members_few, some_more}
use Rattle.euler_split.proofs.Modules.{known_transfer}
use Rattle.euler_split.proofs.Numbers.{few}
use Rattle.schedule_certificate.specs.Parts.{IsPart, IsDegree}

abbrev made : End → ℕ → Link
made e m = record { end = e; «module» = m }

-- what is known of the table and of the greatest count after some transfers
pub record AreCounted (transfers : List Transfer) (counts : List ℕ) (degree : ℕ) : Type 0 where
  pub counts_are : AreCounts counts transfers
  pub degree_is : IsDegree transfers degree

pub none_counted : AreCounted [] (replicate LINKS 0) 0
none_counted = record { counts_are = no_counts; degree_is = record { most = λ link. omega arith; reached = inl refl } }

module _ (counts : List ℕ) (xs : List Transfer) (x : Transfer) (fits : HasModules widest x) (table : AreCounts counts xs) where
  abbrev n : ℕ
  n = get_or counts (link_index (start_link x)) 0 + 1

  abbrev first : List ℕ
  first = set counts (link_index (start_link x)) n

  abbrev m : ℕ
  m = get_or first (link_index (answer_link x)) 0 + 1

  abbrev both : List ℕ
  both = set first (link_index (answer_link x)) m

  start_in : link_index (start_link x) < length counts
  start_in = omega (arith, table.places, fits.0)

  answer_in : link_index (answer_link x) < length first
  answer_in = omega (arith, table.places, fits.1, length-set counts (link_index (start_link x)) n)

  at_by : (e : End) (k : ℕ) → k < MAX_MODULES → get_or both (index_by e k) 0 ≡ get_or counts (index_by e k) 0 + use_of (made e k) x
  at_by Zero k low =
      let other : k ≢ MAX_MODULES + x.responder = λ e. omega arith in
      let kept = get_or-set_other first (link_index (answer_link x)) k m 0 other in
      elim (eqb_tells x.initiator k) [
        | inl same ↦
            let here : get_or first k 0 ≡ n = ap (λ (i : ℕ). get_or first i 0) (sym same.1) ∙ get_or-set_same counts x.initiator n 0 start_in in
            let old : n ≡ get_or counts k 0 + 1 = ap (λ (i : ℕ). get_or counts i 0 + 1) same.1 in
            let bit : use_of (made Zero k) x ≡ 1 = rw same.0 refl in
            omega (arith, kept, here, old, bit)
        | inr away ↦
            let there = get_or-set_other counts x.initiator k n 0 (λ e. away.1 (sym e)) in
            let bit : use_of (made Zero k) x ≡ 0 = rw away.0 refl in
            omega (arith, kept, there, bit)
      ]
  at_by Three k low =
      let other : MAX_MODULES + k ≢ x.initiator = λ e. omega (arith, fits.0) in
      let kept = get_or-set_other counts x.initiator (MAX_MODULES + k) n 0 other in
      elim (eqb_tells x.responder k) [
        | inl same ↦
            let place : MAX_MODULES + x.responder ≡ MAX_MODULES + k = ap (λ (i : ℕ). MAX_MODULES + i) same.1 in
            let here : get_or both (MAX_MODULES + k) 0 ≡ m = ap (λ (i : ℕ). get_or both i 0) (sym place) ∙ get_or-set_same first (MAX_MODULES + x.responder) m 0
            answer_in in
            let old : m ≡ get_or first (MAX_MODULES + k) 0 + 1 = ap (λ (i : ℕ). get_or first i 0 + 1) place in
            let bit : use_of (made Three k) x ≡ 1 = rw same.0 refl in
            omega (arith, kept, here, old, bit)
        | inr away ↦
            let there = get_or-set_other first (MAX_MODULES + x.responder) (MAX_MODULES + k) m 0 (λ e. away.1 (omega arith)) in
            let bit : use_of (made Three k) x ≡ 0 = rw away.0 refl in
            omega (arith, kept, there, bit)
      ]

  counted_more : AreCounts both (xs ++ x ∷ [])
  counted_more = record {
    places = omega (arith, table.places, length-set counts (link_index (start_link x)) n, length-set first (link_index (answer_link x)) m);
    at = λ link low. omega (arith, at_by link.end link.«module» low, table.at link low, uses_push xs x link);
  }

  start_count : uses (xs ++ x ∷ []) (start_link x) ≡ n
  start_count =
      let bit : use_of (start_link x) x ≡ 1 = elim (eqb_tells x.initiator x.initiator) [ inl same ↦ rw same.0 refl | inr away ↦ absurd (away.1 refl) ] in
      omega (arith, uses_push xs x (start_link x), table.at (start_link x) fits.0, bit)

  answer_count : uses (xs ++ x ∷ []) (answer_link x) ≡ m
  answer_count =
      let at_end : get_or both (link_index (answer_link x)) 0 ≡ m = get_or-set_same first (MAX_MODULES + x.responder) m 0 answer_in in
      omega (arith, counted_more.at (answer_link x) fits.1, at_end)

  most_by : (e : End) (k d : ℕ) → uses xs (made e k) ≤ d → uses (xs ++ x ∷ []) (made e k) ≤ max (max d n) m
  most_by Zero k d le = elim (eqb_tells x.initiator k) [
    | inl same ↦ omega (arith, start_count, ap (λ (i : ℕ). uses (xs ++ x ∷ []) (made Zero i)) same.1)
    | inr away ↦ omega (arith, uses_push xs x (made Zero k), use_no (made Zero k) x away.1)
  ]
  most_by Three k d le = elim (eqb_tells x.responder k) [
    | inl same ↦ omega (arith, answer_count, ap (λ (i : ℕ). uses (xs ++ x ∷ []) (made Three i)) same.1)
    | inr away ↦ omega (arith, uses_push xs x (made Three k), use_no (made Three k) x away.1)
  ]

  degree_more : (d : ℕ) → IsDegree xs d → IsDegree (xs ++ x ∷ []) (max (max d n) m)
  degree_more d degree =
      let most : (link : Link) → uses (xs ++ x ∷ []) link ≤ max (max d n) m = λ link. most_by link.end link.«module» d (degree.most link) in
      record {
        most = most;
        reached = elim (cases_eq (max (max d n) m) m) [
          | inl last ↦ inr (answer_link x, omega (arith, answer_count, last))
          | inr more ↦ elim (cases_eq (max (max d n) m) n) [
            | inl middle ↦ inr (start_link x, omega (arith, start_count, middle))
            | inr old ↦
                let is : max (max d n) m ≡ d = omega arith in
                elim degree.reached [
                  | inl none ↦ inl (omega arith)
                  | inr at ↦ inr (at.0, omega (arith, at.1, most at.0, uses_push xs x at.0))
                ]
          ]
        ];
      }

  -- one more transfer, in the words of the two counts
  count_more : (d a b : ℕ) (one two : List ℕ) → IsDegree xs d → a ≡ n → one ≡ set counts (link_index (start_link x)) a → b
      ≡ get_or one (link_index (answer_link x)) 0 + 1 → two ≡ set one (link_index (answer_link x)) b → AreCounted (xs ++ x ∷ []) two (max (max d a) b)
  count_more d a b one two degree a_is one_is b_is two_is =
      let one' : one ≡ first = one_is ∙ ap (set counts (link_index (start_link x))) a_is in
      let b' : b ≡ m = b_is ∙ ap (λ (l : List ℕ). get_or l (link_index (answer_link x)) 0 + 1) one' in
      let two' : two ≡ both = two_is ∙ (ap (λ (l : List ℕ). set l (link_index (answer_link x)) b) one' ∙ ap (set first (link_index (answer_link x))) b') in
      record {
        counts_are = subst (λ (l : List ℕ). AreCounts l (xs ++ x ∷ [])) (sym two') counted_more;
        degree_is = subst (IsDegree (xs ++ x ∷ [])) (ap (λ (i : ℕ). max (max d i) m) (sym a_is) ∙ ap (λ (i : ℕ). max (max d a) i) (sym b'))
            (degree_more d degree);
      }

-- ---- the transfers of a part, one after the other

abbrev links_of : Transfer → Link × Link
links_of x = let p : Link × Link = (start_link x, answer_link x) in p

module _ (batch : List Transfer) (part : List ℕ) (i : ℕ) (is_part : IsPart batch part) (fits : IsBatch batch) (within : i < length part) where
  abbrev t : ℕ
  t = get_or part i 0

  known : (x : Transfer) × (slice_get batch t ≡ Some x)
  known = known_transfer batch t (is_part.known i 0 within)

  modules : HasModules widest known.0
  modules = modules_of batch t known.0 known.1 fits

  so_far : length (members batch (take i part)) < MAX_TRANSFERS
  so_far = omega (arith, members_few batch (take i part), length-take i part, few (length batch) part is_part.known is_part.distinct, fits.few)

  module _ (o : Option (Link × Link)) (r : Link × Link) (is : o ≡ option_map links_of (slice_get batch t)) (some : o ≡ Some r) where
    both_ends : r ≡ links_of known.0
    both_ends = same_Some r (links_of known.0) (sym some ∙ (is ∙ ap (option_map links_of) known.1))

    start_is : r.0 ≡ start_link known.0
    start_is = ap (λ (p : Link × Link). p.0) both_ends

    answer_is : r.1 ≡ answer_link known.0
    answer_is = ap (λ (p : Link × Link). p.1) both_ends

    pub start_low : r.0.«module» < MAX_MODULES
    start_low = omega (arith, ap (λ (l : Link). l.«module») start_is, modules.0)

    pub answer_low : r.1.«module» < MAX_MODULES
    answer_low = omega (arith, ap (λ (l : Link). l.«module») answer_is, modules.1)

    module _ (counts : List ℕ) (d : ℕ) (so : AreCounted (members batch (take i part)) counts d) where
      pub counts_low : (limit : ℕ) → MAX_TRANSFERS < limit → All (λ n. n < limit) counts
      counts_low limit low = room_left counts (members batch (take i part)) limit so.counts_are (omega (arith, so_far, low))

      module _ (a : ℕ) (one : List ℕ) (a_is : a ≡ get_or counts (link_index r.0) 0 + 1) (one_is : one ≡ set counts (link_index r.0) a) where
        pub next_low : (limit : ℕ) → MAX_TRANSFERS < limit → All (λ n. n < limit) one
        next_low limit low =
            let inside : link_index r.0 < length counts = subst (λ (l : Link). link_index l < length counts) (sym start_is)
            (omega (arith, so.counts_are.places, modules.0)) in
            let before : get_or counts (link_index r.0) 0 < MAX_TRANSFERS = All-get_or (λ n. n < MAX_TRANSFERS) counts (link_index r.0) 0 inside
            (room_left counts (members batch (take i part)) MAX_TRANSFERS so.counts_are so_far) in
            subst (All (λ n. n < limit)) (sym one_is) (All-set (λ n. n < limit) counts (link_index r.0) a (omega (arith, a_is, before, low))
            (counts_low limit low))

        pub next_counted : (b middle top : ℕ) (two : List ℕ) → b ≡ get_or one (link_index r.1) 0 + 1 → two ≡ set one (link_index r.1) b → middle ≡ max d a → top
            ≡ max middle b → AreCounted (members batch (take (i + 1) part)) two top
        next_counted b middle top two b_is two_is middle_is top_is =
            let more : members batch (take (i + 1) part) ≡ members batch (take i part) ++ known.0 ∷ [] = some_more batch part i 0 known.0 within known.1 in
            let place : link_index r.0 ≡ link_index (start_link known.0) = ap link_index start_is in
            let behind : link_index r.1 ≡ link_index (answer_link known.0) = ap link_index answer_is in
            let result = count_more counts (members batch (take i part)) known.0 modules so.counts_are d a b one two so.degree_is
            (a_is ∙ ap (λ (k : ℕ). get_or counts k 0 + 1) place)
            (one_is ∙ ap (λ (k : ℕ). set counts k a) place)
            (b_is ∙ ap (λ (k : ℕ). get_or one k 0 + 1) behind)
            (two_is ∙ ap (λ (k : ℕ). set one k b) behind) in
            let greatest : max (max d a) b ≡ top = ap (λ (k : ℕ). max k b) (sym middle_is) ∙ sym top_is in
            subst (λ (xs : List Transfer). AreCounted xs two top) (sym more) (subst (AreCounted (members batch (take i part) ++ known.0 ∷ []) two) greatest
            result)
