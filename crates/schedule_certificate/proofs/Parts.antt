-- The halves of a part, and how its colouring comes from theirs.
use Rattle.std.proofs.Common.{◌≡◌, ◌==◌, ℕ, zero, suc, ◌+◌, ◌-◌, ◌*◌, ◌/◌, ◌^◌, ◌<◌, ◌≤◌, ◌⊎◌, ◌↔◌, inl, inr, List, ◌++◌, length, map, take, drop, All, Option, Some, None, IsSome, Result, Ok, Err}
use Rattle.std.proofs.Common.{IfOk, get_or, cond, refl, sym, ap, ◌∙◌, subst, arith}
use Rattle.std.specs.Prelude.{Contains}
use Rattle.std.proofs.lemmas.Bool.{false≢true}
use Rattle.std.proofs.lemmas.Bool.Decides.{eqb_tells}
use Rattle.std.proofs.lemmas.Option.{same_Some}
use Rattle.std.proofs.lemmas.List.{length-append, get_or_default}
use Rattle.std.proofs.lemmas.List.Elements.{Contains-append_left, Contains-append_right, Contains-append_cases}
use Rattle.std.proofs.lemmas.List.Sorted.{IsPermutation-sym, All-permutation, Contains-permutation, sum_by-IsPermutation, length_permutation}
use Rattle.std.proofs.lemmas.List.Sums.{sum_by-append}
use Rattle.std.proofs.Math.Nat.{mul_comm}
use Rattle.batch.specs.declared.limits.TheConstants.{MAX_MODULES}
use Rattle.batch.specs.declared.transfer.Transfer.{Transfer}
use Rattle.link_graph.specs.declared.limits.TheConstants.{LINKS}
use Rattle.link_graph.specs.declared.link.Link.{Link}
use Rattle.link_graph.specs.Uses.{IsMatching}
use Rattle.link_graph.specs.Marks.{members}
use Rattle.link_graph.proofs.Firsts.{all_left, all_right}
use Rattle.link_graph.proofs.Once.{standings, once_from_distinct, distinct_from_once, at_most_once}
use Rattle.link_graph.proofs.Sharing.{members_few, matching_from_none_shared, count_from_shared}
use Rattle.link_graph.proofs.Users.{uses_few}
use Rattle.euler_split.specs.Split.{uses_among, IsSplit}
use Rattle.alternating_path.specs.Colouring.{Colouring, colour_at, HasColour, PlacesOnly, ArePlacedApart, joined_colour, HasClassMore}
use Rattle.alternating_path.specs.Counts.{uses_link}
use Rattle.alternating_path.specs.Classes.{without_colour, IsTakenBack}
use Rattle.alternating_path.proofs.Removed.{without-at}
use Rattle.alternating_path.proofs.Singles.{nothing_if}
use Rattle.alternating_path.proofs.MoreClasses.{some_of}
use Rattle.schedule_certificate.specs.Reinsertions.{AreFew}
use Rattle.schedule_certificate.specs.declared.degree.KnownDegree.{KnownDegree}
use Rattle.schedule_certificate.specs.declared.degree.KnownDegree.TheVariants.{Is, AtMost}
use Rattle.schedule_certificate.specs.Parts.{IsPart, IsDegree, IsDegreeKnown, IsHalf, AreHalves, AreHalvesOfTwo, IsColouredPart, HasRoomFor}
use Rattle.schedule_certificate.proofs.Bounds.{few_le, few_halves}
use Rattle.schedule_certificate.proofs.Counting.{uses_counted, placed_few}
use Rattle.schedule_certificate.specs.Steps.{at_most, colouring_steps}
use Rattle.schedule_certificate.proofs.Levels.{class_steps, half_fits, level}

-- ---- a part of degree 0 or 1

pub single_matching : (batch : List Transfer) (part : List ℕ) (d : ℕ) → IsDegree (members batch part) d → d ≤ 1 → IsMatching batch part
single_matching batch part d degree low = matching_from_none_shared batch part
    (λ link shared. omega (arith, count_from_shared batch part link shared, degree.most link))

-- ---- the halves

pub same_degree : (transfers : List Transfer) (d e : ℕ) → IsDegree transfers d → IsDegree transfers e → d ≡ e
same_degree transfers d e one other =
    let low : (a b : ℕ) → IsDegree transfers a → IsDegree transfers b → a ≤ b =
    λ a b x y. elim x.reached [ inl none ↦ omega arith | inr at ↦ omega (arith, at.1, y.most at.0) ] in
    omega (arith, low d e one other, low e d other one)

-- halves of each link's uses are halves of the degree
pub halves_of_split : (batch : List Transfer) (whole left right : List ℕ) → IsSplit batch whole left right → AreHalves batch whole left right
halves_of_split batch whole left right s = record {
  parts = s.parts;
  left_uses = λ link d degree. omega (arith, s.left_uses link, degree.most link);
  right_uses = λ link d degree. omega (arith, s.right_uses link, degree.most link);
}

one_of : (a b : ℕ) → 0 < a + b → (0 < a) ⊎ (0 < b)
one_of zero b h = inr (omega arith)
one_of (suc a) b h = inl (omega arith)

-- halves that were cut at a place
pub cut : (batch : List Transfer) (whole now front back : List ℕ) (k : ℕ) → front ≡ take k now → back ≡ drop k now → AreHalves batch whole (take k now)
    (drop k now) → AreHalves batch whole front back
cut batch whole now front back k first rest halves = rw (first, rest) halves

module _ (batch : List Transfer) (whole left right : List ℕ) (part : IsPart batch whole) (s : AreHalves batch whole left right) where
  both_standings : (t : ℕ) → standings t left + standings t right ≡ standings t whole
  both_standings t = omega (
    arith,
    sum_by-append (λ u. cond (u == t) 1 0) left right,
    sum_by-IsPermutation (λ u. cond (u == t) 1 0) whole (left ++ right)
        s.parts,
  )

  both_known : All (λ t. t < length batch) (left ++ right)
  both_known = All-permutation (λ t. t < length batch) whole (left ++ right) s.parts part.known

  pub left_part : IsPart batch left
  left_part = record {
    known = all_left (λ t. t < length batch) left right both_known;
    distinct = distinct_from_once left (λ t stands. omega (arith, both_standings t, at_most_once whole t part.distinct));
  }

  pub right_part : IsPart batch right
  right_part = record {
    known = all_right (λ t. t < length batch) left right both_known;
    distinct = distinct_from_once right (λ t stands. omega (arith, both_standings t, at_most_once whole t part.distinct));
  }

  pub both_lengths : length left + length right ≡ length whole
  both_lengths = omega (arith, length-append left right, length_permutation whole (left ++ right) s.parts)

  -- the steps of the whole are its own, and those of its halves
  pub both_steps : (d k : ℕ) (half : KnownDegree) (own s t : ℕ) → 1 < d → IsHalf d half → d ≤ 2 ^ k → own ≤ 32 * length whole + 7 * MAX_MODULES * (d + 1) + 2 *
      MAX_MODULES → ((j : ℕ) → at_most half ≤ 2 ^ j → t ≤ s + own + colouring_steps (length left) j + colouring_steps (length right) j)
      → t ≤ s + colouring_steps (length whole) k
  both_steps d zero half own s t high is low few took = absurd (omega arith)
  both_steps d (suc k) half own s t high is low few took = rw both_lengths
      at (level (length left) (length right) d k own s t low (omega (arith, few, both_lengths)) (took k (half_fits d k half is low)))

  both_uses : (link : Link) → uses_among batch left link + uses_among batch right link ≡ uses_among batch whole link
  both_uses link =
      let bit : ℕ → ℕ = λ u. cond (uses_link batch link u) 1 0 in
      omega (
        arith,
        uses_counted batch link left left_part.known,
        uses_counted batch link right right_part.known,
        uses_counted batch link whole part.known,
        sum_by-append bit left right,
        sum_by-IsPermutation bit whole (left ++ right) s.parts,
      )

  -- both halves of a part of degree 2 or more have something
  pub both_less : (d : ℕ) → IsDegree (members batch whole) d → 1 < d → (length left < length whole) × (length right < length whole)
  both_less d degree high = elim degree.reached [
    | inl none ↦ absurd (omega arith)
    | inr at ↦
        let in_left : 0 < uses_among batch left at.0 = omega (arith, at.1, both_uses at.0, s.right_uses at.0 d degree) in
        let in_right : 0 < uses_among batch right at.0 = omega (arith, at.1, both_uses at.0, s.left_uses at.0 d degree) in (
          omega (arith, in_right, uses_few (members batch right) at.0, members_few batch right, both_lengths),
          omega (arith, in_left, uses_few (members batch left) at.0, members_few batch left, both_lengths),
        )
  ]

  -- the halves of a part of even degree have half of it
  half_degrees : (d h : ℕ) → IsDegree (members batch whole) d → h + h ≡ d → IsDegree (members batch left) h × IsDegree (members batch right) h
  half_degrees d h degree is = (
    record {
      most = λ link. omega (arith, s.left_uses link d degree, degree.most link);
      reached = elim degree.reached [
        | inl none ↦ inl (omega (arith, none))
        | inr at ↦
            inr (at.0, omega (arith, at.1, both_uses at.0, s.left_uses at.0 d degree, s.right_uses at.0 d degree))
      ];
    },
    record {
      most = λ link. omega (arith, s.right_uses link d degree, degree.most link);
      reached = elim degree.reached [
        | inl none ↦ inl (omega (arith, none))
        | inr at ↦
            inr (at.0, omega (arith, at.1, both_uses at.0, s.left_uses at.0 d degree, s.right_uses at.0 d degree))
      ];
    },
  )

  pub known_halves : (d : ℕ) (half : KnownDegree) → IsDegree (members batch whole) d → IsHalf d half → IsDegreeKnown (members batch left) half
      × IsDegreeKnown (members batch right) half
  known_halves d (Is h) degree is = half_degrees d h degree is
  known_halves d (AtMost h) degree is = (λ link. rw is (s.left_uses link d degree), λ link. rw is (s.right_uses link d degree))

  in_either : (t : ℕ) → Contains whole t → Contains left t ⊎ Contains right t
  in_either t stands = Contains-append_cases left right t (Contains-permutation whole (left ++ right) t s.parts stands)

  from_left : (t : ℕ) → Contains left t → Contains whole t
  from_left t stands = Contains-permutation (left ++ right) whole t (IsPermutation-sym whole (left ++ right) s.parts) (Contains-append_left left right t stands)

  from_right : (t : ℕ) → Contains right t → Contains whole t
  from_right t stands = Contains-permutation (left ++ right) whole t (IsPermutation-sym whole (left ++ right) s.parts)
      (Contains-append_right left right t stands)

  not_in_both : (t : ℕ) → Contains left t → Contains right t → ⊥
  not_in_both t in_left in_right = omega (
    arith,
    once_from_distinct t left left_part.distinct in_left,
    once_from_distinct t right right_part.distinct in_right,
    both_standings t,
    at_most_once whole t part.distinct,
  )

half_degree : (batch : List Transfer) (whole half : List ℕ) (d e : ℕ) → IsDegree (members batch whole) d → IsDegree (members batch half) e
    → ((link : Link) → uses_among batch half link ≤ (d + 1) / 2) → e ≤ (d + 1) / 2
half_degree batch whole half d e degree here less = elim here.reached [
  | inl none ↦ omega arith
  | inr at ↦ omega (arith, at.1, less at.0, degree.most at.0)
]

-- ---- the halves of a part of degree 2, each in one colour

module _ (batch : List Transfer) (whole left right : List ℕ) (x : AreHalvesOfTwo batch whole left right) where
  one_use : (half : List ℕ) → ((link : Link) → uses_among batch half link ≤ 1) → IsMatching batch half
  one_use half few = matching_from_none_shared batch half (λ link shared. omega (arith, count_from_shared batch half link shared, few link))

  pub left_known : All (λ t. t < length batch) left
  left_known = (left_part batch whole left right x.is_part x.halves).known

  pub right_known : All (λ t. t < length batch) right
  right_known = (right_part batch whole left right x.is_part x.halves).known

  pub left_matching : IsMatching batch left
  left_matching = one_use left (λ link. x.halves.left_uses link 2 x.is_degree)

  pub right_matching : IsMatching batch right
  right_matching = one_use right (λ link. x.halves.right_uses link 2 x.is_degree)

  module _ (one : Colouring) (batch_is : one.batch ≡ batch) (colours_is : one.colours ≡ 1) (placed : PlacesOnly one.colour left)
      (inserted_is : one.inserted ≡ 0) where
    pub right_out : All (λ t. colour_at one.colour t ≡ None) right
    right_out i d i_in = nothing_if (colour_at one.colour (get_or right i d)) (λ some. not_in_both batch whole left right x.is_part x.halves (get_or right i d)
        ((placed (get_or right i d)).0 some) (i, i_in, get_or_default right i (get_or right i d) d i_in))

    pub two_coloured : (two : Colouring) → HasClassMore one right two → IsColouredPart batch whole two
    two_coloured two more = record {
      degree = 2;
      is_degree = x.is_degree;
      batch_is = more.batch ∙ batch_is;
      colours_is = omega (arith, more.colours, colours_is);
      placed = λ t. (
        λ some.
            let c = some_of (colour_at two.colour t) some in
            elim (more.only t c.0 c.1) [
              | inl before ↦ from_left batch whole left right x.is_part x.halves t ((placed t).0 (subst IsSome (sym before) refl))
              | inr given ↦ from_right batch whole left right x.is_part x.halves t given.1
            ],
        λ stands. elim (in_either batch whole left right x.is_part x.halves t stands) [
          | inl a ↦ let c = some_of (colour_at one.colour t) ((placed t).1 a) in subst IsSome (sym (more.kept t c.0 c.1)) refl
          | inr b ↦ subst IsSome (sym (more.given t b)) refl
        ],
      );
      few = record {
        most = omega (arith, more.inserted, inserted_is);
        none_at_zero = λ _. more.inserted ∙ inserted_is;
        none_at_powers = λ j _. more.inserted
            ∙ inserted_is;
      };
    }

    pub two_coloured_if : {E : Type 0} (r : Result Colouring E) → IfOk r (HasClassMore one right) → IfOk r (IsColouredPart batch whole)
    two_coloured_if (Ok two) more = two_coloured two more
    two_coloured_if (Err e) more = tt

-- ---- the two tables in one

either_placed : (k : ℕ) (o r : Option ℕ) → IsSome (joined_colour k o r) → IsSome o ⊎ IsSome r
either_placed k (Some c) r h = inl refl
either_placed k None None h = absurd (false≢true h)
either_placed k None (Some c) h = inr refl

left_placed : (k : ℕ) (o r : Option ℕ) → IsSome o → IsSome (joined_colour k o r)
left_placed k None r h = absurd (false≢true h)
left_placed k (Some c) r h = refl

right_placed : (k : ℕ) (o r : Option ℕ) → IsSome r → IsSome (joined_colour k o r)
right_placed k (Some c) r h = refl
right_placed k None None h = absurd (false≢true h)
right_placed k None (Some c) h = refl

-- ---- a class that is given up

-- it stays placed, or had the colour
stays_or_had : (c : ℕ) (o : Option ℕ) → IsSome o → IsSome (without_colour c o) ⊎ (o ≡ Some c)
stays_or_had c None h = absurd (false≢true h)
stays_or_had c (Some d) h = elim (eqb_tells d c) [
  | inl same ↦ inr (ap (λ (e : ℕ). Some e) same.1)
  | inr other ↦ inl (rw other.0 refl)
]

was_placed : (c : ℕ) (o : Option ℕ) → IsSome (without_colour c o) → IsSome o
was_placed c None h = absurd (false≢true h)
was_placed c (Some d) h = refl

had_colour : (c : ℕ) (o : Option ℕ) → o ≡ Some c → without_colour c o ≡ None
had_colour c None h = refl
had_colour c (Some d) h = elim (eqb_tells d c) [
  | inl same ↦ rw same.0 refl
  | inr other ↦ absurd (other.1 (same_Some d c h))
]

-- ---- from the tables of the halves to that of the whole

module _ (batch : List Transfer) (whole left right : List ℕ) (d : ℕ) (t₁ t₂ : Colouring) (part : IsPart batch whole) (degree : IsDegree (members batch whole) d)
    (high : 1 < d) (s : AreHalves batch whole left right) (c₁ : IsColouredPart batch left t₁) (c₂ : IsColouredPart batch right t₂) where
  pub apart : ArePlacedApart t₁.colour t₂.colour
  apart t one other = not_in_both batch whole left right part s t ((c₁.placed t).0 one) ((c₂.placed t).0 other)

  left_degree : c₁.degree ≤ (d + 1) / 2
  left_degree = half_degree batch whole left d c₁.degree degree c₁.is_degree (λ link. s.left_uses link d degree)

  right_degree : c₂.degree ≤ (d + 1) / 2
  right_degree = half_degree batch whole right d c₂.degree degree c₂.is_degree (λ link. s.right_uses link d degree)

  both_degrees : d ≤ c₁.degree + c₂.degree
  both_degrees = elim degree.reached [
    | inl none ↦ omega arith
    | inr at ↦ omega (arith, at.1, both_uses batch whole left right part s at.0, c₁.is_degree.most at.0, c₂.is_degree.most at.0)
  ]

  pub colours_few : t₁.colours + t₂.colours ≤ d + 1
  colours_few = omega (arith, c₁.colours_is, c₂.colours_is, left_degree, right_degree)

  few_with : (x r : ℕ) → (d + 1) * x ≤ length whole → (c₁.degree + c₂.degree ≤ d → x ≡ 0) → r ≤ t₁.inserted + t₂.inserted + x → AreFew (length whole) d r
  few_with x r class none le =
      let n = both_lengths batch whole left right part s in
      let f = few_halves d c₁.degree c₂.degree (length left) (length right) t₁.inserted t₂.inserted x high both_degrees left_degree right_degree c₁.few c₂.few
      (omega (arith, n)) none in
      few_le (length whole) d (t₁.inserted + t₂.inserted + x) r (subst (λ (m : ℕ). AreFew m d (t₁.inserted + t₂.inserted + x)) n f) le

  module _ (joined : Colouring) (batch_is : joined.batch ≡ t₁.batch) (colours : joined.colours ≡ t₁.colours + t₂.colours)
      (classes : (t : ℕ) → colour_at joined.colour t ≡ joined_colour t₁.colours (colour_at t₁.colour t) (colour_at t₂.colour t))
      (inserted : joined.inserted ≤ t₁.inserted + t₂.inserted) where
    all_placed : (t : ℕ) → HasColour joined.colour t ↔ Contains whole t
    all_placed t = (
      λ some. elim (either_placed t₁.colours (colour_at t₁.colour t) (colour_at t₂.colour t) (subst IsSome (classes t) some)) [
        | inl a ↦ from_left batch whole left right part s t ((c₁.placed t).0 a)
        | inr b ↦ from_right batch whole left right part s t ((c₂.placed t).0 b)
      ],
      λ stands. subst IsSome (sym (classes t)) (elim (in_either batch whole left right part s t stands) [
        | inl a ↦ left_placed t₁.colours (colour_at t₁.colour t) (colour_at t₂.colour t) ((c₁.placed t).1 a)
        | inr b ↦ right_placed t₁.colours (colour_at t₁.colour t) (colour_at t₂.colour t) ((c₂.placed t).1 b)
      ]),
    )

    at_least_degree : d ≤ joined.colours
    at_least_degree = omega (arith, colours, c₁.colours_is, c₂.colours_is, both_degrees)

    -- the joined table has no colour too many
    pub joined_coloured : joined.colours ≤ d → IsColouredPart batch whole joined
    joined_coloured fit = record {
      degree = d;
      is_degree = degree;
      batch_is = batch_is ∙ c₁.batch_is;
      colours_is = omega (arith, at_least_degree);
      placed = all_placed;
      few = few_with 0 joined.inserted (omega arith) (λ _. refl) (omega (arith, inserted));
    }

    -- or it has one, and a smallest class was given up
    module _ (table : Colouring) (class : List ℕ) (more : d < joined.colours) (taken : IsTakenBack joined table class) where
      colour_of : List (Option ℕ)
      colour_of = map (without_colour taken.c) joined.colour

      table_batch : table.batch ≡ batch
      table_batch = ap (λ (x : Colouring). x.batch) taken.rest ∙ (batch_is ∙ c₁.batch_is)

      table_colours : table.colours ≡ d
      table_colours =
          let less : table.colours ≡ joined.colours - 1 = ap (λ (x : Colouring). x.colours) taken.rest in
          omega (arith, less, more, colours, colours_few)

      table_at : (t : ℕ) → colour_at table.colour t ≡ without_colour taken.c (colour_at joined.colour t)
      table_at t = ap (λ (x : Colouring). colour_at x.colour t) taken.rest ∙ without-at taken.c joined.colour t

      each_placed : (t : ℕ) → Contains whole t ↔ (HasColour table.colour t ⊎ Contains class t)
      each_placed t = (
        λ stands. elim (stays_or_had taken.c (colour_at joined.colour t) ((all_placed t).1 stands)) [
          | inl stays ↦ inl (subst IsSome (sym (table_at t)) stays)
          | inr had ↦ inr ((taken.given t).1 had)
        ],
        λ either. (all_placed t).0 (elim either [
          | inl now ↦ was_placed taken.c (colour_at joined.colour t) (subst IsSome (table_at t) now)
          | inr given ↦ subst IsSome (sym ((taken.given t).0 given)) refl
        ]),
      )

      pub has_room : HasRoomFor table class
      has_room = record {
        whole = whole;
        is_part = subst (λ (b : List Transfer). IsPart b whole) (sym table_batch) part;
        room = λ link. rw (table_batch, table_colours) (degree.most link);
        each = each_placed;
        out = λ t given. table_at t ∙ had_colour taken.c (colour_at joined.colour t) ((taken.given t).0 given);
        distinct = taken.distinct;
      }

      class_few : (d + 1) * length class ≤ length whole
      class_few =
          let cols : joined.colours ≡ d + 1 = omega (arith, more, colours, colours_few) in
          let turned : length class * joined.colours ≡ (d + 1) * length class = ap (λ c. length class * c) cols ∙ mul_comm (length class) (d + 1) in
          omega (arith, turned, taken.few, placed_few whole joined.colour (λ u some. (all_placed u).0 some))

      pub put_back_steps : (s₀ s₁ s₂ s₃ : ℕ) → s₁ ≤ s₀ + (t₁.colours + t₂.colours) * LINKS → s₂ ≤ s₁ + 5 * MAX_MODULES * joined.colours + MAX_MODULES
          → s₃ ≤ s₂ + length class * (3 * table.colours + 2 * MAX_MODULES + 1) → s₃ ≤ s₀ + 25 * length whole + 7 * MAX_MODULES * (d + 1) + MAX_MODULES
      put_back_steps s₀ s₁ s₂ s₃ one two three =
          let same : length class * (3 * table.colours + 2 * MAX_MODULES + 1) ≡ length class * (3 * d + 2 * MAX_MODULES + 1) =
          ap (λ n. length class * (3 * n + 2 * MAX_MODULES + 1)) table_colours in
          omega (arith, one, two, three, same, colours, colours_few, class_steps (length class) d (length whole) high class_few)

      pub put_back_coloured : (new : Colouring) → new.batch ≡ table.batch → new.colours ≡ table.colours
          → ((t : ℕ) → HasColour new.colour t ↔ (HasColour table.colour t ⊎ Contains class t)) → new.inserted ≤ table.inserted + length class
          → IsColouredPart batch whole new
      put_back_coloured new same colours_same placed count = record {
        degree = d;
        is_degree = degree;
        batch_is = same ∙ table_batch;
        colours_is = omega (arith, colours_same, table_colours);
        placed = λ t. (λ some. (each_placed t).1 ((placed t).0 some), λ stands. (placed t).1 ((each_placed t).0 stands));
        few =
            let kept : table.inserted ≡ joined.inserted = ap (λ (x : Colouring). x.inserted) taken.rest in
            few_with (length class) new.inserted class_few
            (λ low. absurd (omega (arith, more, colours, c₁.colours_is, c₂.colours_is, low, both_degrees, left_degree, right_degree, high)))
            (omega (arith, kept, count, inserted));
      }
