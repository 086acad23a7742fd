-- Walks along pairs: at each link the halves stay even.
use Rattle.std.proofs.Common.{◌≡◌, ◌==◌, ℕ, ◌+◌, ◌<◌, ◌≤◌, inl, List, length, get_or, replicate, Bool, true, false, not, ◌&&◌, cond, sym, ◌∙◌, arith}
use Rattle.std.proofs.lemmas.Bool.{true≢false, false_from_ne_true}
use Rattle.std.proofs.lemmas.Bool.Decides.{nat_tests}
use Rattle.std.proofs.lemmas.List.{get_or_past}
use Rattle.batch.specs.declared.limits.TheConstants.{MAX_MODULES}
use Rattle.link_graph.specs.declared.link.End.{End}
use Rattle.link_graph.specs.declared.link.End.TheVariants.{Zero, Three}
use Rattle.link_graph.specs.Links.{other_end}
use Rattle.link_graph.specs.Masks.{has_pair}
use Rattle.link_graph.proofs.Masks.{bit, empty_mask, no_pair}
use Rattle.euler_split.specs.Masks.{AreToggled}
use Rattle.euler_split.specs.Trails.{end_of, pairs_of_module, IsEvenAt, AreEven, no_surplus, is_left_next, walk_surplus, AreHalved}
use Rattle.euler_split.proofs.Masks.{none_at, none_zero, pairs_toggled}

-- ---- a pair is taken

pub both_low : {a b : ℕ} → a < MAX_MODULES → b < MAX_MODULES → (e : End) → end_of a b e < MAX_MODULES
both_low a_in b_in Zero = a_in
both_low a_in b_in Three = b_in

-- a pair that is taken changes the surplus at its two links
next_lead : (first_left : Bool) (start a b : ℕ) (end e : End) (m : ℕ) → walk_surplus first_left start (other_end end) (end_of a b (other_end end)) e m + bit
    (not (is_left_next first_left end) && end_of a b e == m) ≡ walk_surplus first_left start end (end_of a b end) e m + bit
    (is_left_next first_left end && end_of a b e == m)
next_lead true start a b Zero Zero m = grind (arith, nat_tests)
next_lead first_left start a b end e m = grind (arith, nat_tests)

module _ (a b : ℕ) (low : (e : End) → end_of a b e < MAX_MODULES) (untaken left_half left_now turns_now : List ℕ) (had : has_pair untaken a b ≡ true)
    (out : AreToggled untaken left_now a b) where
  -- a pair is taken, to the left half or not
  pub taken : (to_left : Bool)
      → ((u v : ℕ) → has_pair turns_now u v ≡ cond (to_left && (a == u && b == v)) (not (has_pair left_half u v)) (has_pair left_half u v))
      → (all : ℕ → ℕ → Bool) (first_left : Bool) (start : ℕ) (end : End) → to_left ≡ is_left_next first_left end → AreEven all start untaken left_half
      (walk_surplus first_left start end (end_of a b end)) → AreEven all start left_now turns_now
      (walk_surplus first_left start (other_end end) (end_of a b (other_end end)))
  taken to_left turn all first_left start end next x = record {
    from = λ u v is. x.from u v (grind (arith, nat_tests, out u v));
    apart = λ u v is. grind (arith, nat_tests, out u v, turn u v, x.apart u v);
    untaken_within = λ u v is. x.untaken_within u v (grind (arith, nat_tests, out u v));
    left_half_within = λ u v is. grind (arith, nat_tests, turn u v, x.left_half_within u v, x.untaken_within a b had);
    even = λ e m. grind (
      arith,
      had,
      x.apart a b had,
      next,
      x.even e m,
      next_lead first_left start a b end e m,
      pairs_toggled (end_of a b) low true (has_pair untaken) (has_pair left_now) out e m,
      pairs_toggled (end_of a b) low to_left (has_pair left_half)
          (has_pair turns_now) turn e m,
    );
  }

-- ---- walks from the link 0 of a module

-- other surpluses by which the halves are as even at each link
retold : (all : ℕ → ℕ → Bool) (start start' : ℕ) (untaken left_half : List ℕ) (surplus surplus' : End → ℕ → ℕ) → AreEven all start untaken left_half surplus
    → ((u v : ℕ) → has_pair untaken u v ≡ true → start' ≤ u) → ((e : End) (m : ℕ) → IsEvenAt all (has_pair untaken) (has_pair left_half) e m (surplus e m)
    → IsEvenAt all (has_pair untaken) (has_pair left_half) e m (surplus' e m)) → AreEven all start' untaken left_half surplus'
retold all start start' untaken left_half surplus surplus' x from told =
    record { from = from; apart = x.apart; untaken_within = x.untaken_within; left_half_within = x.left_half_within; even = λ e m. told e m (x.even e m) }

-- the surplus where a walk ends, since no pair is left there, is the one with which the next begins
settled : (all untaken left_half : ℕ → ℕ → Bool) (first_left : Bool) (start : ℕ) (end : End) (at : ℕ) → pairs_of_module untaken end at ≡ 0 → (e : End) (m : ℕ)
    → IsEvenAt all untaken left_half e m (walk_surplus first_left start end at e m) → IsEvenAt all untaken left_half e m
    (walk_surplus (not first_left) start Zero start e m)
settled all untaken left_half true start Zero at none Zero m x = grind (arith, nat_tests)
settled all untaken left_half first_left start end at none e m x = grind (arith, nat_tests)

module _ (all : ℕ → ℕ → Bool) (untaken left_half : List ℕ) (start : ℕ) where
  -- before the first walk
  pub begun : AreEven all start untaken left_half no_surplus → AreEven all start untaken left_half (walk_surplus true start Zero start)
  begun x = retold all start start untaken left_half _ _ x x.from (λ e m h. grind arith)

  -- between two walks
  pub ended : (first_left : Bool) (end : End) (at : ℕ) → AreEven all start untaken left_half (walk_surplus first_left start end at)
      → pairs_of_module (has_pair untaken) end at ≡ 0 → AreEven all start untaken left_half (walk_surplus (not first_left) start Zero start)
  ended first_left end at x none = retold all start start untaken left_half _ _ x x.from
      (settled all (has_pair untaken) (has_pair left_half) first_left start end at none)

  -- after the last walk
  stopped : AreEven all start untaken left_half (walk_surplus true start Zero start) → get_or untaken start 0 ≡ 0 → AreEven all (start + 1) untaken left_half
      no_surplus
  stopped x none = retold all start (start + 1) untaken left_half _ _ x (λ u v is. grind (arith, x.from u v is, empty_mask untaken start v none))
      (λ e m h. grind arith)

  pub finished : (first_left : Bool) → AreEven all start untaken left_half (walk_surplus first_left start Zero start) → get_or untaken start 0 ≡ 0
      → AreEven all (start + 1) untaken left_half no_surplus
  finished true x none = stopped x none
  finished false x none = stopped (ended false Zero start x (none_zero untaken start none)) none

-- ---- all walks

pub none_taken : (all : List ℕ) (n : ℕ) → AreEven (has_pair all) 0 all (replicate n 0) no_surplus
none_taken all n = record {
  from = λ u v _. omega arith;
  apart = λ u v _. no_pair n u v;
  untaken_within = λ u v is. is;
  left_half_within = λ u v is. absurd (true≢false (sym is ∙ no_pair n u v));
  even = λ e m. inl (omega (arith, none_at (has_pair (replicate n 0)) e m (λ u v _. no_pair n u v)));
}

pub halved : (all untaken left_half : List ℕ) (start : ℕ) → length all ≤ start → AreEven (has_pair all) start untaken left_half no_surplus
    → AreHalved (has_pair all) (has_pair left_half)
halved all untaken left_half start all_done x =
    let none : (u v : ℕ) → has_pair untaken u v ≡ false = λ u v. false_from_ne_true (has_pair untaken u v)
    (λ is. true≢false (sym (x.untaken_within u v is) ∙ empty_mask all u v (get_or_past all u 0 (omega (arith, x.from u v is))))) in
    record {
      within = x.left_half_within;
      least = λ e m. grind (arith, x.even e m, none_at (has_pair untaken) e m (λ u v _. none u v));
      most = λ e m. grind (arith, x.even e m, none_at (has_pair untaken) e m (λ u v _. none u v));
    }
