-- The transfers that do moves, started by the ends in the left half: what they move, and how often
-- they use each link.
use Rattle.std.proofs.Common.{◌≡◌, ℕ, suc, ◌+◌, ◌*◌, ◌<◌, ◌≤◌, ◌==◌, ◌&&◌, cond, List, [], ◌∷◌, ◌++◌, length, map, take, get_or, All, Bool, true, false, not, refl, sym, ap, subst, ◌∙◌, arith, add-one}
use Rattle.std.proofs.Math.Seq.{take-length}
use Rattle.std.proofs.lemmas.Bool.{true≢false, false≢true}
use Rattle.std.proofs.lemmas.List.{length-map, map_push, take_more}
use Rattle.std.proofs.lemmas.List.Elements.{All-cons, All-head, All-nil, All-tail}
use Rattle.std.proofs.lemmas.List.Sums.{sum_by-cons}
use Rattle.batch.specs.declared.transfer.Kind.{Kind}
use Rattle.batch.specs.declared.transfer.Kind.TheVariants.{Push, Pull}
use Rattle.batch.specs.declared.transfer.Transfer.{Transfer}
use Rattle.batch.specs.Batches.{IsBatch}
use Rattle.batch.specs.ShapeView.{widest}
use Rattle.batch.specs.Text as text
use Rattle.link_graph.specs.declared.link.End.{End}
use Rattle.link_graph.specs.declared.link.End.TheVariants.{Zero, Three}
use Rattle.link_graph.specs.Counts.{uses}
use Rattle.link_graph.proofs.Users.{use_of, uses_push}
use Rattle.euler_split.specs.Pairs.{passing}
use Rattle.move_directions.specs.declared.moves.Move.{Move}
use Rattle.move_directions.specs.Directions.{directed, link_of, AreDirected, HalvesEnds}
use Rattle.move_directions.specs.Ends.{module_of_end, HalvesModules}
use Rattle.move_directions.specs.Moves.{end_count, ends_of, half_ends, move_of, Directs, IsMoveList}
use Rattle.move_directions.specs.Text.{IsWithin}
use Rattle.move_directions.proofs.EndPairs.{source_module, destination_module}

-- ---- one transfer

abbrev made : Kind → ℕ → ℕ → ℕ → ℕ → Transfer
made k i o r f = record { kind = k; initiator = i; own_block = o; responder = r; far_block = f }

does : (x : Move) (b : Bool) → move_of (directed x b) ≡ x
does x true = refl
does x false = refl

-- the end that starts it is at link 0, and the other one at link 3
start_used : (b c : Bool) (x : Move) (m : ℕ) → b ≡ not c → use_of (link_of Zero m) (directed x b) ≡ cond (b && x.source.«module» == m) 1 0 + cond
    (c && x.destination.«module» == m) 1 0
start_used true true x m e = absurd (true≢false e)
start_used true false x m e = omega arith
start_used false true x m e = omega arith
start_used false false x m e = absurd (false≢true e)

answer_used : (b c : Bool) (x : Move) (m : ℕ) → b ≡ not c → use_of (link_of Three m) (directed x b) ≡ cond (not b && x.source.«module» == m) 1 0 + cond
    (not c && x.destination.«module» == m) 1 0
answer_used true true x m e = absurd (true≢false e)
answer_used true false x m e = omega arith
answer_used false true x m e = omega arith
answer_used false false x m e = absurd (false≢true e)

-- ---- one transfer more

passing_two : (module_of : ℕ → ℕ) (m n : ℕ) (p : ℕ → Bool) → passing module_of m (2 * (n + 1)) p
    ≡ passing module_of m (2 * n) p + (cond (p (2 * n) && module_of (2 * n) == m) 1 0 + cond (p (2 * n + 1) && module_of (2 * n + 1) == m) 1 0)
passing_two module_of m n p =
    let two : 2 * (n + 1) ≡ suc (suc (2 * n)) = omega arith in
    rw (two, add-one) (omega arith)

module _ (moves : List Move) (left : ℕ → Bool) (n : ℕ) (ts : List Transfer) (x : Move) (within : n < length moves)
    (opposed : left (2 * n) ≡ not (left (2 * n + 1))) (so_far : AreDirected moves left n ts) where
  abbrev next : Move
  next = get_or moves n x

  abbrev pair_of : (ℕ → Bool) → ℕ → ℕ
  pair_of p m = cond (p (2 * n) && module_of_end moves (2 * n) == m) 1 0 + cond (p (2 * n + 1) && module_of_end moves (2 * n + 1) == m) 1 0

  abbrev at : (ℕ → Bool) → ℕ → ℕ → ℕ → ℕ
  at p m a d = cond (p (2 * n) && a == m) 1 0 + cond (p (2 * n + 1) && d == m) 1 0

  pair_is : (p : ℕ → Bool) (m : ℕ) → pair_of p m ≡ at p m next.source.«module» next.destination.«module»
  pair_is p m =
      ap (λ (a : ℕ). at p m a (module_of_end moves (2 * n + 1))) (source_module moves n (2 * n) x within refl)
      ∙ ap (λ (d : ℕ). at p m next.source.«module» d) (destination_module moves n (2 * n + 1) x within refl)

  pub one_directed : AreDirected moves left (n + 1) (ts ++ directed next (left (2 * n)) ∷ [])
  one_directed =
      let y : Transfer = directed next (left (2 * n)) in
      record {
        done = map_push move_of ts y ∙ ap (λ (xs : List Move). xs ++ move_of y ∷ []) so_far.done ∙ ap (λ (z : Move). take n moves ++ z ∷ [])
            (does next (left (2 * n))) ∙ sym (take_more moves n x within);
        starting = λ m. omega (
          arith,
          uses_push ts y (link_of Zero m),
          so_far.starting m,
          passing_two (module_of_end moves) m n left,
          pair_is left m,
          start_used (left (2 * n)) (left (2 * n + 1)) next m opposed,
        );
        answering = λ m. omega (
          arith,
          uses_push ts y (link_of Three m),
          so_far.answering m,
          passing_two (module_of_end moves) m n (λ i. not (left i)),
          pair_is (λ i. not (left i)) m,
          answer_used (left (2 * n)) (left (2 * n + 1)) next m opposed,
        );
      }

-- ---- all of them

pub all_done : (moves : List Move) (left : ℕ → Bool) (batch : List Transfer) → AreDirected moves left (length moves) batch → Directs moves batch
all_done moves left batch d = d.done ∙ take-length moves

two_ends : (k : Kind) (i o r f m : ℕ) → ends_of m (move_of (made k i o r f)) ≡ use_of (link_of Zero m) (made k i o r f) + use_of (link_of Three m)
    (made k i o r f)
two_ends Push i o r f m = refl
two_ends Pull i o r f m = omega arith

counted : (batch : List Transfer) (m : ℕ) → end_count (map move_of batch) m ≡ uses batch (link_of Zero m) + uses batch (link_of Three m)
counted [] m = refl
counted (t ∷ ts) m =
    omega (
      arith,
      sum_by-cons (λ x. ends_of m x) (move_of t) (map move_of ts),
      sum_by-cons (use_of (link_of Zero m)) t ts,
      sum_by-cons (use_of (link_of Three m)) t ts,
      two_ends t.kind t.initiator t.own_block t.responder t.far_block m,
      counted ts m,
    )

-- the ends at a module are the uses of its two links
pub ends_counted : (moves : List Move) (batch : List Transfer) (m : ℕ) → Directs moves batch → end_count moves m ≡ uses batch (link_of Zero m) + uses batch
    (link_of Three m)
ends_counted moves batch m done = ap (λ (xs : List Move). end_count xs m) (sym done) ∙ counted batch m

pub halved : (moves : List Move) (left : ℕ → Bool) (batch : List Transfer) → HalvesModules moves left → AreDirected moves left (length moves) batch
    → HalvesEnds moves batch
halved moves left batch halves d link = half_at link.end link.«module»
  where
    half_at : (e : End) (m : ℕ) → uses batch (link_of e m) ≤ half_ends moves m
    half_at Zero m = omega (arith, ends_counted moves batch m (all_done moves left batch d), d.starting m, d.answering m, halves.even m)
    half_at Three m = omega (arith, ends_counted moves batch m (all_done moves left batch d), d.starting m, d.answering m, halves.even m)

-- ---- they are a batch

one_within : (k : Kind) (i o r f : ℕ) → IsWithin (move_of (made k i o r f)) → text.IsWithin widest (made k i o r f)
one_within Push i o r f w = w
one_within Pull i o r f w = ((w.0.1, w.0.0), (w.1.1, w.1.0))

all_within : (batch : List Transfer) → All IsWithin (map move_of batch) → All (text.IsWithin widest) batch
all_within [] all = All-nil (text.IsWithin widest)
all_within (t ∷ ts) all =
    All-cons (text.IsWithin widest) t ts
    (one_within t.kind t.initiator t.own_block t.responder t.far_block (All-head IsWithin (move_of t) (map move_of ts) all))
    (all_within ts (All-tail IsWithin (move_of t) (map move_of ts) all))

pub batch_is : (moves : List Move) (batch : List Transfer) → IsMoveList moves → Directs moves batch → IsBatch batch
batch_is moves batch list done = record {
  few = omega (arith, ap length done, length-map batch move_of, list.few);
  within = all_within batch (subst (All IsWithin) (sym done) list.within);
}
