-- The two ends of each move: their modules, and their partners.
use Rattle.std.proofs.Common.{◌≡◌, ◌≢◌, ℕ, zero, suc, ◌+◌, ◌*◌, ◌<◌, List, [], ◌∷◌, length, get_or, set, Option, Some, None, Bool, inl, inr, refl, sym, ap, subst, ◌∙◌, arith, add-one, get_or-set_same}
use Rattle.std.proofs.Common.{get_or-set_other, length-set}
use Rattle.std.proofs.lemmas.Bool.{cases_eq, cases_lt}
use Rattle.std.proofs.lemmas.Option.{same_Some, none-some}
use Rattle.link_graph.specs.declared.link.End.TheVariants.{Zero, Three}
use Rattle.euler_split.specs.Deals.{in_left}
use Rattle.euler_split.specs.Pairs.{ArePartners, AreBalanced, HasCome}
use Rattle.euler_split.specs.Walks.{IsHalved}
use Rattle.euler_split.proofs.Dealt.{left_tells}
use Rattle.euler_split.proofs.Partners.{ArePaired, come_paired}
use Rattle.euler_split.proofs.Turns.{pair_in}
use Rattle.move_directions.specs.declared.moves.Move.{Move}
use Rattle.move_directions.specs.Ends.{module_of_end, other_of, HalvesModules, AreOtherEnds}
use Rattle.move_directions.specs.Moves.{IsMoveList}

-- ---- the modules of a move's ends

pub source_module : (xs : List Move) (t i : ℕ) (x : Move) → t < length xs → i ≡ 2 * t → module_of_end xs i ≡ (get_or xs t x).source.«module»
source_module [] t i x within is = absurd (omega arith)
source_module (y ∷ ys) zero zero x within is = refl
source_module (y ∷ ys) zero (suc i) x within is = absurd (omega arith)
source_module (y ∷ ys) (suc t) zero x within is = absurd (omega arith)
source_module (y ∷ ys) (suc t) (suc zero) x within is = absurd (omega arith)
source_module (y ∷ ys) (suc t) (suc (suc i)) x within is = source_module ys t i x (omega arith) (omega arith)

pub destination_module : (xs : List Move) (t i : ℕ) (x : Move) → t < length xs → i ≡ 2 * t + 1 → module_of_end xs i ≡ (get_or xs t x).destination.«module»
destination_module [] t i x within is = absurd (omega arith)
destination_module (y ∷ ys) zero zero x within is = absurd (omega arith)
destination_module (y ∷ ys) zero (suc zero) x within is = refl
destination_module (y ∷ ys) zero (suc (suc i)) x within is = absurd (omega arith)
destination_module (y ∷ ys) (suc t) zero x within is = absurd (omega arith)
destination_module (y ∷ ys) (suc t) (suc zero) x within is = absurd (omega arith)
destination_module (y ∷ ys) (suc t) (suc (suc i)) x within is = destination_module ys t i x (omega arith) (omega arith)

-- ---- the other end of a move

other_other : (i : ℕ) → other_of (other_of i) ≡ i
other_other zero = refl
other_other (suc zero) = refl
other_other (suc (suc i)) = ap (λ (k : ℕ). suc (suc k)) (other_other i)

other_apart : (i : ℕ) → i ≢ other_of i
other_apart zero same = omega arith
other_apart (suc zero) same = omega arith
other_apart (suc (suc i)) same = other_apart i (omega arith)

other_within : (n i : ℕ) → i < 2 * n → other_of i < 2 * n
other_within zero i lt = absurd (omega arith)
other_within (suc n) zero lt = omega arith
other_within (suc n) (suc zero) lt = omega arith
other_within (suc n) (suc (suc i)) lt = omega (arith, other_within n i (omega arith))

other_of_source : (t i : ℕ) → i ≡ 2 * t → other_of i ≡ 2 * t + 1
other_of_source zero zero is = omega arith
other_of_source zero (suc i) is = absurd (omega arith)
other_of_source (suc t) zero is = absurd (omega arith)
other_of_source (suc t) (suc zero) is = absurd (omega arith)
other_of_source (suc t) (suc (suc i)) is = omega (arith, other_of_source t i (omega arith))

other_of_destination : (t i : ℕ) → i ≡ 2 * t + 1 → other_of i ≡ 2 * t
other_of_destination zero zero is = absurd (omega arith)
other_of_destination zero (suc zero) is = omega arith
other_of_destination zero (suc (suc i)) is = absurd (omega arith)
other_of_destination (suc t) zero is = absurd (omega arith)
other_of_destination (suc t) (suc zero) is = absurd (omega arith)
other_of_destination (suc t) (suc (suc i)) is = omega (arith, other_of_destination t i (omega arith))

-- ---- the two ends of each move as partners

pub none_joined : (ps : List (Option ℕ)) → ((i : ℕ) → get_or ps i None ≡ None) → AreOtherEnds 0 ps
none_joined ps none = record { joined = λ i lt. absurd (omega arith); fresh = λ i _. none i }

pub one_joined : (t : ℕ) (ps : List (Option ℕ)) → 2 * t + 1 < length ps → AreOtherEnds (2 * t) ps
    → AreOtherEnds (2 * (t + 1)) (set (set ps (2 * t) (Some (2 * t + 1))) (2 * t + 1) (Some (2 * t)))
one_joined t ps within so_far =
    let a : ℕ = 2 * t in
    let b : ℕ = 2 * t + 1 in
    let first : List (Option ℕ) = set ps a (Some b) in
    let now : List (Option ℕ) = set first b (Some a) in
    let here : get_or now b None ≡ Some a = get_or-set_same first b (Some a) None (rw length-set within) in
    record {
      joined = λ i lt. elim (cases_eq i b) [
        | inl is ↦ ap (λ (k : ℕ). get_or now k None) is ∙ (here ∙ ap Some (sym (other_of_destination t i is)))
        | inr behind ↦ get_or-set_other first b i (Some a) None behind ∙ elim (cases_eq i a) [
          | inl is ↦ ap (λ (k : ℕ). get_or first k None) is ∙ (get_or-set_same ps a (Some b) None (omega arith) ∙ ap Some (sym (other_of_source t i is)))
          | inr earlier ↦ get_or-set_other ps a i (Some b) None earlier ∙ so_far.joined i (omega arith)
        ]
      ];
      fresh = λ i past. get_or-set_other first b i (Some a) None (λ e. omega arith)
          ∙ (get_or-set_other ps a i (Some b) None (λ e. omega arith) ∙ so_far.fresh i (omega arith));
    }

pub joined_pairs : (n : ℕ) (ps : List (Option ℕ)) → AreOtherEnds (2 * n) ps → ArePartners ps
joined_pairs n ps j =
    let partner_is : (u v : ℕ) → get_or ps u None ≡ Some v → (u < 2 * n) × (v ≡ other_of u) = λ u v at. elim (cases_lt u (2 * n)) [
      | inl lt ↦ (lt, same_Some v (other_of u) (sym at ∙ j.joined u lt))
      | inr past ↦ absurd (none-some v (sym (j.fresh u past) ∙ at))
    ] in
    record {
      symmetric = λ u v at. let p = partner_is u v at in ap (λ (k : ℕ). get_or ps k None) p.1
          ∙ (j.joined (other_of u) (other_within n u p.0) ∙ ap Some (other_other u));
      apart = λ u v at same. other_apart u (same ∙ (partner_is u v at).1);
    }

-- ---- the ends of one more move come to their modules

module _ (xs : List Move) (all : IsMoveList xs) (t : ℕ) (x : Move) (within : t < length xs) (ws ps : List (Option ℕ))
    (so_far : ArePaired (module_of_end xs) (2 * length xs) (2 * t) ws ps) (ws' ps' : List (Option ℕ))
    (source : HasCome (get_or xs t x).source.«module» (2 * t) ws ps ws' ps') where
  pub source_paired : ArePaired (module_of_end xs) (2 * length xs) (2 * t + 1) ws' ps'
  source_paired =
      rw add-one (come_paired (module_of_end xs) (2 * length xs) (2 * t) ws ps so_far (omega arith) (get_or xs t x).source.«module» (all.within t x within).0.0
      (sym (source_module xs t (2 * t) x within refl)) ws' ps' source)

  pub both_paired : (now partners : List (Option ℕ)) → HasCome (get_or xs t x).destination.«module» (2 * t + 1) ws' ps' now partners
      → ArePaired (module_of_end xs) (2 * length xs) (2 * (t + 1)) now partners
  both_paired now partners destination =
      let ends : suc (2 * t + 1) ≡ 2 * (t + 1) = omega arith in
      let paired = come_paired (module_of_end xs) (2 * length xs) (2 * t + 1) ws' ps' source_paired (omega arith) (get_or xs t x).destination.«module»
      (all.within t x within).0.1 (sym (destination_module xs t (2 * t + 1) x within refl)) now partners destination in
      subst (λ (i : ℕ). ArePaired (module_of_end xs) (2 * length xs) i now partners) ends paired

-- ---- halves of the ends

pub halves_are : (xs : List Move) (zs ts : List (Option ℕ)) (h : List (Option Bool)) → AreBalanced (module_of_end xs) (2 * length xs) zs
    → AreOtherEnds (2 * length xs) ts → IsHalved zs ts (length zs) h → HalvesModules xs (in_left h)
halves_are xs zs ts h balanced joined halved = record {
  opposed = λ t lt. left_tells zs ts h Three halved (2 * t) (2 * t + 1) (joined.joined (2 * t) (omega arith) ∙ ap Some (other_of_source t (2 * t) refl))
      (omega (arith, balanced.sized));
  even = balanced.even (in_left h) (λ u v at. left_tells zs ts h Zero halved u v at (pair_in zs v u balanced.pairs (balanced.pairs.symmetric u v at)));
}
