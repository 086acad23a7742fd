-- A part of the bays that is worked on, and put back where it stands.
use Rattle.std.proofs.Common.{◌≡◌, ◌<◌, ◌≤◌, ◌+◌, ◌-◌, ◌⊎◌, inl, inr, ℕ, zero, suc, List, [], ◌∷◌, ◌++◌, length, take, drop, get_or, refl, sym, ap, ap₂, ◌∙◌, arith, subst, length-append}
use Rattle.std.specs.Prelude.{slice_index}
use Rattle.std.proofs.lemmas.Bool.{cases_lt}
use Rattle.std.proofs.lemmas.List.{get_or-take, get_or-drop, get_or_append_left, get_or-append_right, get_or-map, length-take-le, length-drop, length-map}
use Rattle.batch.specs.declared.transfer.Transfer.{Transfer}
use Rattle.batch.specs.declared.transfer.Place.{Place}
use Rattle.batch.specs.Places.{source_of}
use Rattle.batch.specs.Overlap.{transfer_at, source_at}
use Rattle.module_memory.specs.Core.{setting_of}
use Rattle.module_memory.specs.Lending.{RestView, found_in, BlockAt, bay_in}
use Rattle.module_memory.specs.Bays.{AreFilled}
use Rattle.module_memory.proofs.CoreLaw.{transfer_at-setting_of}
use Rattle.setting_runner.specs.Moves.{IsMovable, AreMovable, HasMoved, HaveMoved, none_sure}
use Rattle.setting_runner.specs.Runs.{words_of}

abbrev pub no_bay : BlockAt
no_bay = record { place = record { «module» = 0; block = 0 }; words = [] }

abbrev no_words : ℕ × ℕ
no_words = (0, 0)

HaveMoved-at : (sure : ℕ → Type 0) (rest : RestView) (batch : List Transfer) (ts : List ℕ) (os ns : List BlockAt) (ms : List (ℕ × ℕ)) (i : ℕ)
    → HaveMoved sure rest batch ts os ns ms → i < length ts → HasMoved sure rest batch (get_or ts i 0) (get_or os i no_bay) (get_or ns i no_bay)
    (get_or ms i no_words)
HaveMoved-at sure rest batch [] os ns ms i a h = absurd (omega arith)
HaveMoved-at sure rest batch (t ∷ ts) (o ∷ os) (n ∷ ns) (m ∷ ms) zero a h = a.0
HaveMoved-at sure rest batch (t ∷ ts) (o ∷ os) (n ∷ ns) (m ∷ ms) (suc i) a h = HaveMoved-at sure rest batch ts os ns ms i a.1 (omega arith)
HaveMoved-at sure rest batch (t ∷ ts) [] ns ms i a h = absurd a
HaveMoved-at sure rest batch (t ∷ ts) (o ∷ os) [] ms i a h = absurd a
HaveMoved-at sure rest batch (t ∷ ts) (o ∷ os) (n ∷ ns) [] i a h = absurd a

HaveMoved-lengths : (sure : ℕ → Type 0) (rest : RestView) (batch : List Transfer) (ts : List ℕ) (os ns : List BlockAt) (ms : List (ℕ × ℕ))
    → HaveMoved sure rest batch ts os ns ms → (length ns ≡ length ts) × (length ms ≡ length ts)
HaveMoved-lengths sure rest batch [] [] [] [] a = (refl, refl)
HaveMoved-lengths sure rest batch (t ∷ ts) (o ∷ os) (n ∷ ns) (m ∷ ms) a = let r = HaveMoved-lengths sure rest batch ts os ns ms a.1 in (ap suc r.0, ap suc r.1)
HaveMoved-lengths sure rest batch [] [] [] (m ∷ ms) a = absurd a
HaveMoved-lengths sure rest batch [] [] (n ∷ ns) ms a = absurd a
HaveMoved-lengths sure rest batch [] (o ∷ os) ns ms a = absurd a
HaveMoved-lengths sure rest batch (t ∷ ts) [] ns ms a = absurd a
HaveMoved-lengths sure rest batch (t ∷ ts) (o ∷ os) [] ms a = absurd a
HaveMoved-lengths sure rest batch (t ∷ ts) (o ∷ os) (n ∷ ns) [] a = absurd a

pub movable_from : (rest : RestView) (batch : List Transfer) (ts : List ℕ) (bays : List BlockAt) → length ts ≡ length bays
    → ((i : ℕ) → i < length ts → IsMovable rest batch (get_or ts i 0) (get_or bays i no_bay)) → AreMovable rest batch ts bays
movable_from rest batch [] [] e f = tt
movable_from rest batch [] (b ∷ bs) e f = absurd (omega arith)
movable_from rest batch (t ∷ ts) [] e f = absurd (omega arith)
movable_from rest batch (t ∷ ts) (b ∷ bs) e f = (f 0 (omega arith), movable_from rest batch ts bs (omega arith) (λ i h. f (suc i) (omega arith)))

-- a bay of the part, as it stands among all bays
pub part_at : (bays : List BlockAt) (a n i : ℕ) → i < n → get_or (take n (drop a bays)) i no_bay ≡ bay_in bays (a + i)
part_at bays a n i h = get_or-take n (drop a bays) i no_bay h ∙ get_or-drop a bays i no_bay

pub length_part : (bays : List BlockAt) (a n : ℕ) → a + n ≤ length bays → length (take n (drop a bays)) ≡ n
length_part bays a n h = length-take-le n (drop a bays) (omega (arith, length-drop a bays))

abbrev put_back : List BlockAt → List BlockAt → ℕ → ℕ → List BlockAt
put_back bays part a n = take a bays ++ (part ++ drop n (drop a bays))

-- where a bay stands after the part was put back
record IsPut (bays part : List BlockAt) (a n : ℕ) : Type 0 where
  size : length (put_back bays part a n) ≡ length bays
  inside : (i : ℕ) → i < n → bay_in (put_back bays part a n) (a + i) ≡ get_or part i no_bay
  outside : (i : ℕ) → (i < a) ⊎ (a + n ≤ i) → bay_in (put_back bays part a n) i ≡ bay_in bays i

is_put : (bays part : List BlockAt) (a n : ℕ) → a + n ≤ length bays → length part ≡ n → IsPut bays part a n
is_put bays part a n within long =
    let tail = drop n (drop a bays) in
    let low : length (take a bays) ≡ a = length-take-le a bays (omega arith) in
    record {
      size = omega (arith, length-append (take a bays) (part ++ tail), length-append part tail, low, long, length-drop n (drop a bays), length-drop a bays);
      inside = λ i h.
          get_or-append_right (take a bays) (part ++ tail) a (a + i) no_bay low (omega arith)
          ∙ ap (λ (x : ℕ). get_or (part ++ tail) x no_bay) (omega arith)
          ∙ get_or_append_left part tail no_bay i (omega arith);
      outside = λ i side. elim side [
        | inl h ↦ get_or_append_left (take a bays) (part ++ tail) no_bay i (omega arith) ∙ get_or-take a bays i no_bay h
        | inr h ↦
            get_or-append_right (take a bays) (part ++ tail) a i no_bay low (omega arith)
            ∙ get_or-append_right part tail n (i - a) no_bay long (omega arith)
            ∙ get_or-drop n (drop a bays) (i - a - n) no_bay
            ∙ get_or-drop a bays (n + (i - a - n)) no_bay
            ∙ ap (λ (x : ℕ). bay_in bays x) (omega arith)
      ];
    }

abbrev mixed : ℕ → List ℕ → List ℕ → List ℕ
mixed c from old = take c from ++ drop c old

-- what the workers of a part leave in all bays
pub are_filled : (rest : RestView) (batch : List Transfer) (bays part : List BlockAt) (ts : List ℕ) (ms : List (ℕ × ℕ)) (a n : ℕ) → n ≡ length ts
    → a + n ≤ length bays → HaveMoved none_sure rest batch ts (take n (drop a bays)) part ms
    → AreFilled (found_in rest) bays (take a bays ++ (part ++ drop n (drop a bays))) a (setting_of batch ts) (slice_index (words_of ms))
are_filled rest batch bays part ts ms a n count within moves =
    let new = put_back bays part a n in
    let lengths = HaveMoved-lengths none_sure rest batch ts (take n (drop a bays)) part ms moves in
    let put = is_put bays part a n within (omega (arith, lengths.0)) in
    let short = length-map ts (transfer_at batch) in
    let one = λ (i : ℕ) (h : i < length ts). HaveMoved-at none_sure rest batch ts (take n (drop a bays)) part ms i moves h in
    let place_in_part = λ (i : ℕ) (h : i < n).
    ap (λ (b : BlockAt). b.place) (put.inside i h) ∙ (one i (omega arith)).place ∙ ap (λ (b : BlockAt). b.place) (part_at bays a n i h) in
    record {
      places = record {
        same_length = put.size;
        same_places = λ k h. elim (cases_lt k a) [
          | inl low ↦ ap (λ (b : BlockAt). b.place) (put.outside k (inl low))
          | inr high ↦ elim (cases_lt k (a + n)) [
            | inl mid ↦ subst (λ (x : ℕ). (bay_in new x).place ≡ (bay_in bays x).place) (omega arith) (place_in_part (k - a) (omega arith))
            | inr past ↦ ap (λ (b : BlockAt). b.place) (put.outside k (inr past))
          ]
        ];
      };
      filled = λ i h.
          let below : i < length ts = omega arith in
          let here : i < n = omega arith in
          let c : slice_index (words_of ms) i ≡ (get_or ms i no_words).1 = get_or-map (λ (m : ℕ × ℕ). m.1) ms i no_words 0 (omega (arith, lengths.1)) in
          let source : source_at (setting_of batch ts) i ≡ source_at batch (get_or ts i 0) = ap source_of (transfer_at-setting_of batch ts i below) in
          ap (λ (b : BlockAt). b.words) (put.inside i here) ∙ (one i below).words
          ∙ ap₂ (λ (x : ℕ) (p : Place). mixed x (found_in rest p) (get_or (take n (drop a bays)) i no_bay).words) (sym c) (sym source)
          ∙ ap (λ (b : BlockAt). mixed (slice_index (words_of ms) i) (found_in rest (source_at (setting_of batch ts) i)) b.words) (part_at bays a n i here);
      others = λ k h side. ap (λ (b : BlockAt). b.words) (put.outside k (elim side [ inl low ↦ inl low | inr past ↦ inr (omega arith) ]));
    }
