-- One line after the other, and the whole text of a list.
use Rattle.std.proofs.Common.{◌<◌, ◌≡◌, ℕ, List, [], ◌∷◌, ◌++◌, length, Option, None, Some, IfSome, Bor, refl, sym, ap, ◌∙◌, append_assoc, arith}
use Rattle.std.specs.List.{flat_map}
use Rattle.std.proofs.lemmas.List.{append-nil, flat_map_more, length_push}
use Rattle.std.proofs.lemmas.List.Elements.{All-push}
use Rattle.batch.specs.declared.fault.BatchFault.{BatchFault}
use Rattle.batch.specs.ShapeView.{ShapeView}
use Rattle.batch.specs.Numbers.{IsNumber, number, line_feed}
use Rattle.batch.specs.Lists.{Form, head, line, IsWithin, Denotes}
use Rattle.batch.specs.ListFaults.{IsHeaded, IsLineFault, IsGoodUpTo, IsFirstFault, at_line, NeedsMemory}

-- the first line, after what stands before its number
pub headed : {Thing : Type 0} (form : Form Thing) (text heading rest : List ℕ) (r : Option (ℕ × Bor (List ℕ))) → heading ≡ form.heading → text ≡ heading ++ rest
    → IfSome r (λ x. IsNumber x.0 × (rest ≡ number x.0 line_feed ++ x.1.now)) → IfSome r (λ x. IsHeaded form text x.0 x.1.now)
headed form text heading rest None same parts read = tt
headed form text heading rest (Some x) same parts read = (
  read.0,
  parts ∙ ap (λ (y : List ℕ). y ++ rest) same ∙ ap (λ (y : List ℕ). form.heading ++ y) read.1
      ∙ sym (append_assoc form.heading (number x.0 line_feed) x.1.now),
)

module _ {Thing : Type 0} (form : Form Thing) (shape : ShapeView) where
  pub one_more : (text : List ℕ) (n t : ℕ) (xs : List Thing) (rest : List ℕ) (x : Thing) (after : List ℕ) (all : List Thing)
      → IsGoodUpTo form shape text n xs rest → length xs ≡ t → t < n → IsWithin form shape x × (rest ≡ line form x ++ after) → all ≡ xs ++ x ∷ []
      → IsGoodUpTo form shape text n all after
  one_more text n t xs rest x after all so_far counted less next pushed = record {
    allowed = so_far.allowed;
    at_most = rw (pushed, length_push) (omega arith);
    within = rw pushed (All-push (IsWithin form shape) xs x so_far.within next.0);
    spelled =
        so_far.spelled
        ∙ ap (λ (y : List ℕ). head form n ++ y)
        (ap (λ (y : List ℕ). flat_map (line form) xs ++ y) next.1 ∙ sym (append_assoc (flat_map (line form) xs) (line form x) after)
        ∙ ap (λ (y : List ℕ). y ++ after) (flat_map_more (line form) [] xs x ∙ ap (flat_map (line form)) (sym pushed)));
  }

  -- want of memory comes only where the list has to grow
  pub grown : (text : List ℕ) (n t : ℕ) (xs : List Thing) (rest : List ℕ) (x : Thing) (after : List ℕ) → IsGoodUpTo form shape text n xs rest → length xs ≡ t
      → t < n → IsWithin form shape x × (rest ≡ line form x ++ after) → NeedsMemory form shape text
  grown text n t xs rest x after so_far counted less next = record {
    n = n;
    xs = xs ++ x ∷ [];
    rest = after;
    some = rw length_push (omega arith);
    good = one_more text n t xs rest x after (xs ++ x ∷ []) so_far counted less next refl;
  }

  pub stopped : (text : List ℕ) (n t : ℕ) (xs : List Thing) (rest : List ℕ) (fault : BatchFault) → IsGoodUpTo form shape text n xs rest → length xs ≡ t → t < n
      → IsLineFault form shape t rest fault → IsFirstFault form shape text fault
  stopped text n t xs rest fault good counted less stops = at_line n xs rest good (rw counted less) (rw counted stops)

  -- all lines, and nothing after them
  pub whole : (text : List ℕ) (n : ℕ) (xs : List Thing) (rest : List ℕ) → IsGoodUpTo form shape text n xs rest → length xs ≡ n → rest ≡ []
      → Denotes form shape text xs
  whole text n xs rest good counted none = record {
    spelled = good.spelled ∙ ap (λ (k : ℕ). head form k ++ (flat_map (line form) xs ++ rest)) (sym counted) ∙ ap (λ (y : List ℕ). head form (length xs) ++ y)
        (ap (λ (y : List ℕ). flat_map (line form) xs ++ y) none ∙ append-nil (flat_map (line form) xs));
    few = rw counted good.allowed;
    within = good.within;
  }
