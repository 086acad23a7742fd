-- Bytes cut at the first place of a byte, and a text cut into its lines.
use Rattle.std.proofs.Common.{◌≡◌, ◌≢◌, ℕ, ◌+◌, ◌<◌, ◌≤◌, List, [], ◌∷◌, ◌++◌, length, get_or, take, drop, All, Option, Some, None, refl, sym, ap, ◌∙◌, append_assoc, arith, inl, inr}
use Rattle.std.specs.Prelude.{position, ◌==◌, unwrap_or}
use Rattle.std.proofs.lemmas.Bool.{cases_lt, eqb-true, eqb-false}
use Rattle.std.proofs.lemmas.List.{get_or-take, get_or_at, length-take, length-append, take_all, drop_all, drop_more, append-nil}
use Rattle.std.proofs.lemmas.List.Elements.{All-head, All-tail}
use Rattle.std.proofs.lemmas.List.Quantifiers.{position-Some}
use Rattle.batch.specs.Text.{line_feed}
use Rattle.link_graph.specs.ScheduleText.{text_of}
use Rattle.link_graph.specs.ScheduleFaults.{IsLine}
use Rattle.link_graph.proofs.Firsts.{none_passes}

-- this byte isn't among them
abbrev pub Lacks : ℕ → List ℕ → Type 0
Lacks e bytes = All (λ c. c ≢ e) bytes

-- nothing, or this byte first
abbrev pub Starts : ℕ → List ℕ → Type 0
Starts e bytes = get_or bytes 0 e ≡ e

-- two cuts at the first such byte are one
pub one_cut : (e : ℕ) (a b x y : List ℕ) → Lacks e a → Lacks e b → Starts e x → Starts e y → a ++ x ≡ b ++ y → (a ≡ b) × (x ≡ y)
one_cut e [] [] x y la lb sx sy same = (refl, same)
one_cut e [] (d ∷ b) x y la lb sx sy same = absurd (All-head (λ c. c ≢ e) d b lb (ap (λ (bs : List ℕ). get_or bs 0 e) (sym same) ∙ sx))
one_cut e (c ∷ a) [] x y la lb sx sy same = absurd (All-head (λ c. c ≢ e) c a la (ap (λ (bs : List ℕ). get_or bs 0 e) same ∙ sy))
one_cut e (c ∷ a) (d ∷ b) x y la lb sx sy same =
    let heads : c ≡ d = ap (λ (bs : List ℕ). get_or bs 0 e) same in
    let tails : a ++ x ≡ b ++ y = ap (drop 1) same in
    let rest = one_cut e a b x y (All-tail (λ c. c ≢ e) c a la) (All-tail (λ c. c ≢ e) d b lb) sx sy tails in
    (ap (λ (h : ℕ). h ∷ a) heads ∙ ap (λ (t : List ℕ). d ∷ t) rest.0, rest.1)

-- ---- where a byte stands first

pub lacks_from_none : (bytes : List ℕ) (e : ℕ) → position (λ b. b == e) bytes ≡ None → Lacks e bytes
lacks_from_none bytes e none = λ k d less same. eqb-false _ _ (none_passes (λ b. b == e) bytes k d none less) same

pub lacks_before : (bytes : List ℕ) (e i : ℕ) → position (λ b. b == e) bytes ≡ Some i → Lacks e (take i bytes)
lacks_before bytes e i some = λ k d less same.
    let before : k < i = omega (arith, length-take i bytes) in
    eqb-false _ _ ((position-Some (λ b. b == e) bytes i d some).2 k before) (sym (get_or-take i bytes k d before) ∙ same)

pub parts_at : (bytes : List ℕ) (e i : ℕ) → position (λ b. b == e) bytes ≡ Some i → drop i bytes ≡ e ∷ drop (i + 1) bytes
parts_at bytes e i some =
    let p = position-Some (λ b. b == e) bytes i 0 some in
    drop_more bytes i 0 p.0 ∙ ap (λ (x : ℕ). x ∷ drop (i + 1) bytes) (eqb-true _ _ p.1)

-- a first word, and the rest
pub record IsWordEnd (bytes : List ℕ) (e end : ℕ) : Type 0 where
  pub lacks : Lacks e (take end bytes)
  pub starts : Starts e (drop end bytes)
  pub within : end ≤ length bytes

word_end_at : (bytes : List ℕ) (e : ℕ) (o : Option ℕ) → position (λ b. b == e) bytes ≡ o → IsWordEnd bytes e (unwrap_or o (length bytes))
word_end_at bytes e (Some i) at = record {
  lacks = lacks_before bytes e i at;
  starts = ap (λ (bs : List ℕ). get_or bs 0 e) (parts_at bytes e i at);
  within = let less : i < length bytes = (position-Some (λ b. b == e) bytes i 0 at).0 in omega arith;
}
word_end_at bytes e None at = record {
  lacks = rw (take_all (length bytes) bytes (omega arith)) (lacks_from_none bytes e at);
  starts = ap (λ (bs : List ℕ). get_or bs 0 e) (drop_all (length bytes) bytes (omega arith));
  within = omega arith;
}

pub word_end : (bytes : List ℕ) (e : ℕ) → IsWordEnd bytes e (unwrap_or (position (λ b. b == e) bytes) (length bytes))
word_end bytes e = word_end_at bytes e (position (λ b. b == e) bytes) refl

-- ---- lines

-- bytes without a line feed hold no whole line
pub no_break : (text line after : List ℕ) → IsLine text → text ≡ line ++ line_feed ∷ after → ⊥
no_break text line after within same =
    within (length line) 0 (omega (arith, ap length same, length-append line (line_feed ∷ after))) (ap (λ (bs : List ℕ). get_or bs (length line) 0) same
    ∙ get_or_at line line_feed after 0 (length line) refl)

-- one first line, and one rest
pub one_line : (a b x y : List ℕ) → IsLine a → IsLine b → a ++ line_feed ∷ x ≡ b ++ line_feed ∷ y → (a ≡ b) × (x ≡ y)
one_line a b x y la lb same =
    let cut = one_cut line_feed a b (line_feed ∷ x) (line_feed ∷ y) la lb refl refl same in
    (cut.0, ap (drop 1) cut.1)

-- the text of a first line and more
pub first_of : (line : List ℕ) (lines : List (List ℕ)) (rest : List ℕ) → text_of (line ∷ lines) ++ rest ≡ line ++ line_feed ∷ (text_of lines ++ rest)
first_of line lines rest = append_assoc (line ++ line_feed ∷ []) (text_of lines) rest ∙ append_assoc line (line_feed ∷ []) (text_of lines ++ rest)

-- the longer list of lines goes on from the shorter
pub record GoesOn (before lines : List (List ℕ)) (rest other : List ℕ) : Type 0 where
  pub more : List (List ℕ)
  pub list : lines ≡ before ++ more
  pub text : rest ≡ text_of more ++ other

pub goes_on : (before lines : List (List ℕ)) (rest other : List ℕ) → All IsLine before → All IsLine lines → length before ≤ length lines → text_of before
    ++ rest ≡ text_of lines ++ other → GoesOn before lines rest other
goes_on [] lines rest other wb wl le same = record { more = lines; list = refl; text = same }
goes_on (b ∷ before) [] rest other wb wl le same = absurd (omega arith)
goes_on (b ∷ before) (l ∷ lines) rest other wb wl le same =
    let one = one_line b l (text_of before ++ rest) (text_of lines ++ other) (All-head IsLine b before wb) (All-head IsLine l lines wl)
    (sym (first_of b before rest) ∙ same ∙ first_of l lines other) in
    let rec = goes_on before lines rest other (All-tail IsLine b before wb) (All-tail IsLine l lines wl) (omega arith) one.1 in
    record { more = rec.more; list = ap (λ (x : List ℕ). x ∷ lines) (sym one.0) ∙ ap (λ (ls : List (List ℕ)). b ∷ ls) rec.list; text = rec.text }

-- so one text has one list of lines
pub one_list : (a b : List (List ℕ)) → All IsLine a → All IsLine b → text_of a ≡ text_of b → a ≡ b
one_list a b wa wb same = elim (cases_lt (length b) (length a)) [
  | inl less ↦ sym (no_more b a wb wa (omega arith) (sym same))
  | inr le ↦ no_more a b wa wb le same
]
  where
    empty : (more : List (List ℕ)) → text_of more ++ [] ≡ [] → more ≡ []
    empty [] e = refl
    empty (line ∷ lines) e = absurd (omega (arith, ap length (sym (first_of line lines []) ∙ e), length-append line (line_feed ∷ (text_of lines ++ []))))

    no_more : (x y : List (List ℕ)) → All IsLine x → All IsLine y → length x ≤ length y → text_of x ≡ text_of y → x ≡ y
    no_more x y wx wy le e =
        let g = goes_on x y [] [] wx wy le (append-nil (text_of x) ∙ e ∙ sym (append-nil (text_of y))) in
        sym (g.list ∙ ap (λ (ls : List (List ℕ)). x ++ ls) (empty g.more (sym g.text)) ∙ append-nil x)
