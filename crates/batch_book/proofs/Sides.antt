-- What waits and the record, as calls are noted, entries taken over, and marks made.
use Rattle.std.proofs.Common.{◌≡◌, ℕ, zero, suc, ◌+◌, ◌-◌, ◌≤◌, Bool, true, false, List, [], ◌∷◌, ◌++◌, length, take, nat_eq, cond, if◌then◌else◌, Option, Some, None, refl, sym, ap, ◌∙◌, subst}
use Rattle.std.proofs.Common.{append-nil, append_assoc, length-append, arith}
use Rattle.std.proofs.lemmas.Bool.{eq-eqb, eqb-true}
use Rattle.batch_book.specs.declared.call.Call.{Call}
use Rattle.batch_book.specs.declared.entry.Entry.{Entry}
use Rattle.batch_book.specs.declared.limits.TheConstants.{BOOK_SIDE, RECORD_SIDE}
use Rattle.batch_book.specs.declared.reply.Reply.{Reply}
use Rattle.batch_book.specs.History.{IsPrefix, entry}
use Rattle.std.specs.Prelude.{is_none}
use Rattle.batch_book.specs.Recording.{Noted, made_by, made_in, mark, marks, note, side_note, marked_in}
use Rattle.batch_book.specs.Seats.{own}
use Rattle.batch_book.specs.Places.{AreMarkedUpTo, are_placed, are_up_to, last_lists, last_place, lists_or, notes_of, notes_to}
use Rattle.batch_book.specs.Sides.{side_lists, stood_in, taken_in}
use Rattle.batch_book.proofs.Fronts.{IsFront, front, starts, starts_same, starts_then}
use Rattle.batch_book.proofs.Noting.{made_append, own_append, told_mark, told_plain}
use Rattle.batch_book.proofs.Places.{all_up_to, lists_push, notes_more, own_up_to, place_push, placed_more, placed_none, placed_take}

-- ---- fronts

front_of_more : (f : ℕ) (xs ys : List Entry) → IsFront (take f xs) (take f (xs ++ ys))
front_of_more zero xs ys = ([], refl)
front_of_more (suc f) [] ys = (take (suc f) ys, refl)
front_of_more (suc f) (x ∷ xs) ys = let r = front_of_more f xs ys in (r.0, ap (λ (l : List Entry). x ∷ l) r.1)

front_by_more : (f g : ℕ) (xs : List Entry) → f ≤ g → IsFront (take f xs) (take g xs)
front_by_more zero g xs le = (take g xs, refl)
front_by_more (suc f) zero xs le = absurd (omega (arith, le))
front_by_more (suc f) (suc g) [] le = ([], refl)
front_by_more (suc f) (suc g) (x ∷ xs) le = let r = front_by_more f g xs (omega (arith, le)) in (r.0, ap (λ (l : List Entry). x ∷ l) r.1)

own_starts : (s : ℕ) (xs ys : List Entry) → IsFront xs ys → IsPrefix (own s xs) (own s ys)
own_starts s xs ys f = starts (own s xs) (own s ys) (own s f.0) (ap (own s) f.1 ∙ own_append s xs f.0)

-- ---- what was noted last, with a note more

own_lists_last : (b : List Entry × List Entry) (s : ℕ) (h : List Noted) (m : Noted) (x : List Entry × List Entry) → m.session ≡ s → m.lists ≡ Some x
    → last_lists b (notes_of s (h ++ m ∷ [])) ≡ x
own_lists_last b s h m x is has =
    ap (last_lists b) (notes_more s h m ∙ ap (λ (c : Bool). notes_of s h ++ cond c (m ∷ []) []) (eq-eqb m.session s is)) ∙ lists_push b (notes_of s h) m
    ∙ ap (lists_or (last_lists b (notes_of s h))) has

lists_else : (b : List Entry × List Entry) (s : ℕ) (h : List Noted) (m : Noted) → nat_eq m.session s ≡ false → last_lists b (notes_of s (h ++ m ∷ []))
    ≡ last_lists b (notes_of s h)
lists_else b s h m other = ap (last_lists b) (notes_more s h m ∙ ap (λ (c : Bool). notes_of s h ++ cond c (m ∷ []) []) other ∙ append-nil (notes_of s h))

lists_plain : (b : List Entry × List Entry) (s : ℕ) (h : List Noted) (m : Noted) → m.lists ≡ None → last_lists b (notes_of s (h ++ m ∷ []))
    ≡ last_lists b (notes_of s h)
lists_plain b s h m plain = ap (last_lists b) (notes_more s h m) ∙ by (nat_eq m.session s)
  where
    by : (c : Bool) → last_lists b (notes_of s h ++ cond c (m ∷ []) []) ≡ last_lists b (notes_of s h)
    by true = lists_push b (notes_of s h) m ∙ ap (lists_or (last_lists b (notes_of s h))) plain
    by false = ap (last_lists b) (append-nil (notes_of s h))

place_last : (s : ℕ) (h : List Noted) (m : Noted) (x : List Entry × List Entry) → m.session ≡ s → m.lists ≡ Some x → last_place 0 (notes_of s (h ++ m ∷ []))
    ≡ m.place
place_last s h m x is has =
    ap (last_place 0) (notes_more s h m ∙ ap (λ (c : Bool). notes_of s h ++ cond c (m ∷ []) []) (eq-eqb m.session s is)) ∙ place_push 0 (notes_of s h) m
    ∙ ap (λ (l : Option (List Entry × List Entry)). if is_none l then last_place 0 (notes_of s h) else m.place) has

place_else : (s : ℕ) (h : List Noted) (m : Noted) → nat_eq m.session s ≡ false → last_place 0 (notes_of s (h ++ m ∷ [])) ≡ last_place 0 (notes_of s h)
place_else s h m other = ap (last_place 0) (notes_more s h m ∙ ap (λ (c : Bool). notes_of s h ++ cond c (m ∷ []) []) other ∙ append-nil (notes_of s h))

place_plain : (s : ℕ) (h : List Noted) (m : Noted) → m.lists ≡ None → last_place 0 (notes_of s (h ++ m ∷ [])) ≡ last_place 0 (notes_of s h)
place_plain s h m plain = ap (last_place 0) (notes_more s h m) ∙ by (nat_eq m.session s)
  where
    by : (c : Bool) → last_place 0 (notes_of s h ++ cond c (m ∷ []) []) ≡ last_place 0 (notes_of s h)
    by true = place_push 0 (notes_of s h) m ∙ ap (λ (l : Option (List Entry × List Entry)). if is_none l then last_place 0 (notes_of s h) else m.place) plain
    by false = ap (last_place 0) (append-nil (notes_of s h))

-- the same in a list of its own
pub lists_now : (b : List Entry × List Entry) (ns new : List Noted) (m : Noted) (x : List Entry × List Entry) → new ≡ ns ++ m ∷ [] → m.lists ≡ Some x
    → last_lists b new ≡ x
lists_now b ns new m x grown has = ap (last_lists b) grown ∙ lists_push b ns m ∙ ap (lists_or (last_lists b ns)) has

pub place_now : (ns new : List Noted) (m : Noted) (x : List Entry × List Entry) → new ≡ ns ++ m ∷ [] → m.lists ≡ Some x → last_place 0 new ≡ m.place
place_now ns new m x grown has = ap (last_place 0) grown ∙ place_push 0 ns m
    ∙ ap (λ (l : Option (List Entry × List Entry)). if is_none l then last_place 0 ns else m.place) has

-- a note of no entry more
pub made_side : (h new : List Noted) (m : Noted) → new ≡ h ++ m ∷ [] → made_by m ≡ [] → made_in new ≡ made_in h
made_side h new m grown none = ap made_in grown ∙ made_append h (m ∷ []) ∙ ap (λ (l : List Entry). made_in h ++ (l ++ [])) none ∙ append-nil (made_in h)

-- ---- what could be told, with a note more

told_plainly : (f : ℕ) (h : List Noted) (m : Noted) → marks m ≡ false → AreMarkedUpTo f h → AreMarkedUpTo f (h ++ m ∷ [])
told_plainly f h m plain told = λ s.
    let same : marked_in (notes_of s (h ++ m ∷ [])) ≡ marked_in (notes_of s h) = ap marked_in (notes_more s h m) ∙ by s (nat_eq m.session s) in
    let more : IsFront (take f (made_in h)) (take f (made_in (h ++ m ∷ []))) = subst (λ (l : List Entry). IsFront (take f (made_in h)) (take f l))
    (sym (made_append h (m ∷ []))) (front_of_more f (made_in h) (made_in (m ∷ []))) in
    subst (λ (l : List Entry). IsPrefix l (own s (take f (made_in (h ++ m ∷ []))))) (sym same)
    (starts_then (marked_in (notes_of s h)) (own s (take f (made_in h))) _ (told s) (own_starts s _ _ more))
  where
    by : (s : ℕ) (c : Bool) → marked_in (notes_of s h ++ cond c (m ∷ []) []) ≡ marked_in (notes_of s h)
    by s true = told_plain (notes_of s h) m plain
    by s false = ap marked_in (append-nil (notes_of s h))

pub told_further : (f g : ℕ) (h : List Noted) → f ≤ g → AreMarkedUpTo f h → AreMarkedUpTo g h
told_further f g h le told = λ s.
    let more : IsFront (take f (made_in h)) (take g (made_in h)) = front_by_more f g (made_in h) le in
    starts_then (marked_in (notes_of s h)) (own s (take f (made_in h))) _ (told s) (own_starts s _ _ more)

-- a session all of whose entries are up to the front
its_all : (session last upto : ℕ) (h list : List Noted) → list ≡ notes_of session h → are_up_to last list ≡ true → last ≤ upto → are_placed 0 h ≡ true
    → made_in list ≡ own session (take upto (made_in h))
its_all session last upto h list its low le placed =
    let same : upto - 0 ≡ upto = omega arith in
    sym (ap made_in (all_up_to last upto list low le)) ∙ ap (λ (l : List Noted). made_in (notes_to upto l)) its ∙ own_up_to session upto h
    ∙ ap (own session) (placed_take 0 upto h placed ∙ ap (λ (n : ℕ). take n (made_in h)) same)

told_marked : (f session : ℕ) (h : List Noted) → made_in (notes_of session h) ≡ own session (take f (made_in h)) → AreMarkedUpTo f h
    → AreMarkedUpTo f (h ++ mark session ∷ [])
told_marked f session h all told = λ s. by s (nat_eq session s) refl
  where
    made : made_in (h ++ mark session ∷ []) ≡ made_in h
    made = made_append h (mark session ∷ []) ∙ append-nil (made_in h)

    by : (s : ℕ) (c : Bool) → nat_eq session s ≡ c → IsPrefix (marked_in (notes_of s (h ++ mark session ∷ [])))
        (own s (take f (made_in (h ++ mark session ∷ []))))
    by s false is =
        let same : marked_in (notes_of s (h ++ mark session ∷ [])) ≡ marked_in (notes_of s h) =
        ap marked_in (notes_more s h (mark session) ∙ ap (λ (c : Bool). notes_of s h ++ cond c (mark session ∷ []) []) is ∙ append-nil (notes_of s h)) in
        subst (λ (x : List Entry × List Entry). IsPrefix x.0 (own s (take f x.1))) (λ i. (sym same i, sym made i)) (told s)
    by s true is =
        let same : marked_in (notes_of s (h ++ mark session ∷ [])) ≡ made_in (notes_of s h) =
        ap marked_in (notes_more s h (mark session) ∙ ap (λ (c : Bool). notes_of s h ++ cond c (mark session ∷ []) []) is) ∙ told_mark (notes_of s h) session in
        let its : session ≡ s = eqb-true session s is in
        starts_same _ _ (same ∙ subst (λ (n : ℕ). made_in (notes_of n h) ≡ own n (take f (made_in h))) its all ∙ ap (λ (l : List Entry). own s (take f l))
        (sym made))

-- ---- a call is noted, and then what the book's side knows

pub two_made : (h new : List Noted) (m n : Noted) → new ≡ (h ++ m ∷ []) ++ n ∷ [] → made_by n ≡ [] → made_in new ≡ made_in h ++ made_by m
two_made h new m n grown none =
    ap made_in grown ∙ made_append (h ++ m ∷ []) (n ∷ []) ∙ ap (λ (l : List Entry). made_in (h ++ m ∷ []) ++ (l ++ [])) none
    ∙ append-nil (made_in (h ++ m ∷ []))
    ∙ made_append h (m ∷ []) ∙ ap (λ (l : List Entry). made_in h ++ l) (append-nil (made_by m))

-- what is known where entries wait
pub record IsKnown (texts : List Entry → List Entry → List ℕ) (earlier : List Entry) (h : List Noted) (queued : List Entry) (count upto : ℕ) (text : List ℕ) :
    Type 0 where
  pub placed : are_placed 0 h ≡ true
  pub known : side_lists earlier (notes_of BOOK_SIDE h) ≡ (earlier ++ made_in h, queued)
  pub first : IsPrefix queued (earlier ++ made_in h)
  pub many : length queued ≡ length earlier + count
  pub taken : IsPrefix (taken_in earlier h) queued
  pub waits : text ≡ texts (taken_in earlier h) queued
  pub stood : stood_in h ≡ upto
  pub told : AreMarkedUpTo upto h

module _ (texts : List Entry → List Entry → List ℕ) (earlier : List Entry) where
  -- no call was made yet
  pub none_known : (h : List Noted) (queued : List Entry) (text : List ℕ) → h ≡ [] → queued ≡ earlier → text ≡ texts earlier queued
      → IsKnown texts earlier h queued 0 0 text
  none_known h queued text none all same =
      let whole : earlier ++ made_in h ≡ earlier = ap (λ (l : List Noted). earlier ++ made_in l) none ∙ append-nil earlier in
      let taken : taken_in earlier h ≡ earlier = ap (taken_in earlier) none in
      let longer = ap length all in
      record {
        placed = ap (are_placed 0) none;
        known = ap (λ (l : List Noted). side_lists earlier (notes_of BOOK_SIDE l)) none ∙ (λ i. (sym whole i, sym all i));
        first = starts_same _ _ (all ∙ sym whole);
        many = omega (arith, longer);
        taken = starts_same _ _ (taken ∙ sym all);
        waits = same ∙ ap (λ (l : List Entry). texts l queued) (sym taken);
        stood = ap stood_in none;
        told = subst (λ (l : List Noted). AreMarkedUpTo 0 l) (sym none) (λ s. refl);
      }

  -- a call, with the place after all; what is handed on is what was, or all there is
  pub called : (h new : List Noted) (session place : ℕ) (c : Call) (r : Reply) (queued more all : List Entry) (count counts upto : ℕ) (text now : List ℕ)
      → IsKnown texts earlier h queued count upto text → new ≡ (h ++ note session place c r ∷ []) ++ side_note BOOK_SIDE 0 all more ∷ []
      → all ≡ (earlier ++ made_in h) ++ entry session c r ∷ [] → length all ≡ length earlier + place
      → IsPrefix queued more → IsPrefix more all → length more ≡ length earlier + counts → now ≡ texts (taken_in earlier h) more
      → IsKnown texts earlier new more counts upto now
  called h new session place c r queued more all count counts upto text now k grown is at starts_more first many text_is =
      let m = note session place c r in
      let n = side_note BOOK_SIDE 0 all more in
      let h1 = h ++ m ∷ [] in
      let made : made_in new ≡ made_in h ++ entry session c r ∷ [] = two_made h new m n grown refl in
      let whole : all ≡ earlier ++ made_in new = is ∙ append_assoc earlier (made_in h) (entry session c r ∷ []) ∙ ap (λ (l : List Entry). earlier ++ l)
      (sym made) in
      let taken : taken_in earlier new ≡ taken_in earlier h =
      ap (λ (l : List Noted). (side_lists earlier (notes_of RECORD_SIDE l)).0) grown ∙ ap (λ (x : List Entry × List Entry). x.0)
      (lists_else (earlier, earlier) RECORD_SIDE h1 n refl ∙ lists_plain (earlier, earlier) RECORD_SIDE h m refl) in
      let stood : stood_in new ≡ stood_in h = ap stood_in grown ∙ place_else RECORD_SIDE h1 n refl ∙ place_plain RECORD_SIDE h m refl in
      let next : place ≡ 0 + length (made_in h) + 1 =
      let longer = ap length is ∙ length-append (earlier ++ made_in h) (entry session c r ∷ []) in let sum = length-append earlier (made_in h) in omega
      (arith, longer, sum, at) in
      record {
        placed = ap (are_placed 0) grown ∙ placed_none 0 h1 n refl ∙ placed_more 0 h session place c r k.placed next;
        known = ap (λ (l : List Noted). side_lists earlier (notes_of BOOK_SIDE l)) grown ∙ own_lists_last (earlier, earlier) BOOK_SIDE h1 n (all, more) refl
            refl ∙ ap (λ (l : List Entry). (l, more)) whole;
        first = subst (IsPrefix more) whole first;
        many = many;
        taken = subst (λ (l : List Entry). IsPrefix l more) (sym taken) (starts_then (taken_in earlier h) queued more k.taken starts_more);
        waits = text_is ∙ ap (λ (l : List Entry). texts l more) (sym taken);
        stood = stood ∙ k.stood;
        told = subst (AreMarkedUpTo upto) (sym grown) (told_plainly upto h1 n refl (told_plainly upto h m refl k.told));
      }

  -- all that waits is taken over
  pub handed_over : (h new : List Noted) (queued : List Entry) (count upto : ℕ) (text now : List ℕ)
      → IsKnown texts earlier h queued count upto text → new ≡ h ++ side_note RECORD_SIDE upto queued queued ∷ [] → now ≡ texts queued queued
      → IsKnown texts earlier new queued count upto now
  handed_over h new queued count upto text now k grown text_is =
      let m = side_note RECORD_SIDE upto queued queued in
      let made : made_in new ≡ made_in h = made_side h new m grown refl in
      let taken : taken_in earlier new ≡ queued = ap (λ (l : List Noted). (side_lists earlier (notes_of RECORD_SIDE l)).0) grown
      ∙ ap (λ (x : List Entry × List Entry). x.0) (own_lists_last (earlier, earlier) RECORD_SIDE h m (queued, queued) refl refl) in
      record {
        placed = ap (are_placed 0) grown ∙ placed_none 0 h m refl ∙ k.placed;
        known = ap (λ (l : List Noted). side_lists earlier (notes_of BOOK_SIDE l)) grown ∙ lists_else (earlier, earlier) BOOK_SIDE h m refl ∙ k.known
            ∙ ap (λ (l : List Entry). (earlier ++ l, queued)) (sym made);
        first = subst (λ (l : List Entry). IsPrefix queued (earlier ++ l)) (sym made) k.first;
        many = k.many;
        taken = starts_same _ _ taken;
        waits = text_is ∙ ap (λ (l : List Entry). texts l queued) (sym taken);
        stood = ap stood_in grown ∙ place_last RECORD_SIDE h m (queued, queued) refl refl;
        told = subst (AreMarkedUpTo upto) (sym grown) (told_plainly upto h m refl k.told);
      }

  -- the record's side has written
  pub standing_to : (h new : List Noted) (queued taken : List Entry) (count upto front : ℕ) (text : List ℕ)
      → IsKnown texts earlier h queued count upto text → new ≡ h ++ side_note RECORD_SIDE front taken taken ∷ [] → taken_in earlier h ≡ taken → upto ≤ front
      → IsKnown texts earlier new queued count front text
  standing_to h new queued taken count upto front text k grown same le =
      let m = side_note RECORD_SIDE front taken taken in
      let made : made_in new ≡ made_in h = made_side h new m grown refl in
      let now : taken_in earlier new ≡ taken_in earlier h =
      ap (λ (l : List Noted). (side_lists earlier (notes_of RECORD_SIDE l)).0) grown ∙ ap (λ (x : List Entry × List Entry). x.0)
      (own_lists_last (earlier, earlier) RECORD_SIDE h m (taken, taken) refl refl) ∙ sym same in
      record {
        placed = ap (are_placed 0) grown ∙ placed_none 0 h m refl ∙ k.placed;
        known = ap (λ (l : List Noted). side_lists earlier (notes_of BOOK_SIDE l)) grown ∙ lists_else (earlier, earlier) BOOK_SIDE h m refl ∙ k.known
            ∙ ap (λ (l : List Entry). (earlier ++ l, queued)) (sym made);
        first = subst (λ (l : List Entry). IsPrefix queued (earlier ++ l)) (sym made) k.first;
        many = k.many;
        taken = subst (λ (l : List Entry). IsPrefix l queued) (sym now) k.taken;
        waits = k.waits ∙ ap (λ (l : List Entry). texts l queued) (sym now);
        stood = ap stood_in grown ∙ place_last RECORD_SIDE h m (taken, taken) refl refl;
        told = subst (AreMarkedUpTo front) (sym grown) (told_further upto front (h ++ m ∷ []) le (told_plainly upto h m refl k.told));
      }

  -- all that a session has asked can be told, since its last entry isn't after this place
  pub marked : (h new list : List Noted) (session last upto : ℕ) (queued : List Entry) (count : ℕ) (text : List ℕ)
      → IsKnown texts earlier h queued count upto text → new ≡ h ++ mark session ∷ [] → list ≡ notes_of session h → are_up_to last list ≡ true → last ≤ upto
      → IsKnown texts earlier new queued count upto text
  marked h new list session last upto queued count text k grown its low covered =
      let n = mark session in
      let made : made_in new ≡ made_in h = made_side h new n grown refl in
      let now : taken_in earlier new ≡ taken_in earlier h =
      ap (λ (l : List Noted). (side_lists earlier (notes_of RECORD_SIDE l)).0) grown ∙ ap (λ (x : List Entry × List Entry). x.0)
      (lists_plain (earlier, earlier) RECORD_SIDE h n refl) in
      let mine : made_in (notes_of session h) ≡ own session (take upto (made_in h)) = sym (ap made_in its) ∙ its_all session last upto h list its low covered
      k.placed in
      record {
        placed = ap (are_placed 0) grown ∙ placed_none 0 h n refl ∙ k.placed;
        known = ap (λ (l : List Noted). side_lists earlier (notes_of BOOK_SIDE l)) grown ∙ lists_plain (earlier, earlier) BOOK_SIDE h n refl ∙ k.known
            ∙ ap (λ (l : List Entry). (earlier ++ l, queued)) (sym made);
        first = subst (λ (l : List Entry). IsPrefix queued (earlier ++ l)) (sym made) k.first;
        many = k.many;
        taken = subst (λ (l : List Entry). IsPrefix l queued) (sym now) k.taken;
        waits = k.waits ∙ ap (λ (l : List Entry). texts l queued) (sym now);
        stood = ap stood_in grown ∙ place_plain RECORD_SIDE h n refl ∙ k.stood;
        told = subst (AreMarkedUpTo upto) (sym grown) (told_marked upto session h mine k.told);
      }

-- ---- the close

-- the first entries of all, as many as the earlier ones and so many more
pub standing : (earlier made durable : List Entry) (count : ℕ) → IsPrefix durable (earlier ++ made) → length durable ≡ length earlier + count → durable
    ≡ earlier ++ take count made
standing earlier made durable count first many = first ∙ both earlier (length durable) many
  where
    both : (xs : List Entry) (n : ℕ) → n ≡ length xs + count → take n (xs ++ made) ≡ xs ++ take count made
    both [] n is = let same : n ≡ count = omega (arith, is) in ap (λ (k : ℕ). take k made) same
    both (x ∷ xs) zero is = absurd (omega (arith, is))
    both (x ∷ xs) (suc n) is = ap (λ (l : List Entry). x ∷ l) (both xs n (omega (arith, is)))

-- ---- the record's side

starts_length : (xs ys : List Entry) → IsPrefix xs ys → length xs ≤ length ys
starts_length xs ys is = let f = front xs ys is in let sum = ap length f.1 ∙ length-append xs f.0 in omega (arith, sum)

-- the front goes on
pub goes_on : (earlier durable taken all : List Entry) (upto count last : ℕ) → IsPrefix durable taken → IsPrefix taken all → length durable
    ≡ length earlier + upto → length all ≡ length earlier + count → last ≡ upto → last ≤ count
goes_on earlier durable taken all upto count last first more many now is = let le =
    starts_length durable all (starts_then durable taken all first more) in omega (arith, le, many, now, is)
