-- Moves of blocks, one after the other and part by part.
use Rattle.std.proofs.Common.{◌≡◌, ◌<◌, ◌≤◌, ◌+◌, ℕ, zero, suc, List, [], ◌∷◌, ◌++◌, length, take, drop, get_or, refl, sym, ap, ap₂, ◌∙◌, arith, subst, add-one, append-nil}
use Rattle.std.specs.Prelude.{All}
use Rattle.std.proofs.lemmas.List.{drop_all, take_all}
use Rattle.batch.specs.declared.transfer.Transfer.{Transfer}
use Rattle.module_memory.specs.Lending.{RestView, BlockAt}
use Rattle.setting_runner.specs.Moves.{IsMovable, AreMovable, HasMoved, HaveMoved, none_sure, all_moved, AllWhole}

pub HaveMoved-append : (sure : ℕ → Type 0) (rest : RestView) (batch : List Transfer) (ts us : List ℕ) (os ps ns qs : List BlockAt) (ms ws : List (ℕ × ℕ))
    → HaveMoved sure rest batch ts os ns ms → HaveMoved sure rest batch us ps qs ws → HaveMoved sure rest batch (ts ++ us) (os ++ ps) (ns ++ qs) (ms ++ ws)
HaveMoved-append sure rest batch [] us [] ps [] qs [] ws a b = b
HaveMoved-append sure rest batch (t ∷ ts) us (o ∷ os) ps (n ∷ ns) qs (m ∷ ms) ws a b = (a.0, HaveMoved-append sure rest batch ts us os ps ns qs ms ws a.1 b)
HaveMoved-append sure rest batch [] us [] ps [] qs (m ∷ ms) ws a b = absurd a
HaveMoved-append sure rest batch [] us [] ps (n ∷ ns) qs ms ws a b = absurd a
HaveMoved-append sure rest batch [] us (o ∷ os) ps ns qs ms ws a b = absurd a
HaveMoved-append sure rest batch (t ∷ ts) us [] ps ns qs ms ws a b = absurd a
HaveMoved-append sure rest batch (t ∷ ts) us (o ∷ os) ps [] qs ms ws a b = absurd a
HaveMoved-append sure rest batch (t ∷ ts) us (o ∷ os) ps (n ∷ ns) qs [] ws a b = absurd a

pub HaveMoved-length : (sure : ℕ → Type 0) (rest : RestView) (batch : List Transfer) (ts : List ℕ) (os ns : List BlockAt) (ms : List (ℕ × ℕ))
    → HaveMoved sure rest batch ts os ns ms → length ms ≡ length ts
HaveMoved-length sure rest batch [] [] [] [] a = refl
HaveMoved-length sure rest batch (t ∷ ts) (o ∷ os) (n ∷ ns) (m ∷ ms) a = ap suc (HaveMoved-length sure rest batch ts os ns ms a.1)
HaveMoved-length sure rest batch [] [] [] (m ∷ ms) a = absurd a
HaveMoved-length sure rest batch [] [] (n ∷ ns) ms a = absurd a
HaveMoved-length sure rest batch [] (o ∷ os) ns ms a = absurd a
HaveMoved-length sure rest batch (t ∷ ts) [] ns ms a = absurd a
HaveMoved-length sure rest batch (t ∷ ts) (o ∷ os) [] ms a = absurd a
HaveMoved-length sure rest batch (t ∷ ts) (o ∷ os) (n ∷ ns) [] a = absurd a

pub AreMovable-length : (rest : RestView) (batch : List Transfer) (ts : List ℕ) (bays : List BlockAt) → AreMovable rest batch ts bays → length ts ≡ length bays
AreMovable-length rest batch [] [] a = refl
AreMovable-length rest batch (t ∷ ts) (b ∷ bs) a = ap suc (AreMovable-length rest batch ts bs a.1)
AreMovable-length rest batch [] (b ∷ bs) a = absurd a
AreMovable-length rest batch (t ∷ ts) [] a = absurd a

pub AreMovable-at : (rest : RestView) (batch : List Transfer) (ts : List ℕ) (bays : List BlockAt) (i d : ℕ) (e : BlockAt) → AreMovable rest batch ts bays
    → i < length ts → IsMovable rest batch (get_or ts i d) (get_or bays i e)
AreMovable-at rest batch [] bays i d e a h = absurd (omega arith)
AreMovable-at rest batch (t ∷ ts) [] i d e a h = absurd a
AreMovable-at rest batch (t ∷ ts) (b ∷ bs) zero d e a h = a.0
AreMovable-at rest batch (t ∷ ts) (b ∷ bs) (suc i) d e a h = AreMovable-at rest batch ts bs i d e a.1 (omega arith)

pub AreMovable-known : (rest : RestView) (batch : List Transfer) (ts : List ℕ) (bays : List BlockAt) → AreMovable rest batch ts bays
    → All (λ t. t < length batch) ts
AreMovable-known rest batch ts bays a = λ i d h. (AreMovable-at rest batch ts bays i d (record { place = record { «module» = 0; block = 0 }; words = [] }) a
    h).known

pub AreMovable-take : (rest : RestView) (batch : List Transfer) (ts : List ℕ) (bays : List BlockAt) (i : ℕ) → AreMovable rest batch ts bays
    → AreMovable rest batch (take i ts) (take i bays)
AreMovable-take rest batch [] [] zero a = tt
AreMovable-take rest batch [] [] (suc i) a = tt
AreMovable-take rest batch [] (b ∷ bs) i a = absurd a
AreMovable-take rest batch (t ∷ ts) [] i a = absurd a
AreMovable-take rest batch (t ∷ ts) (b ∷ bs) zero a = tt
AreMovable-take rest batch (t ∷ ts) (b ∷ bs) (suc i) a = (a.0, AreMovable-take rest batch ts bs i a.1)

pub AreMovable-drop : (rest : RestView) (batch : List Transfer) (ts : List ℕ) (bays : List BlockAt) (i : ℕ) → AreMovable rest batch ts bays
    → AreMovable rest batch (drop i ts) (drop i bays)
AreMovable-drop rest batch [] [] zero a = tt
AreMovable-drop rest batch [] [] (suc i) a = tt
AreMovable-drop rest batch [] (b ∷ bs) i a = absurd a
AreMovable-drop rest batch (t ∷ ts) [] i a = absurd a
AreMovable-drop rest batch (t ∷ ts) (b ∷ bs) zero a = a
AreMovable-drop rest batch (t ∷ ts) (b ∷ bs) (suc i) a = AreMovable-drop rest batch ts bs i a.1

head_or : {X : Type 0} → X → List X → X
head_or d [] = d
head_or d (x ∷ xs) = x

get_head : {X : Type 0} (xs : List X) (i : ℕ) (d : X) → get_or xs i d ≡ head_or d (drop i xs)
unfolding head_or
get_head [] zero d = refl
get_head [] (suc i) d = refl
get_head (x ∷ xs) zero d = refl
get_head (x ∷ xs) (suc i) d = get_head xs i d

-- lists that agree from a position on agree at that position
pub same_there : {X : Type 0} (xs ys : List X) (i : ℕ) (d : X) → drop i xs ≡ drop i ys → get_or xs i d ≡ get_or ys i d
same_there xs ys i d e = get_head xs i d ∙ ap (head_or d) e ∙ sym (get_head ys i d)

tail_of : {X : Type 0} → List X → List X
tail_of [] = []
tail_of (x ∷ xs) = xs

drop_suc : {X : Type 0} (xs : List X) (i : ℕ) → drop (suc i) xs ≡ tail_of (drop i xs)
unfolding tail_of
drop_suc [] zero = refl
drop_suc [] (suc i) = refl
drop_suc (x ∷ xs) zero = refl
drop_suc (x ∷ xs) (suc i) = drop_suc xs i

drop_next : {X : Type 0} (xs : List X) (i : ℕ) → drop (i + 1) xs ≡ tail_of (drop i xs)
drop_next xs i = ap (λ k. drop k xs) (add-one i) ∙ drop_suc xs i

pub same_after : {X : Type 0} (xs ys : List X) (i : ℕ) → drop i xs ≡ drop i ys → drop (i + 1) xs ≡ drop (i + 1) ys
same_after xs ys i e = drop_next xs i ∙ ap tail_of e ∙ sym (drop_next ys i)

append_one : {X : Type 0} (xs : List X) (y : X) (ys : List X) → (xs ++ y ∷ []) ++ ys ≡ xs ++ y ∷ ys
append_one [] y ys = refl
append_one (x ∷ xs) y ys = ap (λ t. x ∷ t) (append_one xs y ys)

-- whatever moves what is left completes a move of all
abbrev pub Completes : (ℕ → Type 0) → RestView → List Transfer → List ℕ → List BlockAt → ℕ → List BlockAt → List (ℕ × ℕ) → Type 0
Completes sure rest batch ts olds i done moved =
    (news : List BlockAt) (ms : List (ℕ × ℕ)) → HaveMoved sure rest batch (drop i ts) (drop i olds) news ms → HaveMoved sure rest batch ts olds (done ++ news)
    (moved ++ ms)

pub Completes-next : (sure : ℕ → Type 0) (rest : RestView) (batch : List Transfer) (ts : List ℕ) (olds : List BlockAt) (i : ℕ) (done done' : List BlockAt)
    (moved moved' : List (ℕ × ℕ)) (t : ℕ) (old new : BlockAt) (count : ℕ) → drop i ts ≡ t ∷ drop (i + 1) ts → drop i olds ≡ old ∷ drop (i + 1) olds → done'
    ≡ done ++ new ∷ [] → moved' ≡ moved ++ (t, count) ∷ []
    → HasMoved sure rest batch t old new (t, count) → Completes sure rest batch ts olds i done moved → Completes sure rest batch ts olds (i + 1) done' moved'
Completes-next sure rest batch ts olds i done done' moved moved' t old new count j o d m one h = λ news ms rest_moves.
    let here : HaveMoved sure rest batch (t ∷ drop (i + 1) ts) (old ∷ drop (i + 1) olds) (new ∷ news) ((t, count) ∷ ms) = (one, rest_moves) in
    let there : HaveMoved sure rest batch (drop i ts) (drop i olds) (new ∷ news) ((t, count) ∷ ms) =
    subst (λ (a : List ℕ). HaveMoved sure rest batch a (drop i olds) (new ∷ news) ((t, count) ∷ ms)) (sym j)
    (subst (λ (a : List BlockAt). HaveMoved sure rest batch (t ∷ drop (i + 1) ts) a (new ∷ news) ((t, count) ∷ ms)) (sym o) here) in
    let all = h (new ∷ news) ((t, count) ∷ ms) there in
    let e : done ++ new ∷ news ≡ done' ++ news = sym (ap (λ (x : List BlockAt). x ++ news) d ∙ append_one done new news) in
    let f : moved ++ (t, count) ∷ ms ≡ moved' ++ ms = sym (ap (λ (x : List (ℕ × ℕ)). x ++ ms) m ∙ append_one moved (t, count) ms) in
    subst (λ (a : List BlockAt). HaveMoved sure rest batch ts olds a (moved' ++ ms)) e
    (subst (λ (a : List (ℕ × ℕ)). HaveMoved sure rest batch ts olds (done ++ new ∷ news) a) f all)

pub Completes-end : (sure : ℕ → Type 0) (rest : RestView) (batch : List Transfer) (ts : List ℕ) (olds : List BlockAt) (i : ℕ) (news : List BlockAt)
    (moved : List (ℕ × ℕ)) → length ts ≤ i → length olds ≤ i → length news ≤ i → Completes sure rest batch ts olds i (take i news) moved
    → HaveMoved sure rest batch ts olds news moved
Completes-end sure rest batch ts olds i news moved a b c h =
    let none : HaveMoved sure rest batch (drop i ts) (drop i olds) [] [] =
    subst (λ (x : List ℕ). HaveMoved sure rest batch x (drop i olds) [] []) (sym (drop_all i ts a))
    (subst (λ (x : List BlockAt). HaveMoved sure rest batch [] x [] []) (sym (drop_all i olds b)) tt) in
    subst (λ (x : List BlockAt). HaveMoved sure rest batch ts olds x moved) (append-nil (take i news) ∙ take_all i news c)
    (subst (λ (x : List (ℕ × ℕ)). HaveMoved sure rest batch ts olds (take i news ++ []) x) (append-nil moved) (h [] [] none))

-- ---- what a setting has moved

-- what is known of wires may be forgotten
pub HaveMoved-forget : (sure : ℕ → Type 0) (rest : RestView) (batch : List Transfer) (ts : List ℕ) (os ns : List BlockAt) (ms : List (ℕ × ℕ))
    → HaveMoved sure rest batch ts os ns ms → HaveMoved none_sure rest batch ts os ns ms
HaveMoved-forget sure rest batch [] [] [] [] a = tt
HaveMoved-forget sure rest batch (t ∷ ts) (o ∷ os) (n ∷ ns) (m ∷ ms) a = (
  record { named = a.0.named; at_most = a.0.at_most; place = a.0.place; words = a.0.words; all_words = λ h. absurd h },
  HaveMoved-forget sure rest batch ts os ns ms a.1,
)
HaveMoved-forget sure rest batch [] [] [] (m ∷ ms) a = absurd a
HaveMoved-forget sure rest batch [] [] (n ∷ ns) ms a = absurd a
HaveMoved-forget sure rest batch [] (o ∷ os) ns ms a = absurd a
HaveMoved-forget sure rest batch (t ∷ ts) [] ns ms a = absurd a
HaveMoved-forget sure rest batch (t ∷ ts) (o ∷ os) [] ms a = absurd a
HaveMoved-forget sure rest batch (t ∷ ts) (o ∷ os) (n ∷ ns) [] a = absurd a

-- where no word has moved all is as it was
pub none_have_moved : (rest : RestView) (batch : List Transfer) (ts : List ℕ) (bays : List BlockAt) → AreMovable rest batch ts bays
    → HaveMoved none_sure rest batch ts bays bays (all_moved ts 0)
none_have_moved rest batch [] [] a = tt
none_have_moved rest batch [] (b ∷ bs) a = absurd a
none_have_moved rest batch (t ∷ ts) [] a = absurd a
none_have_moved rest batch (t ∷ ts) (b ∷ bs) a =
    (record { named = refl; at_most = omega arith; place = refl; words = refl; all_words = λ h. absurd h }, none_have_moved rest batch ts bs a.1)

-- where each has moved at least the words of a block, each has moved just these
pub whole_moves : (sure : ℕ → Type 0) (rest : RestView) (batch : List Transfer) (ts : List ℕ) (os ns : List BlockAt) (ms : List (ℕ × ℕ))
    → HaveMoved sure rest batch ts os ns ms → AllWhole rest.store.shape.words ms → ms ≡ all_moved ts rest.store.shape.words
whole_moves sure rest batch [] [] [] [] a h = refl
whole_moves sure rest batch (t ∷ ts) (o ∷ os) (n ∷ ns) (m ∷ ms) a h =
    let le : m.1 ≤ rest.store.shape.words = a.0.at_most in
    let ge : rest.store.shape.words ≤ m.1 = h.0 in
    let same : m.1 ≡ rest.store.shape.words = omega arith in
    let pair : ℕ → ℕ → ℕ × ℕ = λ x y. (x, y) in
    ap₂ (λ (x : ℕ × ℕ) (xs : List (ℕ × ℕ)). x ∷ xs) (ap₂ pair a.0.named same) (whole_moves sure rest batch ts os ns ms a.1 h.1)
whole_moves sure rest batch [] [] [] (m ∷ ms) a h = absurd a
whole_moves sure rest batch [] [] (n ∷ ns) ms a h = absurd a
whole_moves sure rest batch [] (o ∷ os) ns ms a h = absurd a
whole_moves sure rest batch (t ∷ ts) [] ns ms a h = absurd a
whole_moves sure rest batch (t ∷ ts) (o ∷ os) [] ms a h = absurd a
whole_moves sure rest batch (t ∷ ts) (o ∷ os) (n ∷ ns) [] a h = absurd a
