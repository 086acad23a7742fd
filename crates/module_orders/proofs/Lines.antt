-- The text of orders, a line more at a time.
use Rattle.std.proofs.Common.{ℕ, Bool, true, false, ◌≡◌, ◌<◌, ◌+◌, List, [], ◌∷◌, ◌++◌, length, map, take, get_or, cond, sym, ap, ◌∙◌, append_assoc}
use Rattle.std.specs.Prelude.{count_by, filter, Option}
use Rattle.std.specs.List.{flat_map, range_with_len}
use Rattle.std.proofs.lemmas.List.{append-nil, map_push, take_more}
use Rattle.std.proofs.lemmas.List.Concat.{flat_map-append}
use Rattle.std.proofs.lemmas.List.Elements.{filter-append}
use Rattle.std.proofs.lemmas.List.Sums.{length-filter}
use Rattle.batch.proofs.Lists.{range_more}
use Rattle.link_graph.proofs.Texts.{text_of-append}
use Rattle.link_graph.specs.ScheduleText.{text_of}
use Rattle.module_orders.specs.Orders.{ModuleTold, copies_in, is_told, rack_told, told_to}
use Rattle.module_orders.specs.OrdersText.{copy_line, ended, module_line, modules_line, order_line, orders_text, told_lines}

pub then_adds : (old mid new a b c : List ℕ) → mid ≡ old ++ a → new ≡ mid ++ b → c ≡ a ++ b → new ≡ old ++ c
then_adds old mid new a b c first more all =
    more ∙ ap (λ (x : List ℕ). x ++ b) first ∙ append_assoc old a b ∙ ap (λ (x : List ℕ). old ++ x) (sym all)

-- the text of one line more
pub line_more : (lines : List (List ℕ)) (line : List ℕ) → text_of (lines ++ line ∷ []) ≡ text_of lines ++ ended line
line_more lines line = text_of-append lines (line ∷ []) ∙ ap (λ (x : List ℕ). text_of lines ++ x) (append-nil (ended line))

-- one element more that passes, or that doesn't
filter-one : {X : Type 0} (p : X → Bool) (xs : List X) (x : X) (b : Bool) → p x ≡ b → filter p (xs ++ x ∷ []) ≡ filter p xs ++ cond b (x ∷ []) []
filter-one {X} p xs x b e = filter-append p xs (x ∷ []) ∙ ap (λ (y : Bool). filter p xs ++ cond y (x ∷ []) []) e

pub number_up : (p : ℕ → Bool) (n : ℕ) → p n ≡ true → text_of (map copy_line (filter p (range_with_len 0 (n + 1))))
    ≡ text_of (map copy_line (filter p (range_with_len 0 n))) ++ ended (copy_line n)
number_up p n up =
    ap (λ (xs : List ℕ). text_of (map copy_line (filter p xs))) (range_more n) ∙ ap (λ (xs : List ℕ). text_of (map copy_line xs))
    (filter-one p (range_with_len 0 n) n true up)
    ∙ ap text_of (map_push copy_line (filter p (range_with_len 0 n)) n) ∙ line_more (map copy_line (filter p (range_with_len 0 n))) (copy_line n)

pub number_down : (p : ℕ → Bool) (n : ℕ) → p n ≡ false → filter p (range_with_len 0 (n + 1)) ≡ filter p (range_with_len 0 n)
number_down p n down = ap (filter p) (range_more n) ∙ filter-one p (range_with_len 0 n) n false down ∙ append-nil (filter p (range_with_len 0 n))

-- one module more that is told, or that isn't
pub module_more : (p : ModuleTold → Bool) (xs : List ModuleTold) (i : ℕ) (x : ModuleTold) → i < length xs → x ≡ get_or xs i x → p x ≡ true
    → text_of (flat_map told_lines (filter p (take (i + 1) xs))) ≡ text_of (flat_map told_lines (filter p (take i xs))) ++ text_of (told_lines x)
module_more p xs i x l is up =
    ap (λ (ys : List ModuleTold). text_of (flat_map told_lines (filter p ys))) (take_more xs i x l ∙ ap (λ (y : ModuleTold). take i xs ++ y ∷ []) (sym is))
    ∙ ap (λ (ys : List ModuleTold). text_of (flat_map told_lines ys)) (filter-one p (take i xs) x true up)
    ∙ ap text_of (flat_map-append told_lines (filter p (take i xs)) (x ∷ []))
    ∙ ap (λ (ls : List (List ℕ)). text_of (flat_map told_lines (filter p (take i xs)) ++ ls)) (append-nil (told_lines x))
    ∙ text_of-append (flat_map told_lines (filter p (take i xs))) (told_lines x)

pub module_skip : (p : ModuleTold → Bool) (xs : List ModuleTold) (i : ℕ) (x : ModuleTold) → i < length xs → x ≡ get_or xs i x → p x ≡ false
    → filter p (take (i + 1) xs) ≡ filter p (take i xs)
module_skip p xs i x l is down =
    ap (filter p) (take_more xs i x l ∙ ap (λ (y : ModuleTold). take i xs ++ y ∷ []) (sym is)) ∙ filter-one p (take i xs) x false down
    ∙ append-nil (filter p (take i xs))

-- the lines of a module, part by part
pub module_parts : (told : ModuleTold) → text_of (told_lines told) ≡ ended (module_line told.«module» (length (copies_in told.orders)) (length told.orders))
    ++ (text_of (map copy_line (copies_in told.orders)) ++ text_of (map order_line told.orders))
module_parts told = ap (λ (x : List ℕ). ended (module_line told.«module» (length (copies_in told.orders)) (length told.orders)) ++ x)
    (text_of-append (map copy_line (copies_in told.orders)) (map order_line told.orders))

-- text that was put part by part
pub module_adds : (old first then_more new : List ℕ) (told : ModuleTold) → first ≡ old
    ++ ended (module_line told.«module» (length (copies_in told.orders)) (length told.orders)) → then_more ≡ first
    ++ text_of (map copy_line (copies_in told.orders)) → new ≡ then_more ++ text_of (map order_line told.orders) → new ≡ old ++ text_of (told_lines told)
module_adds old first then_more new told a b c =
    let head = ended (module_line told.«module» (length (copies_in told.orders)) (length told.orders)) in
    let copies = text_of (map copy_line (copies_in told.orders)) in
    let orders = text_of (map order_line told.orders) in
    then_adds old first new head (copies ++ orders) (text_of (told_lines told)) a (c ∙ ap (λ (x : List ℕ). x ++ orders) b ∙ append_assoc first copies orders)
    (module_parts told)

-- the text of all modules that are told
pub rack_adds : (only : Option ℕ) (settings count : ℕ) (modules : List ModuleTold) (head text : List ℕ) → count ≡ count_by (is_told only) modules → head
    ≡ ended (modules_line count settings) → text ≡ head ++ text_of (flat_map told_lines (filter (is_told only) modules)) → text
    ≡ orders_text (told_to only (rack_told settings modules))
unfolding orders_text
rack_adds only settings count modules head text counted is all =
    let told = filter (is_told only) modules in
    all ∙ ap (λ (x : List ℕ). x ++ text_of (flat_map told_lines told))
    (is ∙ ap (λ (n : ℕ). ended (modules_line n settings)) (counted ∙ sym (length-filter (is_told only) modules)))
