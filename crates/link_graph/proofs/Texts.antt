-- The text of lines, one after the other.
use Rattle.std.proofs.Common.{◌≡◌, ℕ, ◌+◌, ◌<◌, List, [], ◌∷◌, ◌++◌, length, get_or, take, map, sym, ap, ◌∙◌, append_assoc}
use Rattle.std.specs.Prelude.{codes}
use Rattle.std.specs.Fmt.{decimal}
use Rattle.std.specs.Global.{Vec}
use Rattle.std.proofs.lemmas.List.{take_more, map_push, append-nil}
use Rattle.std.proofs.lemmas.List.Concat.{flat_map-append}
use Rattle.batch.specs.Text.{line_feed}
use Rattle.link_graph.specs.Schedules.{lists_of}
use Rattle.link_graph.specs.ScheduleText.{setting_line, end_number, busiest_line, text_of}
use Rattle.link_graph.specs.declared.link.Link.{Link}

-- a line with its line feed
abbrev pub ended : List ℕ → List ℕ
ended line = line ++ line_feed ∷ []

pub text_of-append : (a b : List (List ℕ)) → text_of (a ++ b) ≡ text_of a ++ text_of b
text_of-append a b = flat_map-append ended a b

pub more_lines : (lists : List (Vec ℕ)) (i : ℕ) (v : Vec ℕ) → i < length lists → v ≡ get_or lists i v
    → text_of (map setting_line (lists_of (take (i + 1) lists))) ≡ text_of (map setting_line (lists_of (take i lists))) ++ text_of (setting_line v.items ∷ [])
more_lines lists i v lt is =
    let front : List (Vec ℕ) = take i lists in
    ap (λ (xs : List (Vec ℕ)). text_of (map setting_line (lists_of xs))) (take_more lists i v lt ∙ ap (λ (w : Vec ℕ). front ++ w ∷ []) (sym is))
    ∙ ap (λ (xs : List (List ℕ)). text_of (map setting_line xs)) (map_push (λ w. w.items) front v)
    ∙ ap text_of (map_push setting_line (lists_of front) v.items)
    ∙ text_of-append (map setting_line (lists_of front)) (setting_line v.items ∷ [])

regroup : (a b c d e : List ℕ) → (((a ++ b) ++ c) ++ d) ++ e ≡ a ++ (b ++ (c ++ (d ++ e)))
regroup a b c d e = simp append_assoc

pub spelled_link : (link : Link) (e : ℕ) (old : List ℕ) → e ≡ end_number link.end → old
    ++ (codes "busiest link " ++ (decimal e ++ (codes " module " ++ (decimal link.«module» ++ codes "\n")))) ≡ old ++ text_of (busiest_line link ∷ [])
spelled_link link e old same =
    ap (λ (n : ℕ). old ++ (codes "busiest link " ++ (decimal n ++ (codes " module " ++ (decimal link.«module» ++ codes "\n"))))) same
    ∙ ap (λ (x : List ℕ). old ++ x)
    (sym (regroup (codes "busiest link ") (decimal (end_number link.end)) (codes " module ") (decimal link.«module») (codes "\n"))
    ∙ sym (append-nil (ended (busiest_line link))))

pub two_lines : (a b new middle old : List ℕ) → new ≡ middle ++ text_of (b ∷ []) → middle ≡ old ++ text_of (a ∷ []) → new ≡ old ++ text_of (a ∷ b ∷ [])
two_lines a b new middle old p q =
    p ∙ ap (λ (x : List ℕ). x ++ text_of (b ∷ [])) q ∙ append_assoc old (text_of (a ∷ [])) (text_of (b ∷ []))
    ∙ ap (λ (x : List ℕ). old ++ x) (sym (text_of-append (a ∷ []) (b ∷ [])))
