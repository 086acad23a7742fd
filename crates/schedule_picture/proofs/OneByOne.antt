-- A setting joins what its transfers join, one by one.
use Rattle.std.proofs.Common.{◌≡◌, ◌&&◌, ◌||◌, ℕ, List, [], ◌∷◌, slice_get, Bool, refl, sym, ap, ◌∙◌}
use Rattle.std.specs.List.{list_all, list_any}
use Rattle.std.proofs.lemmas.List.Elements.{filter_map-append}
use Rattle.std.proofs.lemmas.List.Folds.{list_all-append, list_any-append}
use Rattle.batch.specs.declared.transfer.Transfer.{Transfer}
use Rattle.link_graph.specs.Marks.{members}

pub any_one_by_one : (p : Transfer → Bool) (batch : List Transfer) (setting : List ℕ) → list_any (λ t. list_any p (members batch (t ∷ []))) setting
    ≡ list_any p (members batch setting)
any_one_by_one p batch [] = refl
any_one_by_one p batch (t ∷ ts) =
    ap (λ (b : Bool). list_any p (members batch (t ∷ [])) || b) (any_one_by_one p batch ts)
    ∙ sym (list_any-append p (members batch (t ∷ [])) (members batch ts))
    ∙ ap (list_any p) (sym (filter_map-append (λ u. slice_get batch u) (t ∷ []) ts))

pub all_one_by_one : (p : Transfer → Bool) (batch : List Transfer) (setting : List ℕ) → list_all (λ t. list_all p (members batch (t ∷ []))) setting
    ≡ list_all p (members batch setting)
all_one_by_one p batch [] = refl
all_one_by_one p batch (t ∷ ts) =
    ap (λ (b : Bool). list_all p (members batch (t ∷ [])) && b) (all_one_by_one p batch ts)
    ∙ sym (list_all-append p (members batch (t ∷ [])) (members batch ts))
    ∙ ap (list_all p) (sym (filter_map-append (λ u. slice_get batch u) (t ∷ []) ts))
