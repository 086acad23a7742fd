use Rattle.std.proofs.Common.{◌≡◌, ◌<◌, ◌++◌, ◌∷◌, [], ℕ, List, Some, length, take, get_or, ap, arith, subst, sym, ◌∙◌}
use Rattle.std.specs.Prelude.{IfSome}
use Rattle.std.proofs.lemmas.Bool.{false≢true}
use Rattle.std.proofs.lemmas.List.{take_more}
use Rattle.setting_runner.proofs.Causes.{IsLeastOf, whole_changes_none, greater_changes_none, lesser_is_least}
use Rattle.setting_runner.proofs.setting.least_short.Goals as goal
use Rattle.setting_runner.proofs.setting.least_short.Goals.{then-from-words+then-is_lesser, else-from-words, else-from-words-via-then-from-words+else-is_lesser, else-from-words-via-else-from-words}

pub loop-entry-preserved : goal.loop-entry-preserved
loop-entry-preserved c =
    let i = c.loop-entry.entry-index in
    let ms = c.args.moved.now in
    let words = c.args.words in
    let same = c.as_slice-entry-items.ensures.entries in
    let below : i < length ms = omega (arith, c.loop-entry-test.true, ap (length {A = ℕ × ℕ}) same) in
    let m : ℕ × ℕ = get_or ms i (0, 0) in
    let before : IsLeastOf words (take i ms) c.loop-entry.least = c.loop-entry.invariant in
    let number : c.from-transfer.result ≡ m.0 = c.from-transfer.ensures ∙ ap (λ (xs : List (ℕ × ℕ)). (get_or xs i (0, 0)).0) same in
    let count : c.from.result ≡ m.1 = c.from.ensures ∙ ap (λ (xs : List (ℕ × ℕ)). (get_or xs i (0, 0)).1) same in
    let least = c.loop-entry.least in
    let now = c.if-from-words.least in
    let more = take i ms ++ m ∷ [] in
    subst (λ (xs : List (ℕ × ℕ)). IsLeastOf words xs now) (sym (take_more ms i (0, 0) below))
    (elim c.if-from-words.branch [
      | then-from-words+then-is_lesser w ↦
          let less = subst (λ (n : ℕ). IfSome least (λ t. n < t)) number (w.is_lesser.ensures.0 w.if-is_lesser.true) in
          let is : now ≡ Some m.0 = w.least-is ∙ ap Some number in
          subst (IsLeastOf words more) (sym is) (lesser_is_least words (take i ms) m least before (omega (arith, count, w.if-from-words.true)) less)
      | else-from-words w ↦
          subst (IsLeastOf words more) (sym w.least-is) (elim w.else-from-words.branch [
            | else-from-words-via-then-from-words+else-is_lesser w' ↦
                greater_changes_none words (take i ms) m least before
                (λ less. false≢true (sym w'.if-is_lesser.false ∙ w'.is_lesser.ensures.1 (subst (λ (n : ℕ). IfSome least (λ t. n < t)) (sym number) less)))
            | else-from-words-via-else-from-words w' ↦ whole_changes_none words (take i ms) m least before (omega (arith, count, w'.if-from-words.false))
          ])
    ])
