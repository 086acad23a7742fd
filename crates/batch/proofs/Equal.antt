-- The test of equality tells equality.
use Rattle.std.proofs.Common.{◌≡◌, ℕ, Bool, true, false, List, refl, Decides, sym, ap, ◌∙◌}
use Rattle.std.proofs.lemmas.Bool.{false≢true}
use Rattle.std.proofs.lemmas.Bool.Decides.{Decides-eqb, Decides-and}
use Rattle.std.proofs.lemmas.Slice.Eq.{slice_eq-Decides}
use Rattle.batch.specs.declared.transfer.Kind.{Kind}
use Rattle.batch.specs.declared.transfer.Kind.TheVariants.{Push, Pull}
use Rattle.batch.specs.declared.transfer.Transfer.{Transfer}
use Rattle.batch.specs.contracts.transfer.KindPartialEq.TheImpl as kind
use Rattle.batch.specs.contracts.transfer.TransferPartialEq.TheImpl as transfer
use Rattle.batch.specs.Equal.{same_transfers}

abbrev is_push : Kind → Bool
is_push Push = true
is_push Pull = false

abbrev made : Kind → ℕ → ℕ → ℕ → ℕ → Transfer
made k i o r f = record { kind = k; initiator = i; own_block = o; responder = r; far_block = f }

same_made : (k l : Kind) (i j o p r q f g : ℕ) → k ≡ l → i ≡ j → o ≡ p → r ≡ q → f ≡ g → made k i o r f ≡ made l j p q g
same_made k l i j o p r q f g a b c d e = ap (λ (x : Kind). made x i o r f) a ∙ ap (λ (x : ℕ). made l x o r f) b ∙ ap (λ (x : ℕ). made l j x r f) c
    ∙ ap (λ (x : ℕ). made l j p x f) d ∙ ap (λ (x : ℕ). made l j p q x) e

pub same_transfer_parts : (t u : Transfer) → t.kind ≡ u.kind → t.initiator ≡ u.initiator → t.own_block ≡ u.own_block → t.responder ≡ u.responder → t.far_block
    ≡ u.far_block → t ≡ u
same_transfer_parts t u a b c d e = same_made t.kind u.kind t.initiator u.initiator t.own_block u.own_block t.responder u.responder t.far_block u.far_block a b
    c d e

same_kind-Decides : (k l : Kind) → Decides (kind.ghosts.eq k l) (k ≡ l)
same_kind-Decides Push Push = (λ _. refl, λ _. refl)
same_kind-Decides Push Pull = (λ e. absurd (false≢true e), λ e. absurd (false≢true (sym (ap is_push e))))
same_kind-Decides Pull Push = (λ e. absurd (false≢true e), λ e. absurd (false≢true (ap is_push e)))
same_kind-Decides Pull Pull = (λ _. refl, λ _. refl)

same_transfer-Decides : (t u : Transfer) → Decides (transfer.ghosts.eq t u) (t ≡ u)
same_transfer-Decides t u =
    let parts = Decides-and _ _ (same_kind-Decides t.kind u.kind)
    (Decides-and _ _ (Decides-eqb t.initiator u.initiator)
    (Decides-and _ _ (Decides-eqb t.own_block u.own_block) (Decides-and _ _ (Decides-eqb t.responder u.responder) (Decides-eqb t.far_block u.far_block))))
    in (
      λ e. let h = parts.0 e in same_transfer_parts t u h.0 h.1.0 h.1.1.0 h.1.1.1.0 h.1.1.1.1,
      λ e. parts.1 (
        ap (λ (x : Transfer). x.kind) e,
        (
          ap (λ (x : Transfer). x.initiator) e,
          (ap (λ (x : Transfer). x.own_block) e, (ap (λ (x : Transfer). x.responder) e, ap (λ (x : Transfer). x.far_block) e)),
        ),
      ),
    )

pub same_transfers-Decides : (ts us : List Transfer) → Decides (same_transfers ts us) (ts ≡ us)
same_transfers-Decides ts us = slice_eq-Decides same_transfer-Decides ts us (same_transfers ts us) refl
