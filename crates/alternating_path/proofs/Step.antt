-- A step along the path, over whole tables; and when there is room.
use Rattle.std.proofs.Common.{◌≡◌, ℕ, ◌+◌, ◌<◌, List, set, Option, Some, None, refl, ap, ◌∙◌, subst, arith}
use Rattle.batch.specs.declared.transfer.Transfer.{Transfer}
use Rattle.link_graph.specs.declared.link.End.{End}
use Rattle.link_graph.specs.declared.link.End.TheVariants.{Zero, Three}
use Rattle.link_graph.specs.Links.{other_end}
use Rattle.alternating_path.specs.Ends.{link_at}
use Rattle.alternating_path.specs.Colouring.{Colouring, colour_at, IsProper, IsFree}
use Rattle.alternating_path.specs.Counts.{placed_uses, HasFullLink}
use Rattle.alternating_path.proofs.Path.{still, still_less}
use Rattle.alternating_path.proofs.Links.{other-other, uses_at}
use Rattle.alternating_path.proofs.Writes.{some_within}
use Rattle.alternating_path.proofs.AlternatingPath.{IsOnPath, freed, still_free, path_goes_on}

free_at_both : (g : List Transfer) (f : List (Option ℕ)) (t c : ℕ) (e o : End) → IsFree g f (link_at g t e) c → IsFree g f (link_at g t (other_end e)) c
    → IsFree g f (link_at g t o) c
free_at_both g f t c Zero Zero a b = a
free_at_both g f t c Zero Three a b = b
free_at_both g f t c Three Zero a b = b
free_at_both g f t c Three Three a b = a

-- and so it is once the edge in the way has lost it
pub free_next : (s₀ s m : Colouring) (t hand w c d : ℕ) (e o : End) → IsOnPath s₀.batch s₀.colours s₀.colour t s.colour hand e (other_end e) c d → s
    ≡ record s₀ { colour = s.colour } → (colour_at s.colour w ≡ Some c) × (link_at s.batch w e ≡ link_at s.batch hand e) → m
    ≡ record s { colour = set s.colour w None } → IsFree m.batch m.colour (link_at m.batch hand o) c
free_next s₀ s m t hand w c d e o h rest holder m_is =
    let batch_s : s.batch ≡ s₀.batch = ap (λ (x : Colouring). x.batch) rest in
    let batch : m.batch ≡ s₀.batch = ap (λ (x : Colouring). x.batch) m_is ∙ batch_s in
    let colour : m.colour ≡ set s.colour w None = ap (λ (x : Colouring). x.colour) m_is in
    let same : link_at s₀.batch w e ≡ link_at s₀.batch hand e = subst (λ (g : List Transfer). link_at g w e ≡ link_at g hand e) batch_s holder.1 in
    rw (batch, colour) (free_at_both s₀.batch (set s.colour w None) hand c e o
    (freed s₀.batch s₀.colours s.colour h.proper w hand c e holder.0 same)
    (still_free s₀.batch s₀.colours s.colour h.proper w hand c (other_end e) (some_within s.colour w c holder.0) h.c_free))

-- a step: w loses its colour and is in hand next, and `hand` takes it
pub record IsStep (s₀ s n : Colouring) (t w : ℕ) (o : End) (c d : ℕ) : Type 0 where
  pub on_path : IsOnPath s₀.batch s₀.colours s₀.colour t n.colour w o (other_end o) d c
  pub rest : n ≡ record s₀ { colour = n.colour }
  pub one : still c d s.colour s₀.colour ≡ still d c n.colour s₀.colour + 1

same_but_colour : (n s : Colouring) → n.batch ≡ s.batch → n.colours ≡ s.colours → n.inserted ≡ s.inserted → n ≡ record s { colour = n.colour }
same_but_colour n s a b c = rw (← a, ← b, ← c) refl

pub step : (s₀ s m n : Colouring) (t hand w c d : ℕ) (e o : End) → IsProper s₀.batch s₀.colours s₀.colour → colour_at s₀.colour t ≡ None
    → IsOnPath s₀.batch s₀.colours s₀.colour t s.colour hand e (other_end e) c d → s ≡ record s₀ { colour = s.colour } → (colour_at s.colour w ≡ Some c)
    × (link_at s.batch w e ≡ link_at s.batch hand e) → m ≡ record s { colour = set s.colour w None } → n ≡ record m { colour = set m.colour hand (Some c) }
    → IsProper n.batch n.colours n.colour → o ≡ other_end e → IsStep s₀ s n t w o c d
step s₀ s m n t hand w c d e o proper₀ out h rest holder m_is n_is proper o_is =
    let batch_s : s.batch ≡ s₀.batch = ap (λ (x : Colouring). x.batch) rest in
    let batch_n : n.batch ≡ s₀.batch = ap (λ (x : Colouring). x.batch) n_is ∙ (ap (λ (x : Colouring). x.batch) m_is ∙ batch_s) in
    let colours_n : n.colours ≡ s₀.colours = ap (λ (x : Colouring). x.colours) n_is
    ∙ (ap (λ (x : Colouring). x.colours) m_is ∙ ap (λ (x : Colouring). x.colours) rest) in
    let inserted_n : n.inserted ≡ s₀.inserted = ap (λ (x : Colouring). x.inserted) n_is
    ∙ (ap (λ (x : Colouring). x.inserted) m_is ∙ ap (λ (x : Colouring). x.inserted) rest) in
    let colour_n : n.colour ≡ set (set s.colour w None) hand (Some c) = ap (λ (x : Colouring). x.colour) n_is
    ∙ ap (λ (x : Colouring). set x.colour hand (Some c)) m_is in
    let same : link_at s₀.batch w e ≡ link_at s₀.batch hand e = subst (λ (g : List Transfer). link_at g w e ≡ link_at g hand e) batch_s holder.1 in
    let proper_n : IsProper s₀.batch s₀.colours (set (set s.colour w None) hand (Some c)) = rw (← batch_n, ← colours_n, ← colour_n) proper in
    record {
      on_path = rw (o_is, other-other e, colour_n) (path_goes_on s₀.batch s₀.colours s₀.colour t proper₀ out s.colour hand e (other_end e) c d w h holder.0 same
          proper_n);
      rest = same_but_colour n s₀ batch_n colours_n inserted_n;
      one = rw colour_n (still_less s₀.batch s₀.colours s₀.colour t proper₀ out s.colour hand e (other_end e) c d w h holder.0 same);
    }

-- ---- room

pub no_full_link : (s : Colouring) (t : ℕ) → placed_uses s.batch s.colour (link_at s.batch t Zero) < s.colours
    → placed_uses s.batch s.colour (link_at s.batch t Three) < s.colours → HasFullLink s t → ⊥
no_full_link s t zero three full =
    let at : full.link ≡ link_at s.batch t full.link.end = uses_at s.batch t full.link full.used in
    let room : (e : End) → placed_uses s.batch s.colour (link_at s.batch t e) < s.colours =
    λ e. elim e as (λ e. placed_uses s.batch s.colour (link_at s.batch t e) < s.colours) [ Zero ↦ zero | Three ↦ three ] in
    let less : placed_uses s.batch s.colour full.link < s.colours = rw at (room full.link.end) in
    let is = full.full in
    omega arith
