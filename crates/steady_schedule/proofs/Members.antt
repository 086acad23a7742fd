-- The pairs that the transfers of settings join.
use Rattle.std.proofs.Common.{◌≡◌, ◌==◌, ℕ, ◌<◌, List, [], length, get_or, true, ◌&&◌, sym, subst, eq-eqb, arith}
use Rattle.std.specs.Prelude.{Contains}
use Rattle.std.proofs.lemmas.Bool.{and_parts, and_from, eqb-true}
use Rattle.std.proofs.lemmas.Option.{slice_get_within}
use Rattle.batch.specs.declared.transfer.Transfer.{Transfer}
use Rattle.link_graph.specs.Marks.{members}
use Rattle.steady_schedule.specs.Changes.{are_partners, join_within, join_same}
use Rattle.steady_schedule.specs.Gathered.{AreGathered}
use Rattle.steady_schedule.specs.Slots.{JoinsAs}
use Rattle.steady_schedule.proofs.Joined.{within_from}
use Rattle.steady_schedule.proofs.Standing.{member_any, any_member, some_stands}

module _ (batch : List Transfer) (numbers : List ℕ) (settings : List (List ℕ)) (count : ℕ) (sized : length numbers ≡ length batch)
    (g : AreGathered numbers count settings) where
  -- a transfer stands in the setting of its number
  pub stands_at : (t : ℕ) → t < length batch → Contains (get_or settings (get_or numbers t 0) []) t
  stands_at t t_in =
      let r = some_stands t settings (omega (arith, g.once t (omega (arith, sized, t_in)))) in
      subst (λ (k : ℕ). Contains (get_or settings k []) t) (sym (g.within r.0 t r.2).1) r.2

  abbrev setting_at : ℕ → List Transfer
  setting_at d = members batch (get_or settings d [])

  pub joins_in : (d u v : ℕ) → JoinsAs batch numbers d u v → are_partners (setting_at d) u v ≡ true
  joins_in d u v j =
      let stands = subst (λ (k : ℕ). Contains (get_or settings k []) j.t) j.number (stands_at j.t (slice_get_within batch j.t j.x j.here)) in
      member_any batch (get_or settings d []) (λ y. y.initiator == u && y.responder == v) j.t j.x stands j.here
      (and_from (j.x.initiator == u) (j.x.responder == v) (eq-eqb j.x.initiator u j.zero_is) (eq-eqb j.x.responder v j.three_is))

  pub joins_out : (d u v : ℕ) → are_partners (setting_at d) u v ≡ true → JoinsAs batch numbers d u v
  joins_out d u v any =
      let m = any_member batch (get_or settings d []) (λ y. y.initiator == u && y.responder == v) any in
      let both = and_parts (m.1.initiator == u) (m.1.responder == v) m.4 in
      record {
        t = m.0;
        x = m.1;
        here = m.3;
        zero_is = eqb-true m.1.initiator u both.0;
        three_is = eqb-true m.1.responder v both.1;
        number =
            (g.within d m.0 m.2).1;
      }

  pub same_joined : (d e : ℕ) → ((u v : ℕ) → (JoinsAs batch numbers d u v → JoinsAs batch numbers e u v)
      × (JoinsAs batch numbers e u v → JoinsAs batch numbers d u v)) → join_same batch (get_or settings d []) (get_or settings e []) ≡ true
  same_joined d e same = and_from (join_within (setting_at d) (setting_at e)) (join_within (setting_at e) (setting_at d))
      (within_from (setting_at d) (setting_at e) (λ u v any. joins_in e u v ((same u v).0 (joins_out d u v any))))
      (within_from (setting_at e) (setting_at d) (λ u v any. joins_in d u v ((same u v).1 (joins_out e u v any))))
