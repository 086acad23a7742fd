use Rattle.std.proofs.Common.{◌≡◌, ◌+◌, ◌-◌, ◌*◌, ◌<◌, List, length, set, slice_index, sym, ap, ◌∙◌, subst, ℕ, arith}
use Rattle.batch.specs.declared.limits.TheConstants.{MAX_MODULES}
use Rattle.std.proofs.lemmas.Option.{same_Some}
use Rattle.steady_schedule.specs.Waiting.{sum_below, pair_index, count_at}
use Rattle.steady_schedule.specs.Slots.{AreSlotsFilled, IsKeptFor}
use Rattle.steady_schedule.proofs.Matchings.{partner_low}
use Rattle.steady_schedule.proofs.Slots.{slot_inside}
use Rattle.steady_schedule.proofs.Waiting.{count_here}
use Rattle.steady_schedule.proofs.numbering.hold_one.Goals as goal

pub take-requires-clause-there : goal.take-requires-clause-there
take-requires-clause-there c = c.requires.there c.in-Some.three c.in-Some.is

module _ (totals remaining after : List ℕ) (u v k count : ℕ) (places : length remaining ≡ MAX_MODULES * MAX_MODULES) (u_in : u < MAX_MODULES)
    (v_in : v < MAX_MODULES) (taken : after ≡ set remaining (pair_index u v) (count_at remaining u v - k)) (counted : count ≡ count_at after u v) where
  is_less : count ≡ count_at remaining u v - k
  is_less = counted ∙ (ap (λ (xs : List ℕ). count_at xs u v) taken ∙ count_here remaining u v (count_at remaining u v - k) places u_in v_in)

  held : (slots slots_now : List ℕ) (first at : ℕ) → at ≡ sum_below (pair_index u v) (slice_index totals) + count → AreSlotsFilled at first k slots slots_now
      → IsKeptFor totals u v first k remaining slots after slots_now
  held slots slots_now first at at_is written = record {
    taken = taken;
    written = subst (λ (p : ℕ). AreSlotsFilled p first k slots slots_now) (at_is ∙ ap (λ (n : ℕ). sum_below (pair_index u v) (slice_index totals) + n) is_less)
        written;
  }

pub slot-at-requires-clause-there : goal.slot-at-requires-clause-there
slot-at-requires-clause-there c =
    let l = c.args.remaining.now in
    let m = c.args.matching.now in
    let v_in = partner_low m.zero m.three c.args.zero c.in-Some.three m.matched c.in-Some.is in
    omega (
      arith,
      is_less c.args.places.now.totals.now l.counts c.take.new.self.counts c.args.zero c.in-Some.three c.args.settings c.count-rest.result
          l.told.places c.requires.zero_in v_in c.take.ensures c.count-rest.ensures,
      c.requires.within.within c.args.zero c.in-Some.three c.requires.zero_in v_in,
    )

pub write_pair-requires-clause-room : goal.write_pair-requires-clause-room
write_pair-requires-clause-room c =
    let l = c.args.remaining.now in
    let m = c.args.matching.now in
    let totals = c.args.places.now.totals.now in
    let v_in = partner_low m.zero m.three c.args.zero c.in-Some.three m.matched c.in-Some.is in
    let less = is_less totals l.counts c.take.new.self.counts c.args.zero c.in-Some.three c.args.settings c.count-rest.result l.told.places c.requires.zero_in
    v_in c.take.ensures c.count-rest.ensures in
    omega (
      arith,
      less,
      c.slot-at.ensures,
      c.requires.within.sized,
      c.requires.there c.in-Some.three c.in-Some.is,
      slot_inside totals c.args.zero c.in-Some.three (count_at l.counts c.args.zero c.in-Some.three) c.requires.zero_in v_in
          (c.requires.within.within c.args.zero c.in-Some.three c.requires.zero_in v_in),
    )

pub returns-then-rest-eq0-clause-joined : goal.returns-then-rest-eq0-clause-joined
returns-then-rest-eq0-clause-joined c y e =
    let l = c.args.remaining.now in
    let m = c.args.matching.now in
    let totals = c.args.places.now.totals.now in
    let v_in = partner_low m.zero m.three c.args.zero c.in-Some.three m.matched c.in-Some.is in
    subst (λ (z : ℕ). IsKeptFor totals c.args.zero z c.args.first c.args.settings l.counts c.args.slots.now c.take.new.self.counts c.write_pair.new.slots)
    (same_Some c.in-Some.three y (sym c.in-Some.is ∙ e))
    (held totals l.counts c.take.new.self.counts c.args.zero c.in-Some.three c.args.settings c.count-rest.result l.told.places c.requires.zero_in v_in
    c.take.ensures c.count-rest.ensures c.args.slots.now c.write_pair.new.slots c.args.first c.slot-at.result c.slot-at.ensures c.write_pair.ensures)

pub returns-else-rest-eq0-clause-joined : goal.returns-else-rest-eq0-clause-joined
returns-else-rest-eq0-clause-joined c y e =
    let l = c.args.remaining.now in
    let m = c.args.matching.now in
    let totals = c.args.places.now.totals.now in
    let v_in = partner_low m.zero m.three c.args.zero c.in-Some.three m.matched c.in-Some.is in
    subst (λ (z : ℕ). IsKeptFor totals c.args.zero z c.args.first c.args.settings l.counts c.args.slots.now c.take.new.self.counts c.write_pair.new.slots)
    (same_Some c.in-Some.three y (sym c.in-Some.is ∙ e))
    (held totals l.counts c.take.new.self.counts c.args.zero c.in-Some.three c.args.settings c.count-rest.result l.told.places c.requires.zero_in v_in
    c.take.ensures c.count-rest.ensures c.args.slots.now c.write_pair.new.slots c.args.first c.slot-at.result c.slot-at.ensures c.write_pair.ensures)
