use Rattle.std.proofs.Common.{ℕ, ◌≡◌, ◌<◌, ◌+◌, List, [], ◌∷◌, ◌++◌, length, take, ap, ap₂, ◌∙◌, sym, subst, subst₂, arith, take_all, is_ok, true, Bool, cond, vec_len, rules}
use Rattle.std.proofs.lemmas.Grind.{common_steps}
use Rattle.std.proofs.lemmas.List.{take_more, map_push}
use Rattle.batch.specs.ShapeView.{ShapeView}
use Rattle.batch.specs.declared.transfer.Place.{Place}
use Rattle.batch.specs.Places.{HasPlace}
use Rattle.module_memory.specs.Store.{IsWhole, Store, set_block, block_of}
use Rattle.module_memory.specs.Bays.{AreLent}
use Rattle.module_memory.specs.Lending.{RestView, AreCopies, BlockAt, AreLendable, place_in, bays_of, without, store_rejoined, Rejoins}
use Rattle.module_memory.proofs.PartLaws.{AreLent-parted, shape-without, without_push, block_of-without, off_earlier, joined-without, Rejoins-parted}
use Rattle.module_memory.proofs.rack.Rack.part.Goals as goal

pub lend-requires : goal.lend-requires
lend-requires c =
    let h : AreLendable c.args.self.shape c.args.places.now = search rules in
    let i = c.loop-place.place-index in
    let same : c.loop-place.rest.store.shape ≡ c.args.self.shape = ap (λ (s : Store). s.shape) c.loop-place.invariant.rest
    ∙ shape-without c.args.self (take i c.args.places.now) in
    subst (λ (s : ShapeView). HasPlace s (place_in c.args.places.now i)) (sym same) (h.exist i (omega arith))

abbrev bay_with : Place → List ℕ → BlockAt
bay_with p ws = record { place = p; words = ws }

pub loop-place-preserved : goal.loop-place-preserved
loop-place-preserved c =
    let h : AreLendable c.args.self.shape c.args.places.now = search rules in
    let inv = c.loop-place.invariant in
    let i = c.loop-place.place-index in
    let ps = c.args.places.now in
    let s = c.args.self in
    let p = place_in ps i in
    let front = take i ps in
    let below : i < length ps = omega arith in
    let next : take (i + 1) ps ≡ front ++ p ∷ [] = take_more ps i _ below in
    let ok : is_ok c.push.result ≡ true = c.push.ensures.succeeds (omega (arith, inv.count, inv.room)) in
    let words : block_of c.loop-place.rest.store p ≡ block_of s p =
    ap (λ (t : Store). block_of t p) inv.rest ∙ block_of-without s front p (off_earlier s.shape ps i h below) in
    let bay = c.lend.ensures.bay ∙ ap (λ (ws : List ℕ). bay_with p ws) words in
    record {
      bays = c.push.ensures.items
          ∙ ap (λ (b : Bool). cond b (c.loop-place.bays.items ++ c.lend.result ∷ []) c.loop-place.bays.items) ok
          ∙ ap₂ (λ (xs : List BlockAt) (x : BlockAt). xs ++ x ∷ []) inv.bays bay
          ∙ sym (map_push (λ (q : Place). bay_with q (block_of s q)) front p)
          ∙ ap (bays_of s) (sym next);
      held = subst (λ (x : RestView). AreCopies s c.args.held.now x.held) (sym c.lend.ensures.rest) inv.held;
      rest = ap (λ (x : RestView). x.store) c.lend.ensures.rest
          ∙ ap (λ (t : Store). set_block t p []) inv.rest
          ∙ sym (without_push s front p)
          ∙ ap (without s) (sym next);
      count = c.push.ensures.len ∙ ap (λ (b : Bool). cond b (vec_len c.loop-place.bays + 1) (vec_len c.loop-place.bays)) ok ∙ ap (λ (n : ℕ). n + 1) inv.count;
      room = omega (arith, inv.room, c.push.ensures.capacity);
    }

pub returns-clause-store : goal.returns-clause-store
returns-clause-store c =
    let h : AreLendable c.args.self.shape c.args.places.now = search rules in
    let inv = c.loop-place.invariant in
    let i = c.loop-place.place-index in
    let ps = c.args.places.now in
    let all : take i ps ≡ ps = take_all i ps (omega arith) in
    ap₂ store_rejoined (inv.rest ∙ ap (without c.args.self) all) (inv.bays ∙ ap (bays_of c.args.self) all) ∙ joined-without c.args.self ps h

pub returns-clause-rejoins : goal.returns-clause-rejoins
returns-clause-rejoins c =
    let h : AreLendable c.args.self.shape c.args.places.now = search rules in
    let whole : IsWhole c.args.self = subst IsWhole c.self.view_is c.self.invariant in
    let inv = c.loop-place.invariant in
    let i = c.loop-place.place-index in
    let ps = c.args.places.now in
    let all : take i ps ≡ ps = take_all i ps (omega arith) in
    subst₂ Rejoins (sym (inv.rest ∙ ap (without c.args.self) all)) (sym (inv.bays ∙ ap (bays_of c.args.self) all)) (Rejoins-parted c.args.self ps whole h)

pub returns-clause-lent : goal.returns-clause-lent
returns-clause-lent c =
    let h : AreLendable c.args.self.shape c.args.places.now = search rules in
    let whole : IsWhole c.args.self = subst IsWhole c.self.view_is c.self.invariant in
    let inv = c.loop-place.invariant in
    let ps = c.args.places.now in
    let all : take c.loop-place.place-index ps ≡ ps = take_all c.loop-place.place-index ps (omega arith) in
    subst₂ AreLent (sym (inv.rest ∙ ap (without c.args.self) all)) (sym (inv.bays ∙ ap (bays_of c.args.self) all)) (AreLent-parted c.args.self ps whole h)

pub returns-in_default-with_capacity-clause-fault : goal.returns-in_default-with_capacity-clause-fault
returns-in_default-with_capacity-clause-fault c = search rules

pub returns-clause-bays : goal.returns-clause-bays
returns-clause-bays c = grind (arith, common_steps)

pub returns-clause-rest : goal.returns-clause-rest
returns-clause-rest c = grind (arith, common_steps)
