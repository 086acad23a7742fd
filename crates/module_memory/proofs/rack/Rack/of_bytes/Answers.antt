use Rattle.std.proofs.Common.{ℕ, ◌≡◌, ◌+◌, ◌*◌, List, [], ◌∷◌, ◌++◌, length, drop, sym, ap₂, ◌∙◌, subst, arith, rules}
use Rattle.std.proofs.lemmas.Grind.{common_steps}
use Rattle.std.specs.List.{flat_map}
use Rattle.module_memory.specs.Images.{bytes_of_block}
use Rattle.module_memory.proofs.Images.{AreRead, more_read, image_more, room_left}
use Rattle.module_memory.proofs.rack.Rack.of_bytes.Goals as goal

pub split_at-requires : goal.split_at-requires
split_at-requires c =
    let shape = c.args.shape in
    let count = ap₂ (λ (x y : ℕ). x * y) c.modules.ensures.value c.blocks-2.ensures.value in
    let room = room_left shape.modules shape.blocks shape.words c.loop.counter _ (length c.loop.rest.now) c.loop.invariant.left c.requires
    (omega (arith, count)) in
    omega (arith, room, c.words.ensures.value)

pub loop-preserved : goal.loop-preserved
loop-preserved c =
    let shape = c.args.shape in
    let inv = c.loop.invariant in
    let read = c.loop.blocks.items in
    let b : List ℕ = c.in_ok-of_bytes.field-0 in
    let rest = c.loop.rest.now in
    let size : ℕ = 4 * c.words.result in
    let pushed : c.push.new.self.items ≡ read ++ b ∷ [] = search rules in
    let left : c.split_at.result.1.now ≡ drop size rest = search rules in
    let count = ap₂ (λ (x y : ℕ). x * y) c.modules.ensures.value c.blocks-2.ensures.value in
    let room = room_left shape.modules shape.blocks shape.words c.loop.counter _ (length rest) inv.left c.requires (omega (arith, count)) in
    let long : length b ≡ shape.words = omega (arith, c.in_ok-of_bytes.ensures.len, c.split_at.ensures.front_len) in
    record {
      read = subst (AreRead shape.words (c.loop.counter + 1)) (sym pushed) (more_read shape.words c.loop.counter read b long c.in_ok-of_bytes.ensures.words
          inv.read);
      image = ap₂ (λ (xs : List (List ℕ)) (ys : List ℕ). flat_map bytes_of_block xs ++ ys) pushed left
          ∙ image_more read b rest c.args.bytes.now size (c.in_ok-of_bytes.ensures.bytes ∙ c.split_at.ensures.front) inv.image;
      left = omega (arith, room, inv.left, c.words.ensures.value, c.split_at.ensures.back_len);
    }

pub returns : goal.returns
returns c = grind (arith, common_steps)
