use Rattle.std.proofs.Common.{◌≡◌, ℕ, ◌<◌, length, get_or, []}
use Rattle.std.specs.List.{range_with_len}
use Rattle.module_memory.specs.Store.{IsWhole}
use Rattle.module_memory.proofs.Marking.{mark_at}
use Rattle.module_memory.proofs.rack.Rack.mark.Given as goal

abbrev pub invariant-loop-index : goal.invariant-loop-index
invariant-loop-index l = record {
  shape : l.self-inside.shape ≡ l.fn.self.shape;
  count : length l.self-inside.blocks.items ≡ length l.fn.self.blocks;
  end : l.index-end ≡ length l.fn.self.blocks;
  width : l.blocks ≡ l.fn.self.shape.blocks;
  whole : IsWhole (record { shape = l.self-inside.shape; blocks = l.self-inside.blocks.items });
  done : (k : ℕ) → k < l.index → get_or l.self-inside.blocks.items k [] ≡ range_with_len (mark_at l.fn.self.shape.blocks k) l.fn.self.shape.words;
}
