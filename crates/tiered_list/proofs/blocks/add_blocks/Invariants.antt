-- the blocks are those of the start with empty ones after them
use Rattle.std.proofs.Common.{◌≡◌, ◌≤◌, ◌-◌, ℕ, length}
use Rattle.tiered_list.specs.Blocks.{IsFilled, points_of}
use Rattle.tiered_list.proofs.blocks.add_blocks.Given as goal

abbrev pub invariant-loop-blocks : goal.invariant-loop-blocks
invariant-loop-blocks l = record {
  filled : (n : ℕ) → IsFilled n l.initial.blocks.items → IsFilled n l.blocks.items;
  points : points_of l.blocks.items ≡ points_of l.initial.blocks.items;
  few : length l.initial.blocks.items ≤ 9007199254740992 → length l.blocks.items ≤ 9007199254740992;
  more : length l.initial.blocks.items ≤ length l.blocks.items;
}

abbrev pub decreases-loop-blocks : goal.decreases-loop-blocks
decreases-loop-blocks l = l.count - length l.blocks.items
