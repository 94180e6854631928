-- the hole moved up to here, and no point was lost or changed its index
use Rattle.std.proofs.Common.{◌≡◌, length}
use Rattle.tiered_list.specs.Blocks.{IsFilledBut, points_of}
use Rattle.tiered_list.proofs.blocks.close_hole.Given as goal

abbrev pub invariant-loop-hole : goal.invariant-loop-hole
invariant-loop-hole l = record {
  filled : IsFilledBut l.hole l.len l.blocks.items;
  points : points_of l.blocks.items ≡ points_of l.initial.blocks.items;
  count : length l.blocks.items ≡ length l.initial.blocks.items;
}
