-- the boxes of the first polygons
use Rattle.std.proofs.Common.{◌≡◌, ◌<◌, ◌≤◌, length, vec_capacity, vec_len}
use Rattle.std.specs.List.{All}
use Rattle.polygon_pairs.specs.Boxes.{AreBoxes}
use Rattle.polygon_pairs.proofs.Boxes.{indices_of}
use Rattle.polygon_pairs.proofs.boxed.all_boxes.Given as goal

abbrev pub invariant-loop-i : goal.invariant-loop-i
invariant-loop-i l = record {
  found : AreBoxes l.polygons l.i l.boxes.items;
  below : All (λ n. n < l.i) (indices_of l.boxes.items);
  short : vec_len l.boxes ≤ l.i;
  room : vec_capacity l.boxes ≡ length l.polygons;
}
