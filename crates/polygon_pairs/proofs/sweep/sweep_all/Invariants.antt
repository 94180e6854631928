-- the pairs of the first boxes with all later ones were found
use Rattle.std.proofs.Common.{◌<◌, ◌≤◌, ◌*◌, List, length}
use Rattle.polygon_pairs.specs.Sweeps.{Adds, ArePairsOf}
use Rattle.polygon_pairs.specs.declared.pair.HullPair.{HullPair}
use Rattle.polygon_pairs.proofs.Boxes.{indices_of}
use Rattle.polygon_pairs.proofs.sweep.sweep_all.Given as goal

abbrev pub invariant-loop-i : goal.invariant-loop-i
invariant-loop-i l = record {
  found : (more : List HullPair) × Adds more l.fn.out 0 l.out l.count
      × ArePairsOf (λ a b. a < l.i) l.reach l.polygons (indices_of l.boxes) more;
  few : l.count ≤ l.i * length l.boxes;
}
