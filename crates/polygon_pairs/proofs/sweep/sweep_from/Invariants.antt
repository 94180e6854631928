-- the pairs of the box at the place with those up to j were found
use Rattle.std.proofs.Common.{◌≡◌, ◌+◌, ◌<◌, ◌≤◌, List}
use Rattle.polygon_pairs.specs.Sweeps.{Adds, ArePairsOf}
use Rattle.polygon_pairs.specs.declared.pair.HullPair.{HullPair}
use Rattle.polygon_pairs.proofs.Boxes.{indices_of}
use Rattle.polygon_pairs.proofs.sweep.sweep_from.Given as goal

abbrev pub invariant-loop-j : goal.invariant-loop-j
invariant-loop-j l = record {
  found : (more : List HullPair) × Adds more l.fn.out l.count l.out l.total
      × ArePairsOf (λ a b. (a ≡ l.at) × (b < l.j)) l.reach l.polygons (indices_of l.boxes) more;
  few : l.total ≤ l.count + l.j;
}
