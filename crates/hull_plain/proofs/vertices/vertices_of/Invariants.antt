-- after the lower chain are the points of the upper one, from its end back to the index `i - 1`, without the end
use Rattle.std.proofs.Common.{◌≡◌, ◌<◌, ◌≤◌, ◌-◌, ◌++◌, [], List, length}
use Rattle.lattice.specs.Plane.{Pair}
use Rattle.hull_geometry.specs.Edges.{IsUpperEdge, IsChain, end_of}
use Rattle.hull_geometry.specs.Monotone.{IsChainOf}
use Rattle.hull_geometry.specs.Positions.{point_at}
use Rattle.lattice.specs.declared.side.Side.TheVariants.{Upper}
use Rattle.hull_plain.proofs.vertices.vertices_of.Given as goal

abbrev pub invariant-loop-i : goal.invariant-loop-i
invariant-loop-i l = record {
  within : l.i ≤ length l.upper.items;
  low : 1 < length l.upper.items → 1 < l.i;
  walk : (passed : List Pair) × (l.out.items ≡ l.lower.items ++ passed) × (length l.upper.items < 2 → passed ≡ [])
      × (end_of (point_at l.upper.items (length l.upper.items - 1)) passed ≡ point_at l.upper.items (l.i - 1))
      × ((S : List Pair) → IsChainOf Upper S l.upper.items
      → IsChain (IsUpperEdge S) (point_at l.upper.items (length l.upper.items - 1)) passed);
}

abbrev pub decreases-loop-i : goal.decreases-loop-i
decreases-loop-i l = l.i
