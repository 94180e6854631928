-- Halves whose points are a set in a row.
use Rattle.std.proofs.Common.{◌++◌}
use Rattle.lattice.specs.Covers.{IsPointSet}
use Rattle.lattice.specs.Bridges.{IsAllBefore}
use Rattle.bridge_search.specs.Trees.{Tree, On}
use Rattle.bridge_search.specs.Leaves.{points_of}
use Rattle.bridge_search.proofs.Leaves.{contains_of_on}
use Rattle.hull_geometry.proofs.PointSets.{set_apart}

-- two halves whose points are a set in a row: all of the left one before all of the right one
pub all_before_of_set : (u w : Tree) → IsPointSet (points_of u ++ points_of w) → IsAllBefore (On u) (On w)
all_before_of_set u w s p q h k =
    set_apart (points_of u) (points_of w) p q s (contains_of_on u p h) (contains_of_on w q k)
