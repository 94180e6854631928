-- The points of a half as a list.
use Rattle.std.specs.Prelude.{List, [], ◌∷◌, ◌++◌}
use Rattle.lattice.specs.Plane.{Pair}
use Rattle.bridge_search.specs.Trees.{Tree, Leaf, Fork}

-- the points of the tree from left to right
abbrev pub points_of : Tree → List Pair
points_of (Leaf x) = x ∷ []
points_of (Fork e f u w) = points_of u ++ points_of w
