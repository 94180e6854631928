-- The slabs of a half: the parts of the plane between the ends of its lower edges, by x and then y.
use Rattle.std.specs.Prelude.{◌≡◌}
use Rattle.lattice.specs.Plane.{Pair, IsBefore}
use Rattle.bridge_search.specs.Trees.{Tree, first_of, last_of}
use Rattle.bridge_search.specs.Leaves.{points_of}
use Rattle.hull_geometry.specs.Locations.{IsLowerEdgeAt}
use Rattle.hull_questions.specs.declared.slabs.Slab.{Slab}
use Rattle.hull_questions.specs.declared.slabs.Slab.TheVariants.{Before, After, Last, Edge}

-- q is in this slab: before or after all points, at the last one, or before the right end of a lower edge and not
-- before its left end
abbrev pub IsSlab : Tree → Pair → Slab → Type 0
IsSlab t q Before = IsBefore q (first_of t)
IsSlab t q After = IsBefore (last_of t) q
IsSlab t q Last = q ≡ last_of t
IsSlab t q (Edge e) = IsLowerEdgeAt (points_of t) q e
