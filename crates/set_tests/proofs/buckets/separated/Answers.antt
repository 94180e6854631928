-- the points of a bucket are in order, so those of its first half are before those of its second
use Rattle.std.proofs.Common.{◌≡◌, ◌++◌, ◌∙◌, List, subst}
use Rattle.std.specs.List.{Contains}
use Rattle.lattice.specs.Covers.{IsPointSet}
use Rattle.lattice.specs.Bridges.{IsAllBefore}
use Rattle.lattice.specs.Plane.{Pair}
use Rattle.hull_geometry.proofs.PointSets.{set_apart}
use Rattle.set_tests.proofs.buckets.separated.Goals as goal

-- two parts of a list that is in order
in_order : (all xs ys : List Pair) → IsPointSet all → all ≡ xs ++ ys → IsAllBefore (Contains xs) (Contains ys)
in_order all xs ys s e p q h k = set_apart xs ys p q (subst IsPointSet e s) h k

pub returns-clause-order : goal.returns-clause-order
returns-clause-order c =
    in_order _ _ _ c.points.ensures.ordered (c.points.ensures.points ∙ c.split.ensures.points)
