-- The effect of a change on a set, and on two concatenated lists.
use Rattle.std.proofs.Common.{◌≡◌, refl, List, [], ◌∷◌, ◌++◌}
use Rattle.std.specs.List.{All, Contains}
use Rattle.lattice.specs.Covers.{IsPointSet, with_point, without_point}
use Rattle.lattice.specs.Plane.{Pair, IsBefore}
use Rattle.lattice.proofs.Order.{before_irrefl, is_before-false}
use Rattle.hull_geometry.proofs.SetLaws.{ordered_with, ordered_without}
use Rattle.hull_geometry.proofs.PointLists.{only_member}
use Rattle.leaf_trees.proofs.Rows.{with_left, with_right, without_left, without_right}

-- a change at a point of two concatenated lists changes the one that the point belongs to
pub record IsChange (f : Pair → List Pair → List Pair) : Type 0 where
  pub left : (p : Pair) (xs ys : List Pair) → All (IsBefore p) ys → f p (xs ++ ys) ≡ f p xs ++ ys
  pub right : (p : Pair) (xs ys : List Pair) → All (λ t. IsBefore t p) xs → f p (xs ++ ys) ≡ xs ++ f p ys
  pub ordered : (p : Pair) (xs : List Pair) → IsPointSet xs → IsPointSet (f p xs)

-- a point is added
pub added : IsChange with_point
added = record { left = with_left; right = with_right; ordered = ordered_with }

-- or removed
pub taken : IsChange without_point
taken = record { left = without_left; right = without_right; ordered = ordered_without }

-- a list of one without its point
pub without_only : (p q : Pair) → Contains (q ∷ []) p → without_point p (q ∷ []) ≡ []
without_only p q h = let e : p ≡ q = only_member q p h in rw (e, is_before-false q q (before_irrefl q)) refl
