-- the nearest of the candidate and the first points
use Rattle.std.proofs.Common.{◌≡◌, ◌∷◌, take}
use Rattle.lattice.specs.Plane.{distance_squared}
use Rattle.bucket_tree.specs.NearestPoints.{IsNearestPoint}
use Rattle.bucket_tree.proofs.nearest.nearest_of.Given as goal

abbrev pub invariant-loop-i : goal.invariant-loop-i
invariant-loop-i l = record {
  nearest : IsNearestPoint l.q (l.best.point ∷ take l.i l.points) l.found.point;
  squared : l.found.squared ≡ distance_squared l.q l.found.point;
}
