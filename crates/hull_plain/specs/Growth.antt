-- The hull of points that are only added, by its two chains.
use Rattle.std.specs.Prelude.{◌≤◌, ◌⊎◌, ⊤, List, length}
use Rattle.lattice.specs.Plane.{Pair}
use Rattle.lattice.specs.Covers.{IsPointSet, with_point}
use Rattle.hull_geometry.specs.Monotone.{AreChainsOf}
use Rattle.hull_set.specs.declared.TheConstants.{POINT_LIMIT}
use Rattle.hull_plain.specs.Octagons.{IsOctagonInside}
use Rattle.hull_plain.specs.declared.octagon.Octagon.{Octagon}
use Rattle.hull_plain.specs.declared.growing_hull.GrowFault.{GrowFault}
use Rattle.hull_plain.specs.declared.growing_hull.GrowFault.TheVariants.{TooMany, NoMemory}

-- the vertices in order, of the lower chain and of the upper one
pub record Chains : Type 0 where
  pub lower : List Pair
  pub upper : List Pair

-- they are the chains of the hull of a set S
abbrev pub IsHullOf : List Pair → Chains → Type 0
IsHullOf S h = IsPointSet S × AreChainsOf S h.lower h.upper

-- each set whose hull one is has, with p, the other as its hull
abbrev pub HasGrownBy : Pair → Chains → Chains → Type 0
HasGrownBy p old new = (S : List Pair) → IsHullOf S old → IsHullOf (with_point p S) new

-- the chains of some set, each with no more vertices than a set may have points, and an octagon inside the hull
pub record IsGrowingHull (h : Chains) (octagon : Octagon) : Type 0 where
  pub some : (S : List Pair) × AreChainsOf S h.lower h.upper
  pub in_order : IsPointSet some.0
  pub few_below : length h.lower ≤ POINT_LIMIT
  pub few_above : length h.upper ≤ POINT_LIMIT
  pub inside : IsOctagonInside h.lower h.upper octagon

-- why a point is refused: a chain has as many vertices as a set may have points, or memory was refused
abbrev pub IsWhyNotGrown : GrowFault → Chains → Type 0
IsWhyNotGrown TooMany h = (POINT_LIMIT ≤ length h.lower) ⊎ (POINT_LIMIT ≤ length h.upper)
IsWhyNotGrown NoMemory h = ⊤
