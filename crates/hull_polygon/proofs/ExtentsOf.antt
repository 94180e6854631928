-- The extent of a set in a direction.
use Rattle.std.proofs.Common.{◌≡◌, ℤ, ◌-ℤ◌, ◌≤ℤ◌, sym, subst, List, arith}
use Rattle.std.specs.List.{Contains}
use Rattle.std.proofs.lemmas.Int.{ints}
use Rattle.std.proofs.lemmas.List.Elements.{All-contains}
use Rattle.lattice.specs.Plane.{Pair, product}
use Rattle.hull_geometry.specs.Tangents.{IsFirstFarthest}
use Rattle.hull_polygon.specs.Extents.{IsExtent}
use Rattle.hull_polygon.specs.Steps.{backward}
use Rattle.lattice.proofs.Numbers.{le_opposites}
use Rattle.hull_geometry.proofs.Slopes.{product-opp}

-- the point farthest backwards is nearest
nearest_by : (S : List Pair) (d b q : Pair) → b ≡ backward d → IsFirstFarthest S b q → (t : Pair) → Contains S t
    → product d q ≤ℤ product d t
nearest_by S d b q e f t m =
    le_opposites _ _ _ _ (product-opp d t) (product-opp d q)
    (All-contains (λ u. product (backward d) u ≤ℤ product (backward d) q) S t
    (subst (λ (z : Pair). IsFirstFarthest S z q) e f).1 m)

-- the farthest point lies no less far than the one farthest backwards
pub no_less_far : (S : List Pair) (d b p q : Pair) → b ≡ backward d → IsFirstFarthest S d p → IsFirstFarthest S b q
    → product d q ≤ℤ product d p
no_less_far S d b p q e f g = nearest_by S d b q e g p f.0

-- their difference is the extent
pub extent_of : (S : List Pair) (d b p q : Pair) (n : ℤ) → b ≡ backward d → IsFirstFarthest S d p
    → IsFirstFarthest S b q → n ≡ product d p -ℤ product d q → IsExtent S d n
extent_of S d b p q n e f g h = record {
  most = λ s t ms mt. at_most (product d s) (product d t) (product d p) (product d q) h
      (All-contains (λ u. product d u ≤ℤ product d p) S s f.1 ms) (nearest_by S d b q e g t mt);
  reached = (p, q, f.0, g.0, sym h);
}
  where
    at_most : (x y u v : ℤ) → n ≡ u -ℤ v → x ≤ℤ u → v ≤ℤ y → (x -ℤ y) ≤ℤ n
    at_most x y u v e h k = omega (arith, ints)
