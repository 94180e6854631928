-- The box of a set, by its first and its last vertex, the lowest and the highest.
use Rattle.std.proofs.Common.{◌≡◌, ℕ, ◌<◌, ℤ, pos, neg_ℤ, ◌≤ℤ◌, List, length, refl, inl, inr, arith}
use Rattle.std.proofs.lemmas.Int.{ints}
use Rattle.std.proofs.lemmas.List.Elements.{All-contains}
use Rattle.lattice.specs.Plane.{Pair, product, IsBefore}
use Rattle.lattice.specs.Signs.{le_or_lt}
use Rattle.hull_geometry.specs.Tangents.{IsFirstFarthest}
use Rattle.hull_polygon.specs.Boxes.{IsBox}
use Rattle.hull_polygon.specs.Polygons.{IsPolygonOf}
use Rattle.hull_polygon.specs.Rounds.{vertex, IsSeparated}
use Rattle.hull_polygon.proofs.Vertices.{vertex_extreme}
use Rattle.hull_geometry.proofs.PointLists.{all_of}
use Rattle.hull_polygon.proofs.Ends.{ends_of}
use Rattle.lattice.proofs.Numbers.{le_opposites}

-- the direction up
abbrev up_way : Pair
up_way = record { x = pos 0; y = pos 1 }

-- the direction down
abbrev down_way : Pair
down_way = record { x = pos 0; y = neg_ℤ (pos 1) }

-- how far a point lies up is its second coordinate
up_is : (t : Pair) → product up_way t ≡ t.y
unfolding product
up_is t = omega (arith, ints)

-- how far a point lies down is the opposite
down_is : (t : Pair) → product down_way t ≡ neg_ℤ t.y
unfolding product
down_is t = omega (arith, ints)

-- a point that is not before another is not left of it
not_left : (p q : Pair) → ¬ (IsBefore q p) → p.x ≤ℤ q.x
not_left p q n = elim (le_or_lt p.x q.x) [ inl h ↦ h | inr h ↦ absurd (n (inl h)) ]

-- the box between those ends contains the set, and has a point on each side
pub boxed : (S V : List Pair) (last : ℕ) (low high : Pair) → IsPolygonOf S V → IsSeparated V last → 0 < length V
    → IsFirstFarthest S down_way low
    → IsFirstFarthest S up_way high
    → IsBox S (record { x = (vertex V 0).x; y = low.y }) (record { x = (vertex V last).x; y = high.y })
boxed S V last low high o p n down up = record {
  from_left = all_of (λ t. (vertex V 0).x ≤ℤ t.x) S (λ t m. not_left (vertex V 0) t ((ends_of S V last o p n).0 t m));
  from_below = all_of (λ t. low.y ≤ℤ t.y) S
      (λ t m. le_opposites _ _ _ _ (down_is t) (down_is low)
      (All-contains (λ t. product down_way t ≤ℤ product down_way low) S t down.1 m));
  to_right = all_of (λ t. t.x ≤ℤ (vertex V last).x) S
      (λ t m. not_left t (vertex V last) ((ends_of S V last o p n).1 t m));
  to_above = all_of (λ t. t.y ≤ℤ high.y) S
      (λ t m. higher _ _ _ _ (up_is t) (up_is high)
      (All-contains (λ t. product up_way t ≤ℤ product up_way high) S t up.1 m));
  left = (vertex V 0, (vertex_extreme S V 0 o.1 n).0, refl);
  bottom = (low, down.0, refl);
  right = (vertex V last, (vertex_extreme S V last o.1 n).0, refl);
  top = (high, up.0, refl);
}
  where
    higher : (u v x y : ℤ) → u ≡ x → v ≡ y → u ≤ℤ v → x ≤ℤ y
    higher u v x y e f h = omega (arith, ints)
