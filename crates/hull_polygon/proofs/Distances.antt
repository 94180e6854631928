-- No point that is covered is nearer than the nearest vertex or edge.
use Rattle.std.proofs.lemmas.Grind.{common_steps}
use Rattle.std.proofs.Common.{◌≡◌, ℤ, pos, ◌+ℤ◌, ◌-ℤ◌, ◌*ℤ◌, ◌≤ℤ◌, ◌<ℤ◌, neg_ℤ, inl, inr, List, arith}
use Rattle.std.specs.List.{Contains}
use Rattle.std.proofs.lemmas.Int.{ints}
use Rattle.std.proofs.lemmas.List.Elements.{All-contains}
use Rattle.lattice.specs.Covers.{Covers}
use Rattle.lattice.specs.Plane.{Pair, orient, product, distance_squared}
use Rattle.lattice.specs.Polynomials.{difference-eq, as_difference, difference_rules}
use Rattle.lattice.proofs.Vectors.{as_pair}
use Rattle.lattice.specs.Signs.{le_or_lt, product_nn}
use Rattle.hull_geometry.proofs.NotCovered.{not_covered}
use Rattle.hull_polygon.specs.Nearest.{NoneNearerThanVertex, NoneNearerThanEdge}
use Rattle.hull_polygon.specs.Steps.{step, left_of}
use Rattle.hull_polygon.proofs.Cones.{square_nn}
use Rattle.hull_geometry.proofs.PointLists.{all_of}
use Rattle.hull_polygon.proofs.Shields.{product_left}
use Rattle.lattice.proofs.Numbers.{le_by_opposite, le_less_trans, sum_nn}
use Rattle.lattice.proofs.LineCrossings.{orient_other}

-- a covered point is no farther in a direction than a bound that no point of S exceeds
pub covered_near : (S : List Pair) (d p : Pair) (m : ℤ) → ((s : Pair) → Contains S s → product d s ≤ℤ m) → Covers S p
    → product d p ≤ℤ m
covered_near S d p m h c = elim (le_or_lt (product d p) m) [
  | inl k ↦ k
  | inr k ↦ absurd (not_covered S p (d, all_of (λ s. product d s <ℤ product d p) S (λ s n. le_less_trans _ _ _ (h s n) k)) c)
]

-- ---- a vertex

-- how much farther from q another point is than c
farther_by : (c p q : Pair)
    → distance_squared q p -ℤ distance_squared q c
    ≡ distance_squared c p +ℤ
    ((product (step c q) c -ℤ product (step c q) p) +ℤ (product (step c q) c -ℤ product (step c q) p))
unfolding product distance_squared
farther_by c p q = rw (as_pair c, as_pair p, as_pair q) (simp difference_rules (difference-eq _ _ _ _ (omega arith)))

-- a squared distance is not negative
pub distance_nn : (a b : Pair) → pos 0 ≤ℤ distance_squared a b
unfolding distance_squared
distance_nn a b = sum_nn _ _ (square_nn (b.x -ℤ a.x)) (square_nn (b.y -ℤ a.y))

-- no covered point is nearer than the nearest vertex
pub vertex_nearest : NoneNearerThanVertex
vertex_nearest S q c p h k =
    farther _ _ _ _ _ (farther_by c p q) (distance_nn c p)
    (covered_near S (step c q) p (product (step c q) c)
    (λ s m. All-contains (λ t. product (step c q) t ≤ℤ product (step c q) c) S s h.nearest m) k)
  where
    farther : (x y d u v : ℤ) → x -ℤ y ≡ d +ℤ ((u -ℤ v) +ℤ (u -ℤ v)) → pos 0 ≤ℤ d → v ≤ℤ u → y ≤ℤ x
    farther x y d u v e h k = omega (arith, ints)

-- ---- an edge

-- how far the step from q to p goes along an edge
abbrev along_by : Pair → Pair → Pair → Pair → ℤ
along_by a b q p = (b.x -ℤ a.x) *ℤ (p.x -ℤ q.x) +ℤ (b.y -ℤ a.y) *ℤ (p.y -ℤ q.y)

-- the squares of the parts of a vector across another and along it sum to the product of both squared lengths
-- (Lagrange)
pub lagrange : (u v x y : ℤ)
    → (u *ℤ u +ℤ v *ℤ v) *ℤ (x *ℤ x +ℤ y *ℤ y)
    ≡ (u *ℤ y -ℤ v *ℤ x) *ℤ (u *ℤ y -ℤ v *ℤ x) +ℤ (u *ℤ x +ℤ v *ℤ y) *ℤ (u *ℤ x +ℤ v *ℤ y)
lagrange u v x y =
    rw (as_difference u, as_difference v, as_difference x, as_difference y)
    (simp difference_rules (difference-eq _ _ _ _ (omega arith)))

-- how the side changes from q to p
side_change : (a b q p : Pair)
    → orient a b p -ℤ orient a b q ≡ (b.x -ℤ a.x) *ℤ (p.y -ℤ q.y) -ℤ (b.y -ℤ a.y) *ℤ (p.x -ℤ q.x)
unfolding orient
side_change a b q p =
    rw (as_pair a, as_pair b, as_pair p, as_pair q) (simp difference_rules (difference-eq _ _ _ _ (omega arith)))

-- the same of a step, by the sides of its ends
both_squares : (a b q p : Pair)
    → distance_squared a b *ℤ distance_squared q p
    ≡ (orient a b p -ℤ orient a b q) *ℤ (orient a b p -ℤ orient a b q) +ℤ along_by a b q p *ℤ along_by a b q p
unfolding distance_squared
both_squares a b q p = grind (arith, common_steps, lagrange, side_change)

-- the square of a difference
square_apart : (u v : ℤ) → (u -ℤ v) *ℤ (u -ℤ v) ≡ v *ℤ v +ℤ u *ℤ (u -ℤ (v +ℤ v))
square_apart u v = rw (as_difference u, as_difference v) (simp difference_rules (difference-eq _ _ _ _ (omega arith)))

-- no covered point is nearer than the nearest edge
pub edge_nearest : NoneNearerThanEdge
edge_nearest S q a b p h k =
    let over : pos 0 ≤ℤ orient a b p =
    not_right _ _ _ _ (product_left b a p) (orient_other a b p)
    (covered_near S (left_of b a) p (product (left_of b a) b) (λ s m. near s m) k) in
    at_most _ _ _ _ _ (both_squares a b q p) (square_apart (orient a b p) (orient a b q))
    (product_nn (orient a b p) (orient a b p -ℤ (orient a b q +ℤ orient a b q)) over (gap _ _ over h.beside.0))
    (square_nn (along_by a b q p))
  where
    not_right : (x y u v : ℤ) → x -ℤ y ≡ u → u ≡ neg_ℤ v → x ≤ℤ y → pos 0 ≤ℤ v
    not_right x y u v e f h = omega (arith, ints)

    near : (s : Pair) → Contains S s → product (left_of b a) s ≤ℤ product (left_of b a) b
    near s m = le_by_opposite _ _ _ _ (product_left b a s) (orient_other a b s)
        (All-contains (λ t. pos 0 ≤ℤ orient a b t) S s h.left m)

    gap : (u v : ℤ) → pos 0 ≤ℤ u → v <ℤ pos 0 → pos 0 ≤ℤ (u -ℤ (v +ℤ v))
    gap u v h k = omega (arith, ints)

    at_most : (x s t v w : ℤ) → x ≡ s +ℤ w → s ≡ v +ℤ t → pos 0 ≤ℤ t → pos 0 ≤ℤ w → v ≤ℤ x
    at_most x s t v w e f h k = omega (arith, ints)
