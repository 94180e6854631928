-- What the two vertices beside a vertex show: that no point lies farther in a direction, and that a point is not covered.
use Rattle.std.proofs.Common.{◌≡◌, ℕ, ◌+◌, ◌<◌, ℤ, pos, ◌+ℤ◌, ◌-ℤ◌, ◌≤ℤ◌, ◌<ℤ◌, neg_ℤ, List, length, arith}
use Rattle.std.specs.List.{Contains}
use Rattle.std.proofs.lemmas.Int.{ints}
use Rattle.std.proofs.lemmas.List.Elements.{All-contains}
use Rattle.lattice.specs.Covers.{Covers}
use Rattle.lattice.specs.Places.{IsFarthest}
use Rattle.lattice.specs.Plane.{Pair, orient, product}
use Rattle.lattice.specs.Polynomials.{difference-eq, difference_rules}
use Rattle.lattice.specs.Vertices.{IsLeftOf}
use Rattle.lattice.proofs.LineCrossings.{orient_other}
use Rattle.lattice.proofs.Vectors.{as_pair}
use Rattle.lattice.proofs.Numbers.{gap_np, le_less_trans, not_less}
use Rattle.hull_geometry.proofs.NotCovered.{not_covered}
use Rattle.hull_geometry.proofs.PointLists.{all_of}
use Rattle.hull_polygon.specs.Nearest.{previous}
use Rattle.hull_polygon.specs.Polygons.{IsPolygonOf}
use Rattle.hull_polygon.specs.Rounds.{vertex, IsSeparated}
use Rattle.hull_polygon.specs.Meetings.{AreDisjoint, StayApart}
use Rattle.hull_polygon.specs.Steps.{backward, left_of, step}
use Rattle.hull_polygon.proofs.Shields.{product_left}
use Rattle.hull_polygon.proofs.NearestOf.{farthest_here}
use Rattle.hull_polygon.proofs.Separated.{way_on}

-- a vertex is the farthest if neither of those beside it lies farther
pub farthest_beside : (S V : List Pair) (last j : ℕ) (f : Pair) → IsPolygonOf S V → IsSeparated V last → j < length V
    → ¬ (product f (vertex V j) <ℤ product f (previous V j)) → ¬ (product f (vertex V j) <ℤ product f (vertex V (j + 1)))
    → IsFarthest S f (vertex V j)
farthest_beside S V last j f o p l before after =
    farthest_here S V last j f o p l (gap_np _ _ (not_less _ _ before)) (gap_np _ _ (not_less _ _ after))

-- another point in the direction of which no point lies farther than c is not covered
pub outside_from : (S : List Pair) (c q : Pair) → ¬ (c ≡ q) → IsFarthest S (step c q) c → ¬ Covers S q
outside_from S c q n f =
    not_covered S q (
      step c q,
      all_of (λ t. product (step c q) t <ℤ product (step c q) q) S
          (λ t m. le_less_trans _ _ _ (All-contains (λ z. product (step c q) z ≤ℤ product (step c q) c) S t f m)
          (way_on c q n)),
    )

-- a point right of a line that has the set on its left is not covered
pub outside_right : (S : List Pair) (p q a : Pair) → IsLeftOf S p q → orient p q a <ℤ pos 0 → ¬ Covers S a
outside_right S p q a l h =
    not_covered S a (
      left_of q p,
      all_of (λ t. product (left_of q p) t <ℤ product (left_of q p) a) S
          (λ t m. less _ _ _ _ _ _ _ (product_left q p t) (product_left q p a) (orient_other p q t) (orient_other p q a)
          (All-contains (λ z. pos 0 ≤ℤ orient p q z) S t l m) h),
    )
  where
    less : (x y z o u v w : ℤ) → x -ℤ z ≡ o → y -ℤ z ≡ u → o ≡ neg_ℤ v → u ≡ neg_ℤ w → pos 0 ≤ℤ v → w <ℤ pos 0 → x <ℤ y
    less x y z o u v w e f g k i j = omega (arith, ints)

-- ---- directions that separate

-- how far a point lies in the opposite direction
back_along : (d t : Pair) → product (backward d) t ≡ neg_ℤ (product d t)
unfolding product
back_along d t = rw (as_pair d, as_pair t) (simp difference_rules (difference-eq _ _ _ _ (omega arith)))

-- how far a step goes in a direction
pub along_step : (d p q : Pair) → product d (step p q) ≡ product d q -ℤ product d p
unfolding product
along_step d p q = rw (as_pair d, as_pair p, as_pair q) (simp difference_rules (difference-eq _ _ _ _ (omega arith)))

-- no point lies less far than the farthest in the opposite direction
least_along : (T : List Pair) (d b t : Pair) → IsFarthest T (backward d) b → Contains T t → product d b ≤ℤ product d t
least_along T d b t f m =
    turned _ _ _ _ (back_along d t) (back_along d b)
    (All-contains (λ z. product (backward d) z ≤ℤ product (backward d) b) T t f m)
  where
    turned : (x y u v : ℤ) → x ≡ neg_ℤ u → y ≡ neg_ℤ v → x ≤ℤ y → v ≤ℤ u
    turned x y u v e f h = omega (arith, ints)

-- sets are separate, and stay so as the one moves, if those of their points that lie farthest towards one another are and do
pub apart_along : (S T : List Pair) (d a b m : Pair) → IsFarthest S d a → IsFarthest T (backward d) b
    → product d a <ℤ product d b → (product d a +ℤ product d m) <ℤ product d b → StayApart S T m
apart_along S T d a b m f g h k = (
  d,
  λ s t ms mt.
      let l = All-contains (λ z. product d z ≤ℤ product d a) S s f ms in
      let r = least_along T d b t g mt in (chain _ _ _ _ l h r, shifted _ _ _ _ _ l k r),
)
  where
    chain : (s a b t : ℤ) → s ≤ℤ a → a <ℤ b → b ≤ℤ t → s <ℤ t
    chain s a b t l h r = omega (arith, ints)

    shifted : (s a b t m : ℤ) → s ≤ℤ a → (a +ℤ m) <ℤ b → b ≤ℤ t → (s +ℤ m) <ℤ t
    shifted s a b t m l h r = omega (arith, ints)

-- sets that stay apart are disjoint
pub disjoint_first : (S T : List Pair) (m : Pair) → StayApart S T m → AreDisjoint S T
disjoint_first S T m (d, h) = (d, λ s t ms mt. (h s t ms mt).0)
