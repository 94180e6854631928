-- Directions that separate a set from another, with a farthest point.
use Rattle.std.proofs.Common.{◌≡◌, zero, suc, ℤ, pos, ◌+ℤ◌, ◌-ℤ◌, ◌*ℤ◌, ◌≤ℤ◌, ◌<ℤ◌, inl, inr, sym, subst}
use Rattle.std.proofs.Common.{List, [], ◌∷◌, arith}
use Rattle.std.specs.List.{All, Contains}
use Rattle.std.proofs.lemmas.Int.{ints}
use Rattle.std.proofs.lemmas.List.Elements.{All-contains}
use Rattle.lattice.specs.Covers.{Member}
use Rattle.lattice.specs.Places.{IsFarthest}
use Rattle.lattice.specs.Plane.{Pair, orient, product, IsBefore}
use Rattle.lattice.proofs.Order.{before_total}
use Rattle.hull_polygon.specs.Encounters.{IsShielded, IsLeftmost}
use Rattle.hull_polygon.specs.Meetings.{Parts, segment}
use Rattle.hull_polygon.specs.Nearest.{IsNearestVertex, IsNearestEdge}
use Rattle.hull_polygon.specs.Separations.{IsSeparation}
use Rattle.hull_polygon.specs.declared.separations.Separation.{Separation}
use Rattle.hull_polygon.specs.Steps.{step, left_of}
use Rattle.hull_polygon.proofs.Cones.{way_square, square_nn, square_above}
use Rattle.hull_geometry.proofs.PointLists.{all_of}
use Rattle.hull_polygon.proofs.Shields.{product_left, separated_right, parts_turned}
use Rattle.lattice.proofs.Numbers.{le_by_opposite, le_less_trans, less_by_opposite, less_by_sum}
use Rattle.lattice.proofs.LineCrossings.{orient_other}

-- a direction that separates them and a farthest point in it are a separation
pub separation_of : (S T : List Pair) (w : Separation) → Contains S w.farthest → IsFarthest S w.direction w.farthest
    → Parts w.direction S T → IsSeparation S T w
separation_of S T w m f p = record {
  there = m;
  farthest = f;
  beyond = all_of (λ t. product w.direction w.farthest <ℤ product w.direction t) T (λ t n. p w.farthest t m n);
}

-- the direction of a separation separates S from the point
pub separation_parts : (S : List Pair) (q : Pair) (w : Separation) → IsSeparation S (q ∷ []) w
    → Parts w.direction S (q ∷ [])
separation_parts S q w h s t ms mt =
    le_less_trans _ _ _ (All-contains (λ u. product w.direction u ≤ℤ product w.direction w.farthest) S s h.farthest ms)
    (All-contains (λ u. product w.direction w.farthest <ℤ product w.direction u) (q ∷ []) t h.beyond mt)

-- a point beyond another is beyond it for all of a list of one
pub beyond_one : (d p q : Pair) → product d p <ℤ product d q → All (λ t. product d p <ℤ product d t) (q ∷ [])
beyond_one d p q h = all_of (λ t. product d p <ℤ product d t) (q ∷ []) (λ t m. only t m)
  where
    only : (t : Pair) → Contains (q ∷ []) t → product d p <ℤ product d t
    only t (zero, l, e) = subst (λ (z : Pair). product d p <ℤ product d z) e h
    only t (suc i, l, e) = absurd (omega (arith, l))

-- the step from one point to another goes on
pub way_on : (c q : Pair) → ¬ (c ≡ q) → product (step c q) c <ℤ product (step c q) q
way_on c q n = elim (before_total c q) [
  | inr (inl e) ↦ absurd (n e)
  | inl b ↦ forward b
  | inr (inr b) ↦ backward b
]
  where
    apart_y : (x y u v : ℤ) → x -ℤ y ≡ u +ℤ v → pos 0 ≤ℤ u → pos 0 <ℤ v → y <ℤ x
    apart_y x y u v e h k = omega (arith, ints)

    forward : IsBefore c q → product (step c q) c <ℤ product (step c q) q
    forward (inl h) = less_by_sum _ _ ((q.x -ℤ c.x) *ℤ (q.x -ℤ c.x)) ((q.y -ℤ c.y) *ℤ (q.y -ℤ c.y)) (way_square c q)
        (square_above _ (inl (omega (arith, ints)))) (square_nn _)
    forward (inr h) = apart_y _ _ ((q.x -ℤ c.x) *ℤ (q.x -ℤ c.x)) ((q.y -ℤ c.y) *ℤ (q.y -ℤ c.y)) (way_square c q)
        (square_nn _) (square_above _ (inl (omega (arith, ints, h.1))))

    backward : IsBefore q c → product (step c q) c <ℤ product (step c q) q
    backward (inl h) = less_by_sum _ _ ((q.x -ℤ c.x) *ℤ (q.x -ℤ c.x)) ((q.y -ℤ c.y) *ℤ (q.y -ℤ c.y)) (way_square c q)
        (square_above _ (inr (omega (arith, ints)))) (square_nn _)
    backward (inr h) = apart_y _ _ ((q.x -ℤ c.x) *ℤ (q.x -ℤ c.x)) ((q.y -ℤ c.y) *ℤ (q.y -ℤ c.y)) (way_square c q)
        (square_nn _) (square_above _ (inr (omega (arith, ints, h.1))))

-- a direction under another name, and a point
abbrev pub apart_by : Pair → Pair → Separation
apart_by d p = record { direction = d; farthest = p }

-- the step from the nearest vertex is a separation
pub from_vertex : (S : List Pair) (q c d : Pair) → IsNearestVertex S q c → d ≡ step c q
    → IsSeparation S (q ∷ []) (apart_by d c)
from_vertex S q c d h e =
    subst (λ (z : Pair). IsSeparation S (q ∷ []) (apart_by z c)) (sym e)
    record {
      there = h.vertex.0;
      farthest = h.nearest;
      beyond = beyond_one (step c q) c q (way_on c q (λ e. h.outside (Member (subst (Contains S) e h.vertex.0))));
    }

-- the normal of the nearest edge is a separation
pub from_edge : (S : List Pair) (q a b d : Pair) → IsNearestEdge S q a b → d ≡ left_of b a
    → IsSeparation S (q ∷ []) (apart_by d b)
from_edge S q a b d h e =
    subst (λ (z : Pair). IsSeparation S (q ∷ []) (apart_by z b)) (sym e)
    record {
      there = h.end.0;
      farthest = all_of (λ t. product (left_of b a) t ≤ℤ product (left_of b a) b) S
          (λ t m. le_by_opposite _ _ _ _ (product_left b a t) (orient_other a b t)
          (All-contains (λ u. pos 0 ≤ℤ orient a b u) S t h.left m));
      beyond = beyond_one (left_of b a) b q (less_by_opposite _ _ _ _ (product_left b a q) (orient_other a b q) h.beside.0);
    }

-- a separation of S from the nearer end of a segment is one from the segment
pub from_start : (S : List Pair) (a b : Pair) (w : Separation) → IsShielded S a b → IsSeparation S (a ∷ []) w
    → IsSeparation S (segment a b) w
from_start S a b w h s = separation_of S (segment a b) w s.there s.farthest
    (h.1 w.direction (separation_parts S a w s))

-- the same for the other end
pub from_end : (S : List Pair) (a b : Pair) (w : Separation) → IsShielded S b a → IsSeparation S (b ∷ []) w
    → IsSeparation S (segment a b) w
from_end S a b w h s = separation_of S (segment a b) w s.there s.farthest
    (parts_turned S w.direction a b (h.1 w.direction (separation_parts S b w s)))

-- the normal of a segment separates it from a set right of its line
pub from_right : (S : List Pair) (a b p d : Pair) → IsLeftmost S a b p → orient a b p <ℤ pos 0 → d ≡ left_of a b
    → IsSeparation S (segment a b) (apart_by d p)
from_right S a b p d l h e =
    subst (λ (z : Pair). IsSeparation S (segment a b) (apart_by z p)) (sym e)
    (separation_of S (segment a b) (apart_by (left_of a b) p) l.0 l.1 (separated_right S a b p l h))

-- the normal of a segment separates it from a set left of its line
pub from_left : (S : List Pair) (a b p d : Pair) → IsLeftmost S b a p → orient b a p <ℤ pos 0 → d ≡ left_of b a
    → IsSeparation S (segment a b) (apart_by d p)
from_left S a b p d l h e =
    subst (λ (z : Pair). IsSeparation S (segment a b) (apart_by z p)) (sym e)
    (separation_of S (segment a b) (apart_by (left_of b a) p) l.0 l.1
    (parts_turned S (left_of b a) a b (separated_right S b a p l h)))
