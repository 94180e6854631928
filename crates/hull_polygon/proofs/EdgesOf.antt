-- The edges between extreme points, and how two of them join.
use Rattle.std.proofs.Common.{◌≡◌, pos, ◌≤ℤ◌, neg_ℤ, List, ap, ◌∙◌, arith}
use Rattle.std.specs.List.{Contains}
use Rattle.std.proofs.lemmas.Int.{ints}
use Rattle.std.proofs.lemmas.List.Elements.{All-contains}
use Rattle.lattice.specs.Covers.{IsExtreme, OnSegment}
use Rattle.lattice.specs.Plane.{Pair, orient, IsBefore}
use Rattle.lattice.specs.Vertices.{IsLeftOf}
use Rattle.lattice.proofs.Order.{before_apart, after_apart}
use Rattle.lattice.proofs.Vectors.{minus, cross, cross_swap, Ahead, cross_trans}
use Rattle.hull_geometry.specs.Edges.{IsAlong, IsEdgeOn, IsLowerEdge, IsUpperEdge, IsFirst, IsLast}
use Rattle.lattice.specs.declared.side.Side.{Side}
use Rattle.lattice.specs.declared.side.Side.TheVariants.{Lower, Upper}
use Rattle.hull_geometry.proofs.ChangedSets.{in_without}
use Rattle.hull_geometry.proofs.CoveredByEdges.{on_segment}
use Rattle.hull_geometry.proofs.PointLists.{all_of}
use Rattle.hull_geometry.proofs.Orientation.{orient_swap_zero, at_least, ahead_of}
use Rattle.lattice.proofs.Sides.{side_before, side_after, side_to_end, side_back, side_beyond, side_over}
use Rattle.lattice.proofs.LineCrossings.{orient_other}

-- an extreme point does not lie on a segment between two others
not_within : (S : List Pair) (a v b : Pair) → Contains S a → IsExtreme S v → Contains S b → IsBefore a v → IsBefore v b
    → orient v a b ≡ pos 0 → ⊥
not_within S a v b ma ev mb av vb z =
    ev.1 (OnSegment a b (in_without v a S (before_apart a v av) ma) (in_without v b S (after_apart b v vb) mb)
    (on_segment a b v av vb z))

-- a point on a line is on the line in the other direction
pub other_line : (p r q : Pair) → orient p r q ≡ pos 0 → orient r p q ≡ pos 0
other_line p r q z = orient_other p r q ∙ ap neg_ℤ z

-- if the step to an extreme point goes along a side and has all of S on the left of its line, it is an edge on that
-- side
pub edge_along : (side : Side) (S : List Pair) (u v : Pair) → Contains S u → IsExtreme S v → IsLeftOf S u v
    → IsAlong side u v → IsEdgeOn side S u v
edge_along side S u v mu ev h b = record {
  from = mu;
  to = ev.0;
  along = b;
  left = h;
  last = all_of (λ t. orient u v t ≡ pos 0 → ¬ (IsAlong side v t)) S (λ t m z k. inner side t m z b k);
}
  where
    inner : (side : Side) (t : Pair) → Contains S t → orient u v t ≡ pos 0 → IsAlong side u v → ¬ (IsAlong side v t)
    inner Lower t m z b k = not_within S u v t mu ev m b k (other_line u v t z)
    inner Upper t m z b k = not_within S t v u m ev mu k b (orient_swap_zero v u t (other_line u v t z))

-- three vectors ahead, each not right of the next one round, are in line
in_line : (a b c : Pair) → Ahead a → Ahead b → Ahead c → pos 0 ≤ℤ cross a c → pos 0 ≤ℤ cross c b → pos 0 ≤ℤ cross b a
    → cross a c ≡ pos 0
in_line a b c ha hb hc ac cb ba = omega (arith, ints, cross_swap a c, cross_trans c b a hc hb ha cb ba)

-- if an upper edge ends at v and a lower edge begins there, v is the first point
pub first_between : (S : List Pair) (u v w : Pair) → IsUpperEdge S u v → IsLowerEdge S v w → IsFirst S v
first_between S u v w e f t m b =
    All-contains (λ t. orient u v t ≡ pos 0 → ¬ (IsBefore t v)) S t e.last m
    (side_beyond u v t
    ∙ in_line (minus u v) (minus w v) (minus v t) (ahead_of v u e.along) (ahead_of v w f.along) (ahead_of t v b)
    (at_least _ _ (side_beyond u v t) (All-contains (λ t. pos 0 ≤ℤ orient u v t) S t e.left m))
    (at_least _ _ (side_before v w t) (All-contains (λ t. pos 0 ≤ℤ orient v w t) S t f.left m))
    (at_least _ _ (side_back u v w) (All-contains (λ t. pos 0 ≤ℤ orient u v t) S w e.left f.to))) b

-- if a lower edge ends at v and an upper edge begins there, v is the last point
pub last_between : (S : List Pair) (u v w : Pair) → IsLowerEdge S u v → IsUpperEdge S v w → IsLast S v
last_between S u v w e f t m b =
    All-contains (λ t. orient u v t ≡ pos 0 → ¬ (IsBefore v t)) S t e.last m
    (side_after u v t
    ∙ in_line (minus v u) (minus v w) (minus t v) (ahead_of u v e.along) (ahead_of w v f.along) (ahead_of v t b)
    (at_least _ _ (side_after u v t) (All-contains (λ t. pos 0 ≤ℤ orient u v t) S t e.left m))
    (at_least _ _ (side_over v w t) (All-contains (λ t. pos 0 ≤ℤ orient v w t) S t f.left m))
    (at_least _ _ (side_to_end u v w) (All-contains (λ t. pos 0 ≤ℤ orient u v t) S w e.left f.to))) b
