-- Common points and separations of two sets.
use Rattle.std.proofs.Common.{◌≡◌, ℕ, ◌≤◌, ◌<◌, ℤ, pos, ◌-ℤ◌, ◌≤ℤ◌, ◌<ℤ◌, neg_ℤ, ◌⊎◌, inl, inr, sym, subst, List, []}
use Rattle.std.proofs.Common.{length, arith}
use Rattle.std.specs.List.{Contains}
use Rattle.std.proofs.lemmas.Int.{ints}
use Rattle.std.proofs.lemmas.List.Elements.{All-contains}
use Rattle.lattice.specs.Plane.{Pair, orient, product}
use Rattle.lattice.specs.Vertices.{IsLeftOf}
use Rattle.lattice.proofs.Vectors.{opp}
use Rattle.hull_geometry.specs.Tangents.{IsFirstFarthest}
use Rattle.hull_polygon.specs.Meetings.{AreDisjoint, Intersects, Reaches, IsReached, Crosses, segment}
use Rattle.hull_polygon.specs.Polygons.{IsPolygonOf}
use Rattle.hull_polygon.specs.Rounds.{vertex, IsSeparated}
use Rattle.hull_polygon.specs.Separations.{HasOnLeft, IsSeparation}
use Rattle.hull_polygon.specs.Steps.{left_of, backward}
use Rattle.hull_polygon.specs.Witnesses.{IsMeeting}
use Rattle.hull_polygon.specs.declared.meetings.Meeting.{Meeting}
use Rattle.hull_polygon.specs.declared.meetings.Meeting.TheVariants.{OfOther, OfThis, Crossing}
use Rattle.hull_polygon.specs.declared.separations.Separation.{Separation}
use Rattle.hull_polygon.proofs.Vertices.{vertex_extreme}
use Rattle.hull_polygon.proofs.EdgeAxes.{IsBesideSome, edge_parts}
use Rattle.hull_geometry.proofs.PointLists.{all_of}
use Rattle.hull_polygon.proofs.SeparatedLists.{farther_back, never_both}
use Rattle.hull_polygon.proofs.Separated.{apart_by}
use Rattle.hull_polygon.proofs.Shields.{product_left, one_of_two, start_there, end_there}
use Rattle.hull_polygon.proofs.Together.{few_beyond}
use Rattle.lattice.proofs.Numbers.{le_by_opposite, le_less_trans, less_by_opposite, nn_not_below}
use Rattle.hull_geometry.proofs.Slopes.{product-opp}
use Rattle.lattice.proofs.LineCrossings.{orient_other}
use Rattle.hull_geometry.proofs.CandidateListHulls.{covers_more}

-- sets with a common point intersect
pub meeting_intersects : (S T : List Pair) (m : Meeting) → IsMeeting S T m → Intersects S T
meeting_intersects S T (OfOther t) h = Reaches t h.0 h.1
meeting_intersects S T (OfThis s) h = IsReached s h.0 h.1
meeting_intersects S T (Crossing a b c d) h = Crosses a b c d h.0 h.1 h.2 h.3 h.4

-- a common point with a part of a set is one with the whole set
pub meeting_more : (S T U : List Pair) (m : Meeting) → ((t : Pair) → Contains T t → Contains U t) → IsMeeting S T m
    → IsMeeting S U m
meeting_more S T U (OfOther t) f h = (f t h.0, h.1)
meeting_more S T U (OfThis s) f h = (h.0, covers_more T U s f h.1)
meeting_more S T U (Crossing a b c d) f h = (h.0, h.1, f c h.2, f d h.3, h.4)

-- a set that is disjoint from the whole is disjoint from a part
pub apart_less : (S T U : List Pair) → ((t : Pair) → Contains U t → Contains T t) → AreDisjoint S T → AreDisjoint S U
apart_less S T U f (d, h) = (d, λ s t ms mt. h s t ms (f t mt))

-- a set that a separation separates from another is disjoint from it
pub separation_apart : (S T : List Pair) (w : Separation) → IsSeparation S T w → AreDisjoint S T
separation_apart S T w h = (
  w.direction,
  λ s t ms mt. le_less_trans _ _ _
      (All-contains (λ u. product w.direction u ≤ℤ product w.direction w.farthest) S s h.farthest ms)
      (All-contains (λ u. product w.direction w.farthest <ℤ product w.direction u) T t h.beyond mt),
)

-- with the direction reversed, S and T are exchanged
pub apart_turned : (S T : List Pair) → AreDisjoint S T → AreDisjoint T S
apart_turned S T (d, h) = (opp d, λ t s mt ms. farther_back d s t (h s t ms mt))

-- the ends of the only one or two vertices are points of the set
pub ends_there : (T W : List Pair) (t : Pair) → IsPolygonOf T W → 0 < length W
    → Contains (segment (vertex W 0) (vertex W 1)) t → Contains T t
ends_there T W t o n m = elim (one_of_two (vertex W 0) (vertex W 1) t m) [
  | inl e ↦ subst (Contains T) (sym e) (vertex_extreme T W 0 o.1 n).0
  | inr e ↦ subst (Contains T) (sym e) (vertex_extreme T W 1 o.1 n).0
]

-- a set with a vertex is not empty, and does not intersect a set that is disjoint from it
pub not_met : (S V T W : List Pair) → IsPolygonOf S V → 0 < length V → IsPolygonOf T W → 0 < length W → AreDisjoint S T
    → (S ≡ []) ⊎ Intersects S (segment (vertex W 0) (vertex W 1)) → ⊥
not_met S V T W o n q m a (inl e) =
    let k = subst (λ (z : List Pair). Contains z (vertex V 0)) e (vertex_extreme S V 0 o.1 n).0 in omega (arith, k.1)
not_met S V T W o n q m a (inr h) =
    never_both S (segment (vertex W 0) (vertex W 1)) h
    (apart_less S T (segment (vertex W 0) (vertex W 1)) (λ t k. ends_there T W t q m k) a)

-- a separation of S from the only one or two vertices is one from their set
pub separation_few : (S T W : List Pair) (last : ℕ) (w : Separation) → IsPolygonOf T W → IsSeparated W last → 0 < length W
    → length W ≤ 2 → IsSeparation S (segment (vertex W 0) (vertex W 1)) w → IsSeparation S T w
separation_few S T W last w o p n few h = record {
  there = h.there;
  farthest = h.farthest;
  beyond = all_of beyond T (few_beyond T W last w.direction (product w.direction w.farthest) o p n few
      (All-contains beyond ends (vertex W 0) h.beyond (start_there (vertex W 0) (vertex W 1)))
      (All-contains beyond ends (vertex W 1) h.beyond (end_there (vertex W 0) (vertex W 1))));
}
  where
    beyond : Pair → Type 0
    beyond t = product w.direction w.farthest <ℤ product w.direction t

    ends : List Pair
    ends = segment (vertex W 0) (vertex W 1)

-- the reversed separation of T from S, with a point of S farthest there, is one of S from T
pub separation_turned : (S T : List Pair) (w : Separation) (d p : Pair) → IsSeparation T S w → d ≡ backward w.direction
    → IsFirstFarthest S d p → IsSeparation S T (apart_by d p)
separation_turned S T w d p h e f = record {
  there = f.0;
  farthest = f.1;
  beyond = all_of (λ t. product d p <ℤ product d t) T
      (subst (λ (z : Pair). (t : Pair) → Contains T t → product z p <ℤ product z t) (sym e) beyond);
}
  where
    less : (x y u v f : ℤ) → x ≡ neg_ℤ u → y ≡ neg_ℤ v → v ≤ℤ f → f <ℤ u → x <ℤ y
    less x y u v f e g h k = omega (arith, ints)

    beyond : (t : Pair) → Contains T t → product (backward w.direction) p <ℤ product (backward w.direction) t
    beyond t m = less _ _ _ _ (product w.direction w.farthest) (product-opp w.direction p) (product-opp w.direction t)
        (All-contains (λ u. product w.direction u ≤ℤ product w.direction w.farthest) T t h.farthest m)
        (All-contains (λ u. product w.direction w.farthest <ℤ product w.direction u) S p h.beyond f.0)

-- the normal of an edge that has T on its right is a separation
pub separation_beside : (S T : List Pair) (a b d : Pair) → Contains S b → IsLeftOf S a b
    → ((t : Pair) → Contains T t → orient a b t <ℤ pos 0) → d ≡ left_of b a → IsSeparation S T (apart_by d b)
separation_beside S T a b d m l h e =
    subst (λ (z : Pair). IsSeparation S T (apart_by z b)) (sym e)
    record {
      there = m;
      farthest = all_of (λ t. product (left_of b a) t ≤ℤ product (left_of b a) b) S
          (λ t n. le_by_opposite _ _ _ _ (product_left b a t) (orient_other a b t)
          (All-contains (λ u. pos 0 ≤ℤ orient a b u) S t l n));
      beyond = all_of (λ t. product (left_of b a) b <ℤ product (left_of b a) t) T
          (λ t n. less_by_opposite _ _ _ _ (product_left b a t) (orient_other a b t) (h t n));
    }

-- if the leftmost point of T lies right of a line, all of T does
pub right_of_line : (T : List Pair) (a b d p : Pair) → IsFirstFarthest T d p → d ≡ left_of a b
    → orient a b p <ℤ pos 0 → (t : Pair) → Contains T t → orient a b t <ℤ pos 0
right_of_line T a b d p f e h t m =
    under (along t) (along p) (along a) _ _ (product_left a b t) (product_left a b p)
    (All-contains (λ u. along u ≤ℤ along p) T t
    (subst (λ (z : Pair). IsFirstFarthest T z p) e f).1 m) h
  where
    along : Pair → ℤ
    along = product (left_of a b)

    under : (x y z u v : ℤ) → x -ℤ z ≡ u → y -ℤ z ≡ v → x ≤ℤ y → v <ℤ pos 0 → u <ℤ pos 0
    under x y z u v e f h k = omega (arith, ints)

-- of two disjoint sets with at least three vertices each, the edges of one do not have all of the other's on the left
pub not_both_left : (S V T W : List Pair) (last end : ℕ) → IsPolygonOf S V → IsSeparated V last → IsPolygonOf T W
    → IsSeparated W end → 2 < length V → 2 < length W → AreDisjoint S T → HasOnLeft V T → HasOnLeft W S → ⊥
not_both_left S V T W last end o p q r many more a left right =
    elim (edge_parts S V T W last end o p q r many more a) [ inl h ↦ beside V T left h | inr h ↦ beside W S right h ]
  where
    beside : (V T : List Pair) → HasOnLeft V T → IsBesideSome V T → ⊥
    beside V T h (i, l, b) = let t = h i l in nn_not_below _ t.2 (b t.0 t.1)
