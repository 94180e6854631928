-- The vertices that the tangents from a point outside touch, and the point between them.
use Rattle.std.proofs.Common.{◌≡◌, ℕ, suc, ◌+◌, ◌-◌, ◌≤◌, ◌<◌, ℤ, pos, ◌≤ℤ◌, ◌<ℤ◌, neg_ℤ, List, length, inl, inr, sym, subst, arith}
use Rattle.std.specs.List.{Contains}
use Rattle.std.proofs.lemmas.Bool.{cases_lt}
use Rattle.std.proofs.lemmas.Int.{ints}
use Rattle.std.proofs.lemmas.List.Elements.{All-contains}
use Rattle.lattice.specs.Covers.{Covers, with_point}
use Rattle.lattice.specs.Plane.{Pair, orient, IsBefore}
use Rattle.lattice.specs.Vertices.{IsLeftOf, IsVertexList}
use Rattle.lattice.specs.declared.side.Side.{Side}
use Rattle.lattice.specs.declared.side.Side.TheVariants.{Lower, Upper}
use Rattle.lattice.proofs.LineCrossings.{orient_cycle, orient_other}
use Rattle.lattice.proofs.Order.{before_trans}
use Rattle.hull_geometry.specs.Edges.{IsAlong}
use Rattle.hull_geometry.specs.Locations.{IsBetweenEnds, IsClear, IsOnChain, IsRightOfEdge}
use Rattle.hull_geometry.specs.Tangents.{IsLeftTangent, IsRightTangent, IsNoMore}
use Rattle.hull_geometry.specs.declared.hand.Hand.TheVariants.{Left, Right}
use Rattle.hull_geometry.proofs.Along.{along_not, along_trans}
use Rattle.hull_geometry.proofs.EdgesAt.{outside_after, outside_before}
use Rattle.hull_geometry.proofs.Orientation.{orient_swap}
use Rattle.hull_geometry.proofs.PointLists.{all_of}
use Rattle.hull_geometry.proofs.Views.{clear_right}
use Rattle.hull_polygon.specs.Insertions.{put_between, IsAmid}
use Rattle.hull_polygon.specs.Polygons.{IsPolygonOf}
use Rattle.hull_polygon.specs.Rounds.{vertex, IsRound, IsSeparated}
use Rattle.hull_polygon.specs.Touches.{starts_at, ends_at, IsPassed, IsToCome}
use Rattle.hull_polygon.proofs.Vertices.{vertex_back, vertex_extreme, vertex_there}
use Rattle.hull_polygon.proofs.Ends.{ends_of}
use Rattle.hull_polygon.proofs.RoundChains.{renumbered}
use Rattle.hull_polygon.proofs.Staying.{later_along}
use Rattle.hull_polygon.proofs.TangentsOf.{left_at, right_at}
use Rattle.hull_polygon.proofs.Inserted.{IsPut, with_vertex, within_list}

-- what two bisections of a chain find from a point that lies right of one of its edges: up to the vertex at l the edges are
-- passed, and from that at r on they are to come
pub record IsFound (side : Side) (V : List Pair) (last l r : ℕ) (p : Pair) : Type 0 where
  pub amid : IsBetweenEnds (vertex V 0) (vertex V last) p
  pub from : starts_at side last ≤ l
  pub below : l ≤ ends_at side V last
  pub above : starts_at side last ≤ r
  pub to : r ≤ ends_at side V last
  pub passed : starts_at side last < l → IsPassed side p (vertex V (l - 1)) (vertex V (l - 1 + 1))
  pub not_passed : l < ends_at side V last → ¬ (IsPassed side p (vertex V l) (vertex V (l + 1)))
  pub not_to_come : starts_at side last < r → ¬ (IsToCome side p (vertex V (r - 1)) (vertex V (r - 1 + 1)))
  pub to_come : r < ends_at side V last → IsToCome side p (vertex V r) (vertex V (r + 1))

-- two vertices before and after a point are different, so there are two
two_of : (V : List Pair) (last : ℕ) (p : Pair) → IsSeparated V last → 0 < length V
    → IsBetweenEnds (vertex V 0) (vertex V last) p → 1 < length V
two_of V last p s n b = elim (cases_lt 1 (length V)) [
  | inl h ↦ h
  | inr h ↦ absurd (along_not Lower (vertex V 0) p b.0 (renumbered V (IsBefore p) last 0 (omega (arith, h, s.0 n)) b.1))
]

-- the point comes after the start of the chain
after_start : (side : Side) (V : List Pair) (last : ℕ) (p : Pair) → IsBetweenEnds (vertex V 0) (vertex V last) p
    → IsAlong side (vertex V (starts_at side last)) p
after_start Lower V last p b = b.0
after_start Upper V last p b = b.1

-- it comes before the end
before_end : (side : Side) (V : List Pair) (last : ℕ) (p : Pair) → 0 < length V
    → IsBetweenEnds (vertex V 0) (vertex V last) p → IsAlong side p (vertex V (ends_at side V last))
before_end Lower V last p n b = b.1
before_end Upper V last p n b =
    subst (λ (z : Pair). IsBefore z p) (sym (vertex_back V (length V) (omega arith) n)) b.0

-- it comes after the vertex up to which the edges are passed
after_left : (side : Side) (V : List Pair) (last l r : ℕ) (p : Pair) → IsFound side V last l r p
    → IsAlong side (vertex V l) p
after_left side V last l r p f = elim (cases_lt (starts_at side last) l) [
  | inl h ↦ renumbered V (λ z. IsAlong side z p) (l - 1 + 1) l (omega (arith, h)) (f.passed h).0
  | inr h ↦ renumbered V (λ z. IsAlong side z p) (starts_at side last) l (omega (arith, h, f.from))
      (after_start side V last p f.amid)
]

-- it comes before the vertex from which they are to come
before_right : (side : Side) (V : List Pair) (last l r : ℕ) (p : Pair) → 0 < length V → IsFound side V last l r p
    → IsAlong side p (vertex V r)
before_right side V last l r p n f = elim (cases_lt r (ends_at side V last)) [
  | inl h ↦ (f.to_come h).0
  | inr h ↦ renumbered V (IsAlong side p) (ends_at side V last) r (omega (arith, h, f.to)) (before_end side V last p n f.amid)
]

-- the one vertex is before the other
in_order : (side : Side) (V : List Pair) (last l r : ℕ) (p : Pair) → IsRound V last → IsFound side V last l r p
    → IsAlong side (vertex V l) p → IsAlong side p (vertex V r) → l < r
in_order side V last l r p o f a b = elim (cases_lt l r) [
  | inl h ↦ h
  | inr h ↦ absurd (elim (cases_lt r l) [
    | inr k ↦ along_not side (vertex V l) p a (renumbered V (IsAlong side p) r l (omega (arith, h, k)) b)
    | inl k ↦ along_not side (vertex V l) p a (along_trans side p (vertex V r) (vertex V l) b
        (renumbered V (IsAlong side (vertex V r)) (r + suc (l - r - 1)) l (omega (arith, k))
        (later_along side V last r (l - r - 1) o f.above (omega (arith, k, f.below)))))
  ])
]

-- the negation of a number below 0 is above 0
above : (x y : ℤ) → x ≡ neg_ℤ y → y <ℤ pos 0 → pos 0 <ℤ x
above x y e h = omega (arith, ints)

-- a point outwards of the segment between two points of a set bends from the one to the other to the left
bend_outwards : (side : Side) (S : List Pair) (u v p : Pair) → IsClear side S p → Contains S u → Contains S v
    → IsAlong side u p → IsAlong side p v → pos 0 <ℤ orient u p v
bend_outwards Lower S u v p c mu mv a b = above _ _ (orient_swap u p v) (c.outwards u v mu mv a b)
bend_outwards Upper S u v p c mu mv a b = above _ _ (orient_swap u p v) (c.outwards v u mv mu b a)

-- the point is put between the two vertices
put_there : (side : Side) (S V : List Pair) (last l r : ℕ) (p : Pair) → IsPolygonOf S V → IsRound V last
    → IsFound side V last l r p → IsRightOfEdge side S p → IsPut side V last l r p
put_there side S V last l r p o q f h =
    let n : 0 < length V = omega (arith, q.within) in
    let a = after_left side V last l r p f in
    let b = before_right side V last l r p n f in record {
      starts = f.from;
      before = in_order side V last l r p q f a b;
      ends = f.to;
      from = a;
      to = b;
      bend = bend_outwards side S (vertex V l) (vertex V r) p (clear_right side S p h) (vertex_extreme S V l o.1 n).0
          (vertex_extreme S V r o.1 n).0 a b;
      bends_from = λ k. renumbered V (λ z. pos 0 <ℤ orient (vertex V (l - 1)) z p) (l - 1 + 1) l (omega (arith, k)) (f.passed k).1;
      bends_to = λ k. subst (λ (z : ℤ). pos 0 <ℤ z) (sym (orient_cycle p (vertex V r) (vertex V (r + 1)))) (f.to_come k).1;
    }

-- no point lies right of the line from the left tangent's vertex to p
left_of_from : (S : List Pair) (u p : Pair) → IsLeftTangent S p u → IsLeftOf S u p
left_of_from S u p t = all_of (λ z. pos 0 ≤ℤ orient u p z) S
    (λ z m. turned _ _ (orient_other p u z) (All-contains (IsNoMore Left p u) S z t.1 m).0)
  where
    turned : (x y : ℤ) → x ≡ neg_ℤ y → y ≤ℤ pos 0 → pos 0 ≤ℤ x
    turned x y e h = omega (arith, ints)

-- none lies right of the line from p to the right tangent's vertex
left_of_to : (S : List Pair) (p v : Pair) → IsRightTangent S p v → IsLeftOf S p v
left_of_to S p v t = all_of (λ z. pos 0 ≤ℤ orient p v z) S (λ z m. (All-contains (IsNoMore Right p v) S z t.1 m).0)

-- the tangents from a point right of an edge of a chain touch this chain
pub on_chain : (side : Side) (S V : List Pair) (last : ℕ) (p : Pair) → IsBetweenEnds (vertex V 0) (vertex V last) p
    → IsRightOfEdge side S p
    → IsOnChain Left side (vertex V 0) (vertex V last) S p × IsOnChain Right side (vertex V 0) (vertex V last) S p
on_chain Lower S V last p b h = ((clear_right Lower S p h, b.0), (clear_right Lower S p h, b.1))
on_chain Upper S V last p b h = ((clear_right Upper S p h, b.1), (clear_right Upper S p h, b.0))

-- p takes the place of the vertices between those that its tangents touch
pub put_between_tangents : (side : Side) (S V : List Pair) (last l r : ℕ) (p : Pair) → IsPolygonOf S V → IsSeparated V last
    → 0 < length V → IsFound side V last l r p → IsRightOfEdge side S p → IsVertexList (with_point p S) (put_between V l r p)
put_between_tangents side S V last l r p o s n f h =
    let q = s.1 (two_of V last p s n f.amid) in
    let on = on_chain side S V last p f.amid h in
    with_vertex side S V last l r p o q (put_there side S V last l r p o q f h)
    (left_of_from S (vertex V l) p (left_at side S V last l p o s n on.0 f.from f.below f.passed f.not_passed))
    (left_of_to S p (vertex V r) (right_at side S V last r p o s n on.1 f.above f.to f.not_to_come f.to_come))

-- the two indices are in order and within the list
pub gap_within : (side : Side) (S V : List Pair) (last l r : ℕ) (p : Pair) → IsPolygonOf S V → IsSeparated V last
    → 0 < length V → IsFound side V last l r p → IsRightOfEdge side S p → (l < r) × (r ≤ length V)
gap_within side S V last l r p o s n f h =
    let q = s.1 (two_of V last p s n f.amid) in
    let put = put_there side S V last l r p o q f h in
    (put.before, (within_list side V last l r p q put).1)

-- a point between the ends is between two vertices
pub amid_vertices : (V : List Pair) (last : ℕ) (p : Pair) → 0 < length V → IsBetweenEnds (vertex V 0) (vertex V last) p
    → IsAmid V p
amid_vertices V last p n b = (vertex V 0, vertex V last, vertex_there V 0 n, vertex_there V last n, b.0, b.1)

-- ---- points before all and after all

-- a point of the polygon is a point of the set
in_set : (S V : List Pair) (t : Pair) → IsPolygonOf S V → Contains V t → Contains S t
in_set S V t o m = ((o.1.members t).0 m).0

-- a point before the first vertex is outside, and after none of the vertices
pub before_all_vertices : (S V : List Pair) (last : ℕ) (p : Pair) → IsPolygonOf S V → IsSeparated V last → 0 < length V
    → IsBefore p (vertex V 0) → ¬ Covers S p × ¬ IsAmid V p
before_all_vertices S V last p o s n b =
    let ends = ends_of S V last o s n in (
      outside_before S (vertex V 0) p ends.0 b,
      λ h. ends.0 h.0 (in_set S V h.0 o h.2) (before_trans h.0 p (vertex V 0) h.4 b),
    )

-- a point after the last vertex is outside, and before none
pub after_all_vertices : (S V : List Pair) (last : ℕ) (p : Pair) → IsPolygonOf S V → IsSeparated V last → 0 < length V
    → IsBefore (vertex V last) p → ¬ Covers S p × ¬ IsAmid V p
after_all_vertices S V last p o s n b =
    let ends = ends_of S V last o s n in (
      outside_after S (vertex V last) p ends.1 b,
      λ h. ends.1 h.1 (in_set S V h.1 o h.3) (before_trans (vertex V last) p h.1 b h.5),
    )

-- no point is after one of no vertices
pub amid_none : (V : List Pair) (p : Pair) → length V ≡ 0 → ¬ IsAmid V p
amid_none V p e h = omega (arith, e, h.2.1)
