-- The edges at a point, and the location that follows from its sides of them.
use Rattle.std.proofs.Common.{◌≡◌, ℤ, pos, negsuc, ◌≤ℤ◌, ◌<ℤ◌, ◌⊎◌, inl, inr, sym, ap, ◌∙◌, subst, List, length, arith}
use Rattle.std.specs.List.{All, Contains}
use Rattle.std.proofs.lemmas.Int.{ints}
use Rattle.lattice.specs.Covers.{Covers, Member}
use Rattle.lattice.specs.Places.{IsOuter, IsOutside, IsInside, IsOnBoundary}
use Rattle.lattice.specs.Plane.{Pair, orient, product, IsBefore}
use Rattle.lattice.specs.Signs.{le_or_lt}
use Rattle.lattice.proofs.LineCrossings.{orient_start}
use Rattle.lattice.proofs.Order.{before_total, before_trans, equal_by}
use Rattle.lattice.specs.declared.side.Side.{Side}
use Rattle.lattice.specs.declared.side.Side.TheVariants.{Lower, Upper}
use Rattle.hull_geometry.specs.Edges.{IsFirst, IsLast}
use Rattle.hull_geometry.specs.Locations.{IsLowerEdgeAt, IsUpperEdgeAt, IsRightOfEdge, IsBetweenEnds, IsLocationOf}
use Rattle.hull_geometry.specs.Locations.{IsLocationBy}
use Rattle.hull_geometry.specs.declared.location.Location.{Location}
use Rattle.hull_geometry.specs.declared.location.Location.TheVariants.{Before, After, Below, Above, Touching, Within}
use Rattle.hull_geometry.proofs.EdgePlaces.{right_outside, on_line_outer, between_covered, between_inside}
use Rattle.hull_geometry.proofs.NotCovered.{not_covered}
use Rattle.hull_geometry.proofs.OneSided.{past_separated}
use Rattle.hull_geometry.proofs.PointLists.{all_of}

-- if c is not after v, and v is before a, then c is before a
pub up_to : (c v a : Pair) → ¬ (IsBefore v c) → IsBefore v a → IsBefore c a
up_to c v a n h = elim (before_total c v) [
  | inl k ↦ before_trans c v a k h
  | inr (inl e) ↦ subst (λ (z : Pair). IsBefore z a) (sym e) h
  | inr (inr k) ↦ absurd (n k)
]

-- if v is before a, and d is not before a, then v is before d
pub on_from : (v a d : Pair) → IsBefore v a → ¬ (IsBefore d a) → IsBefore v d
on_from v a d h n = elim (before_total a d)
    [ inl k ↦ before_trans v a d h k | inr (inl e) ↦ subst (IsBefore v) e h | inr (inr k) ↦ absurd (n k) ]

-- ---- from outside

-- a point before the first point is before all points
pub before_all : (S : List Pair) (first q : Pair) → IsFirst S first → IsBefore q first → All (IsBefore q) S
before_all S first q h b = all_of (IsBefore q) S (λ s m. on_from q first s b (h s m))

-- a point after the last point is after all points
pub after_all : (S : List Pair) (last q : Pair) → IsLast S last → IsBefore last q → All (λ s. IsBefore s q) S
after_all S last q h b = all_of (λ s. IsBefore s q) S (λ s m. up_to s last q (h s m) b)

-- a point before all lies outside
pub outside_before : (S : List Pair) (first q : Pair) → IsFirst S first → IsBefore q first → IsOutside S q
outside_before S first q h b = not_covered S q (past_separated Upper S q (before_all S first q h b))

-- a point after all lies outside
pub outside_after : (S : List Pair) (last q : Pair) → IsLast S last → IsBefore last q → IsOutside S q
outside_after S last q h b = not_covered S q (past_separated Lower S q (after_all S last q h b))

-- any point lies outside of the hull of no points
pub outside_nothing : (S : List Pair) (q : Pair) → length S ≡ 0 → IsOutside S q
outside_nothing S q l = not_covered S q (past_separated Lower S q (λ k d h. absurd (omega (arith, h, l))))

-- a point right of an edge lies outside
pub outside_right : (side : Side) (S : List Pair) (q : Pair) → IsRightOfEdge side S q → IsOutside S q
outside_right side S q (c, d, e, h) = right_outside S c d q e.left h

-- ---- from the boundary and from inside

-- a level direction
abbrev level : ℤ → Pair
level k = record { x = k; y = pos 0 }

-- a point not before q is no farther to the left
left_unit : (t q : Pair) → ¬ (IsBefore t q) → product (level (negsuc 0)) t ≤ℤ product (level (negsuc 0)) q
unfolding product
left_unit t q n = elim (le_or_lt q.x t.x) [ inl h ↦ omega (arith, ints) | inr h ↦ absurd (n (inl h)) ]

-- a point not after q is no farther to the right
right_unit : (t q : Pair) → ¬ (IsBefore q t) → product (level (pos 1)) t ≤ℤ product (level (pos 1)) q
unfolding product
right_unit t q n = elim (le_or_lt t.x q.x) [ inl h ↦ omega (arith, ints) | inr h ↦ absurd (n (inl h)) ]

-- the first point is outer
outer_first : (S : List Pair) (q : Pair) → IsFirst S q → IsOuter S q
outer_first S q h = (
  level (negsuc 0),
  λ z. omega (arith, ints, z.0),
  all_of (λ t. product (level (negsuc 0)) t ≤ℤ product (level (negsuc 0)) q) S (λ t m. left_unit t q (h t m)),
)

-- the last point is outer
outer_last : (S : List Pair) (q : Pair) → IsLast S q → IsOuter S q
outer_last S q h = (
  level (pos 1),
  λ z. omega (arith, ints, z.0),
  all_of (λ t. product (level (pos 1)) t ≤ℤ product (level (pos 1)) q) S (λ t m. right_unit t q (h t m)),
)

-- the start of a line is not strictly left of it
not_start : (c d q : Pair) → c ≡ q → pos 0 <ℤ orient c d q → ⊥
not_start c d q e h = let z : orient c d q ≡ pos 0 = ap (orient c d) (sym e) ∙ orient_start c d in omega (arith, ints)

-- the first point lies on the boundary
pub touching_first : (S : List Pair) (q : Pair) → Contains S q → IsFirst S q → IsOnBoundary S q
touching_first S q m h = (Member m, outer_first S q h)

-- the last point lies on the boundary
pub touching_last : (S : List Pair) (q : Pair) → Contains S q → IsLast S q → IsOnBoundary S q
touching_last S q m h = (Member m, outer_last S q h)

-- the left end of an edge lies on the boundary
pub touching_start : (S : List Pair) (q : Pair) (e : Pair × Pair) → IsLowerEdgeAt S q e → ¬ (IsBefore e.0 q)
    → IsOnBoundary S q
touching_start S q e k n =
    let s : e.0 ≡ q = equal_by e.0 q n k.starts in (
      Member (subst (Contains S) s k.edge.from),
      on_line_outer S e.0 e.1 q (inl k.edge.along) k.edge.left (ap (orient e.0 e.1) (sym s) ∙ orient_start e.0 e.1),
    )

-- a point on the inner side of both edges at it, or on them, is covered
covered_at : (S : List Pair) (q : Pair) (e f : Pair × Pair) → IsLowerEdgeAt S q e → IsUpperEdgeAt S q f
    → pos 0 ≤ℤ orient e.0 e.1 q → pos 0 ≤ℤ orient f.0 f.1 q → Covers S q
covered_at S q e f k l low high =
    elim (before_total e.0 q) [
      | inr (inr b) ↦ absurd (k.starts b)
      | inr (inl z) ↦ Member (subst (Contains S) z k.edge.from)
      | inl a ↦ elim (before_total q f.0) [
        | inr (inr b) ↦ absurd (l.starts b)
        | inr (inl z) ↦ Member (subst (Contains S) (sym z) l.edge.from)
        | inl b ↦ between_covered S q e.0 e.1 f.0 f.1 k.edge l.edge a k.onward b l.onward low high
      ]
    ]

-- a point on the inner side of both edges at it lies inside
inside_at : (S : List Pair) (q : Pair) (e f : Pair × Pair) → IsLowerEdgeAt S q e → IsUpperEdgeAt S q f
    → pos 0 <ℤ orient e.0 e.1 q → pos 0 <ℤ orient f.0 f.1 q → IsInside S q
inside_at S q e f k l low high =
    elim (before_total e.0 q) [
      | inr (inr b) ↦ absurd (k.starts b)
      | inr (inl z) ↦ absurd (not_start e.0 e.1 q z low)
      | inl a ↦ elim (before_total q f.0) [
        | inr (inr b) ↦ absurd (l.starts b)
        | inr (inl z) ↦ absurd (not_start f.0 f.1 q (sym z) high)
        | inl b ↦ between_inside S q e.0 e.1 f.0 f.1 k.edge l.edge a k.onward b l.onward low high
      ]
    ]

-- a point on the line of one of the edges at it is outer
outer_at : (S : List Pair) (q : Pair) (e f : Pair × Pair) → IsLowerEdgeAt S q e → IsUpperEdgeAt S q f
    → pos 0 ≤ℤ orient e.0 e.1 q → pos 0 ≤ℤ orient f.0 f.1 q → (orient e.0 e.1 q ≤ℤ pos 0) ⊎ (orient f.0 f.1 q ≤ℤ pos 0)
    → IsOuter S q
outer_at S q e f k l low high (inl h) = on_line_outer S e.0 e.1 q (inl k.edge.along) k.edge.left (omega (arith, ints))
outer_at S q e f k l low high (inr h) = on_line_outer S f.0 f.1 q (inr l.edge.along) l.edge.left (omega (arith, ints))

-- the sides of the two edges at q determine its location
pub seen_by : (first last : Pair) (S : List Pair) (q : Pair) (e f : Pair × Pair) (s : Location) → IsBetweenEnds first last q
    → IsLowerEdgeAt S q e → IsUpperEdgeAt S q f → IsLocationBy (orient e.0 e.1 q) (orient f.0 f.1 q) s
    → IsLocationOf first last S q s
seen_by first last S q e f Before i k l h = absurd h
seen_by first last S q e f After i k l h = absurd h
seen_by first last S q e f Below i k l h = absurd h
seen_by first last S q e f Above i k l h = (i, (f.0, f.1, l.edge, h))
seen_by first last S q e f Touching i k l h = (covered_at S q e f k l h.0 h.1, outer_at S q e f k l h.0 h.1 h.2)
seen_by first last S q e f Within i k l h = inside_at S q e f k l h.0 h.1
