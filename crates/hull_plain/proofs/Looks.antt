-- The place of a point, by its location relative to each chain of a hull.
use Rattle.std.proofs.Common.{◌≡◌, ℕ, ℤ, pos, neg_ℤ, inl, inr, refl, sym, ◌∙◌, subst, List, arith}
use Rattle.std.proofs.Common.{◌-◌, length, Ok}
use Rattle.std.proofs.lemmas.Int.{ints}
use Rattle.std.specs.List.{Contains}
use Rattle.lattice.specs.Covers.{Member, OnSegment}
use Rattle.lattice.specs.Places.{IsOuter, IsOnBoundary, IsInside}
use Rattle.lattice.specs.Plane.{Pair, orient}
use Rattle.lattice.proofs.Order.{before_not}
use Rattle.hull_geometry.specs.ChainEdges.{IsEdge, IsEdgeAt}
use Rattle.hull_plain.specs.ChainLocations.{IsSeen}
use Rattle.hull_geometry.specs.Monotone.{IsChainOf}
use Rattle.lattice.specs.Orientations.{orient_on}
use Rattle.hull_geometry.specs.Positions.{IsPositionOf, point_at, origin}
use Rattle.lattice.specs.declared.side.Side.{Side}
use Rattle.lattice.specs.declared.side.Side.TheVariants.{Lower, Upper}
use Rattle.hull_plain.specs.declared.locations.ChainLocation.{ChainLocation}
use Rattle.hull_plain.specs.declared.locations.ChainLocation.TheVariants.{Before, After, Outwards, Touching, Inwards}
use Rattle.hull_geometry.proofs.ChainEdges.{lower_edge, upper_edge}
use Rattle.hull_geometry.proofs.ChainPlaces.{edge_to, chain_in, first_of, last_of}
use Rattle.hull_geometry.specs.Locations.{IsBetweenEnds, IsRightOfEdge}
use Rattle.hull_geometry.proofs.EdgesAt.{up_to, on_from, touching_first}
use Rattle.hull_geometry.proofs.CoveredByEdges.{on_segment}
use Rattle.hull_geometry.proofs.EdgePlaces.{on_line_outer, between_inside}
use Rattle.hull_geometry.proofs.Orientation.{orient-cycle, orient_swap}
use Rattle.hull_geometry.proofs.Orientations.{orient_on_end}

-- ---- from the boundary

-- a point on the line of an edge is outer
on_edge_line : (side : Side) (S : List Pair) (q a b : Pair) → IsEdge side S a b → orient_on side a b q ≡ pos 0 → IsOuter S q
on_edge_line Lower S q a b e z = on_line_outer S a b q (inl e.forward) (lower_edge e).left z
on_edge_line Upper S q a b e z = on_line_outer S b a q (inr e.forward) (upper_edge e).left z

-- a bend of 0 on a side is a side of 0
level : (side : Side) (a b q : Pair) → orient_on side a b q ≡ pos 0 → orient q a b ≡ pos 0
level Lower a b q z = sym (orient-cycle a b q) ∙ z
level Upper a b q z = swapped _ _ (orient_swap q a b) (sym (orient-cycle b a q) ∙ z)
  where
    swapped : (x y : ℤ) → x ≡ neg_ℤ y → y ≡ pos 0 → x ≡ pos 0
    swapped x y e h = omega (arith, ints)

-- a point on an edge is on the boundary
pub on_edge : (side : Side) (S : List Pair) (q a b : Pair) → IsEdgeAt side S q a b → orient_on side a b q ≡ pos 0
    → IsOnBoundary S q
on_edge side S q a b e z = (
  OnSegment a b e.edge.from e.edge.to (on_segment a b q e.after e.before (level side a b q z)),
  on_edge_line side S q a b e.edge z,
)

-- a point of the chain is on the boundary
pub on_chain : (side : Side) (S chain : List Pair) (q : Pair) (i : ℕ) → IsPositionOf chain q (Ok i)
    → IsChainOf side S chain → IsOnBoundary S q
on_chain side S chain q i at c = subst (IsOnBoundary S) (at.1 origin) (elim (edge_to side S chain i c at.0) [
  | inl f ↦ touching_first S (point_at chain i) there f
  | inr k ↦ (
    Member there,
    on_edge_line side S (point_at chain i) (point_at chain (i - 1)) (point_at chain i) k.1
        (orient_on_end side (point_at chain (i - 1)) (point_at chain i)),
  )
])
  where
    there : Contains S (point_at chain i)
    there = chain_in side S chain i c at.0

-- ---- the place that follows

-- a point on the inner side of both chains lies inside
pub locations_inside : (S : List Pair) (q : Pair) → IsSeen Lower S q Inwards → IsSeen Upper S q Inwards → IsInside S q
locations_inside S q (a, b, e, h) (c, d, f, k) =
    between_inside S q a b d c (lower_edge e.edge) (upper_edge f.edge) e.after e.before f.before f.after h k

-- a point on the inner side of a lower edge that is on neither side of an upper one touches it
pub location_touching : (S : List Pair) (q : Pair) (s : ChainLocation) → IsSeen Lower S q Inwards → IsSeen Upper S q s
    → ¬ (s ≡ Outwards) → ¬ (s ≡ Inwards) → IsOnBoundary S q
location_touching S q Before (a, b, e, h) k n m = absurd (before_not a q e.after (k a e.edge.from))
location_touching S q After (a, b, e, h) k n m = absurd (before_not q b e.before (k b e.edge.to))
location_touching S q Outwards h k n m = absurd (n refl)
location_touching S q Touching h k n m = k
location_touching S q Inwards h k n m = absurd (m refl)

-- q between the ends of an edge is between the ends of each chain
pub edge_within : (side other : Side) (S chain : List Pair) (q a b : Pair) → IsEdgeAt side S q a b
    → IsChainOf other S chain → IsBetweenEnds (point_at chain 0) (point_at chain (length chain - 1)) q
edge_within side other S chain q a b e c = (
  up_to (point_at chain 0) a q (first_of other S chain c a e.edge.from) e.after,
  on_from q b (point_at chain (length chain - 1)) e.before (last_of other S chain c b e.edge.to),
)

-- a point outwards of an edge is right of it
pub outwards_right : (side : Side) (S : List Pair) (q : Pair) → IsSeen side S q Outwards → IsRightOfEdge side S q
outwards_right Lower S q (a, b, e, h) = (a, b, lower_edge e.edge, h)
outwards_right Upper S q (a, b, e, h) = (b, a, upper_edge e.edge, h)
