-- The points that the tangents from a point outside touch, by the edges at the vertex that a bisection found.
use Rattle.std.proofs.Common.{ℕ, ◌+◌, ◌-◌, ◌≤◌, ◌<◌, List, length, inl, inr, sym, subst, arith}
use Rattle.std.proofs.lemmas.Bool.{cases_lt}
use Rattle.lattice.specs.Plane.{Pair, IsBefore}
use Rattle.lattice.specs.declared.side.Side.{Side}
use Rattle.lattice.specs.declared.side.Side.TheVariants.{Lower, Upper}
use Rattle.hull_geometry.specs.Edges.{IsAlong}
use Rattle.hull_geometry.specs.Locations.{IsInwards, IsOnChain}
use Rattle.hull_geometry.specs.Tangents.{IsLeftTangent, IsRightTangent}
use Rattle.hull_geometry.specs.declared.hand.Hand.TheVariants.{Left, Right}
use Rattle.hull_geometry.proofs.Touching.{left_touched, right_touched}
use Rattle.hull_polygon.specs.Polygons.{IsPolygonOf}
use Rattle.hull_polygon.specs.Rounds.{vertex, IsSeparated}
use Rattle.hull_polygon.specs.Touches.{IsPassed, IsToCome, starts_at, ends_at}
use Rattle.hull_polygon.proofs.Vertices.{vertex_back, vertex_extreme}
use Rattle.hull_polygon.proofs.Ends.{edge_to, edge_from}

-- the left tangent touches the vertex up to which the edges are passed
pub left_at : (side : Side) (S V : List Pair) (last at : ℕ) (q : Pair) → IsPolygonOf S V → IsSeparated V last → 0 < length V
    → IsOnChain Left side (vertex V 0) (vertex V last) S q → starts_at side last ≤ at → at ≤ ends_at side V last
    → (starts_at side last < at → IsPassed side q (vertex V (at - 1)) (vertex V (at - 1 + 1)))
    → (at < ends_at side V last → ¬ (IsPassed side q (vertex V at) (vertex V (at + 1)))) → IsLeftTangent S q (vertex V at)
left_at side S V last at q o p n h l u held fails =
    left_touched side S q (vertex V at) h.0 (vertex_extreme S V at o.1 n).0 (elim (cases_lt (starts_at side last) at) [
      | inl k ↦ (passed k).0
      | inr k ↦ subst (λ (i : ℕ). IsAlong side (vertex V i) q) (omega (arith, k, l)) (from_start side h.1)
    ])
    (elim (edge_to side S V last at o p n l u) [ inl f ↦ inl f | inr k ↦ inr (vertex V (at - 1), k.1, (passed k.0).1) ])
    (elim (edge_from side S V last at o p n l u) [ inl f ↦ inl f | inr k ↦ inr (vertex V (at + 1), k.1, fails k.0) ])
  where
    passed : starts_at side last < at → IsPassed side q (vertex V (at - 1)) (vertex V at)
    passed k = subst (λ (i : ℕ). IsPassed side q (vertex V (at - 1)) (vertex V i)) (omega (arith, k)) (held k)

    from_start : (side : Side) → IsInwards Left side (vertex V 0) (vertex V last) q
        → IsAlong side (vertex V (starts_at side last)) q
    from_start Lower b = b
    from_start Upper b = b

-- the right tangent touches the vertex from which the edges are to come
pub right_at : (side : Side) (S V : List Pair) (last at : ℕ) (q : Pair) → IsPolygonOf S V → IsSeparated V last → 0 < length V
    → IsOnChain Right side (vertex V 0) (vertex V last) S q → starts_at side last ≤ at → at ≤ ends_at side V last
    → (starts_at side last < at → ¬ (IsToCome side q (vertex V (at - 1)) (vertex V (at - 1 + 1))))
    → (at < ends_at side V last → IsToCome side q (vertex V at) (vertex V (at + 1))) → IsRightTangent S q (vertex V at)
right_at side S V last at q o p n h l u held fails =
    right_touched side S q (vertex V at) h.0 (vertex_extreme S V at o.1 n).0 (elim (cases_lt at (ends_at side V last)) [
      | inl k ↦ (fails k).0
      | inr k ↦ subst (λ (i : ℕ). IsAlong side q (vertex V i)) (omega (arith, k, u)) (to_end side h.1)
    ])
    (elim (edge_to side S V last at o p n l u) [ inl f ↦ inl f | inr k ↦ inr (vertex V (at - 1), k.1, not_to_come k.0) ])
    (elim (edge_from side S V last at o p n l u) [ inl f ↦ inl f | inr k ↦ inr (vertex V (at + 1), k.1, (fails k.0).1) ])
  where
    not_to_come : starts_at side last < at → ¬ (IsToCome side q (vertex V (at - 1)) (vertex V at))
    not_to_come k = subst (λ (i : ℕ). ¬ (IsToCome side q (vertex V (at - 1)) (vertex V i))) (omega (arith, k)) (held k)

    to_end : (side : Side) → IsInwards Right side (vertex V 0) (vertex V last) q
        → IsAlong side q (vertex V (ends_at side V last))
    to_end Lower b = b
    to_end Upper b = subst (λ (z : Pair). IsBefore z q) (sym (vertex_back V (length V) (omega arith) n)) b
