-- The first of the farthest points, by the edges at the vertex that a bisection of a chain found.
use Rattle.std.proofs.Common.{ℕ, ◌+◌, ◌-◌, ◌≤◌, ◌<◌, ◌≤ℤ◌, ◌<ℤ◌, pos, List, length, inl, inr, subst, arith}
use Rattle.lattice.specs.Plane.{Pair, product}
use Rattle.lattice.specs.declared.side.Side.TheVariants.{Lower, Upper}
use Rattle.hull_geometry.specs.Tangents.{IsFirstFarthest}
use Rattle.hull_geometry.proofs.Farthest.{farthest_touched}
use Rattle.hull_geometry.proofs.Supports.{lower_support, upper_support}
use Rattle.hull_polygon.specs.Polygons.{IsPolygonOf}
use Rattle.hull_polygon.specs.Rounds.{vertex, IsSeparated}
use Rattle.hull_polygon.proofs.Vertices.{vertex_extreme}
use Rattle.hull_polygon.proofs.Ends.{edge_to, edge_from}

-- if the direction does not go up, it is the vertex up to which the lower chain rises
pub farthest_below : (S V : List Pair) (last at : ℕ) (d : Pair) → IsPolygonOf S V → IsSeparated V last → 0 < length V
    → d.y ≤ℤ pos 0 → at ≤ last
    → (0 < at → product d (vertex V (at - 1)) <ℤ product d (vertex V (at - 1 + 1)))
    → (at < last → ¬ (product d (vertex V at) <ℤ product d (vertex V (at + 1))))
    → IsFirstFarthest S d (vertex V at)
farthest_below S V last at d o p n down l held fails =
    farthest_touched Lower S d (vertex V at) down (vertex_extreme S V at o.1 n).0
    (elim (edge_to Lower S V last at o p n (omega arith) l) [
      | inl f ↦ inl f
      | inr k ↦ inr (
        vertex V (at - 1),
        lower_support k.1,
        subst (λ (i : ℕ). product d (vertex V (at - 1)) <ℤ product d (vertex V i)) (omega (arith, k.0)) (held k.0),
      )
    ])
    (elim (edge_from Lower S V last at o p n (omega arith) l)
    [ inl f ↦ inl f | inr k ↦ inr (vertex V (at + 1), lower_support k.1, fails k.0) ])

-- if the direction goes up, it is the vertex from which the upper chain goes back to less far points
pub farthest_above : (S V : List Pair) (last at : ℕ) (d : Pair) → IsPolygonOf S V → IsSeparated V last → 0 < length V
    → pos 0 <ℤ d.y → last ≤ at → at ≤ length V
    → (last < at → ¬ (product d (vertex V (at - 1 + 1)) <ℤ product d (vertex V (at - 1))))
    → (at < length V → product d (vertex V (at + 1)) <ℤ product d (vertex V at))
    → IsFirstFarthest S d (vertex V at)
farthest_above S V last at d o p n up k l held fails =
    farthest_touched Upper S d (vertex V at) up (vertex_extreme S V at o.1 n).0
    (elim (edge_from Upper S V last at o p n k l)
    [ inl f ↦ inl f | inr h ↦ inr (vertex V (at + 1), upper_support h.1, fails h.0) ])
    (elim (edge_to Upper S V last at o p n k l) [
      | inl f ↦ inl f
      | inr h ↦ inr (
        vertex V (at - 1),
        upper_support h.1,
        subst (λ (i : ℕ). ¬ (product d (vertex V i) <ℤ product d (vertex V (at - 1)))) (omega (arith, h.0)) (held h.0),
      )
    ])
