-- The edges between whose ends a point is, and the ends of the chains.
use Rattle.std.proofs.Common.{ℕ, ◌+◌, ◌-◌, ◌≤◌, ◌<◌, List, length, inl, inr, refl, subst, arith}
use Rattle.std.proofs.lemmas.Bool.{cases_lt}
use Rattle.lattice.specs.Places.{IsOnBoundary}
use Rattle.lattice.specs.Plane.{Pair, IsBefore}
use Rattle.lattice.proofs.Order.{equal_by}
use Rattle.hull_geometry.specs.Locations.{IsEdgeOnAt, IsLowerEdgeAt, AreEnds}
use Rattle.hull_geometry.specs.Edges.{IsAlong}
use Rattle.lattice.specs.declared.side.Side.{Side}
use Rattle.hull_polygon.specs.Touches.{starts_at, ends_at}
use Rattle.hull_geometry.proofs.EdgesAt.{up_to, touching_last}
use Rattle.hull_polygon.specs.Polygons.{IsPolygonOf}
use Rattle.hull_polygon.specs.Rounds.{vertex, IsSeparated}
use Rattle.hull_polygon.proofs.Vertices.{vertex_extreme}
use Rattle.hull_polygon.proofs.Ends.{ends_of, alone}
use Rattle.hull_polygon.proofs.Made.{separated_is_polygon}
use Rattle.hull_polygon.proofs.Rings.{ring_of}

-- if a vertex of a chain is not after q, and the end of the chain is, the vertex is not the end
pub start_within : (side : Side) (V : List Pair) (last start : ℕ) (q : Pair)
    → ¬ (IsAlong side q (vertex V (starts_at side last))) → IsAlong side q (vertex V (ends_at side V last))
    → starts_at side last ≤ start → start ≤ ends_at side V last
    → (starts_at side last < start → ¬ (IsAlong side q (vertex V (start - 1 + 1)))) → start < ends_at side V last
start_within side V last start q from to low high held = elim (cases_lt start (ends_at side V last)) [
  | inl h ↦ h
  | inr h ↦ elim (cases_lt (starts_at side last) start) [
    | inl k ↦ absurd (held k (subst (λ (i : ℕ). IsAlong side q (vertex V i)) (omega (arith, h, high, k)) to))
    | inr k ↦ absurd (from (subst (λ (i : ℕ). IsAlong side q (vertex V i)) (omega (arith, h, high, k, low)) to))
  ]
]

-- the edge from there is the one at q
pub edge_found : (side : Side) (S V : List Pair) (last start : ℕ) (q : Pair) → IsPolygonOf S V → IsSeparated V last
    → 0 < length V → ¬ (IsAlong side q (vertex V (starts_at side last))) → IsAlong side q (vertex V (ends_at side V last))
    → starts_at side last ≤ start → start < ends_at side V last
    → (starts_at side last < start → ¬ (IsAlong side q (vertex V (start - 1 + 1))))
    → (start < ends_at side V last → IsAlong side q (vertex V (start + 1)))
    → IsEdgeOnAt side S q (vertex V start, vertex V (start + 1))
edge_found side S V last start q o p n from to low high held fails = record {
  edge = (ring_of S V last o (p.1 two)).edge side start (start + 1) refl low high;
  starts = elim (cases_lt (starts_at side last) start) [
    | inl h ↦ subst (λ (k : ℕ). ¬ (IsAlong side q (vertex V k))) (omega (arith, h)) (held h)
    | inr h ↦ subst (λ (k : ℕ). ¬ (IsAlong side q (vertex V k))) (omega (arith, h, low)) from
  ];
  onward = fails high;
}
  where
    two : 1 < length V
    two = elim (cases_lt 1 (length V)) [
      | inl h ↦ h
      | inr one ↦ absurd (from (subst (IsAlong side q) (alone S V last (starts_at side last)
          (vertex V (ends_at side V last)) o p n one (vertex_extreme S V (ends_at side V last) o.1 n).0) to))
    ]

-- the last vertex lies on the boundary
pub last_touched : (S V : List Pair) (last : ℕ) (q : Pair) → IsPolygonOf S V → IsSeparated V last → 0 < length V
    → ¬ (IsBefore (vertex V last) q) → ¬ (IsBefore q (vertex V last)) → IsOnBoundary S q
last_touched S V last q o p n h k =
    subst (IsOnBoundary S) (equal_by (vertex V last) q h k)
    (touching_last S (vertex V last) (vertex_extreme S V last o.1 n).0 (ends_of S V last o p n).1)

-- the first vertex is before each point that is after the left end of an edge
pub after_start : (V : List Pair) (last : ℕ) (q : Pair) (e : Pair × Pair) → IsSeparated V last → 0 < length V
    → ((S : List Pair) → IsPolygonOf S V → IsLowerEdgeAt S q e) → IsBefore e.0 q → IsBefore (vertex V 0) q
after_start V last q e p n k b =
    let o = separated_is_polygon V last p in
    up_to (vertex V 0) e.0 q ((ends_of o.0 V last o.1 p n).0 e.0 (k o.0 o.1).edge.from) b

-- the first vertex and the one at `last` are the ends of the set
pub are_ends : (S V : List Pair) (last : ℕ) → IsPolygonOf S V → IsSeparated V last → 0 < length V
    → AreEnds S (vertex V 0) (vertex V last)
are_ends S V last o p n =
    let ends = ends_of S V last o p n in
    (((vertex_extreme S V 0 o.1 n).0, ends.0), ((vertex_extreme S V last o.1 n).0, ends.1))
