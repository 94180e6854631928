-- The triangles between the first vertex and the edges.
use Rattle.std.proofs.Common.{ℕ, ◌-◌, ◌≤◌, ◌<◌, pos, ◌≤ℤ◌, List, length, arith}
use Rattle.std.proofs.lemmas.List.Elements.{All-contains}
use Rattle.lattice.specs.Plane.{Pair, orient}
use Rattle.hull_geometry.proofs.Orientation.{at_least, orient-cycle}
use Rattle.hull_polygon.specs.Polygons.{IsPolygon}
use Rattle.hull_polygon.specs.Rounds.{vertex}
use Rattle.hull_polygon.proofs.Vertices.{vertex_extreme, next_left}

-- a triangle between the first vertex and an edge does not bend right
pub triangle_left : (V : List Pair) (i : ℕ) → IsPolygon V → 1 ≤ i → i < length V
    → pos 0 ≤ℤ orient (vertex V 0) (vertex V (i - 1)) (vertex V i)
triangle_left V i (S, o) p l =
    at_least _ _ (orient-cycle (vertex V (i - 1)) (vertex V i) (vertex V 0))
    (All-contains (λ t. pos 0 ≤ℤ orient (vertex V (i - 1)) (vertex V i) t) S (vertex V 0)
    (next_left S V (i - 1) i o.1 (omega (arith, p)) (omega (arith, l)))
    (vertex_extreme S V 0 o.1 (omega (arith, l))).0)
