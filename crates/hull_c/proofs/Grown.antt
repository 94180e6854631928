-- Facts about the sets that a growing hull is the hull of.
use Rattle.std.proofs.Common.{◌≢◌, arith, ap, length, List, []}
use Rattle.std.specs.List.{Contains}
use Rattle.lattice.specs.Plane.{Pair}
use Rattle.lattice.specs.Vertices.{IsVertexList}

-- the vertices of no points
pub no_vertices : IsVertexList [] []
no_vertices = record {
  distinct = λ i j d less few. absurd (omega (arith, few));
  members = λ p. ((λ m. absurd (omega (arith, m.1))), (λ e. absurd (omega (arith, e.0.1))));
  order = tt;
}

-- a set with a point is not empty
pub some_points : (S : List Pair) (p : Pair) → Contains S p → S ≢ []
some_points S p m e = omega (arith, m.1, ap (λ (z : List Pair). length z) e)
