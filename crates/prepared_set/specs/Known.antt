-- The knowledge of the vertices of a set of points.
use Rattle.std.specs.Prelude.{List, Option, Some, None}
use Rattle.lattice.specs.Plane.{Pair}
use Rattle.hull_polygon.specs.Polygons.{IsPolygonOf}
use Rattle.prepared_set.specs.declared.vertices.Vertices.{Vertices}
use Rattle.prepared_set.specs.declared.vertices.Vertices.TheVariants.{Known, Unknown}

-- if vertices are known, they are those of S
abbrev pub AreVerticesOf : List Pair → Vertices → Type 0
AreVerticesOf S (Known vertices moves) = IsPolygonOf S vertices
AreVerticesOf S (Unknown asked) = Unit {0}

-- the vertices, if they are known
abbrev pub known_vertices : Vertices → Option (List Pair)
known_vertices (Known vertices moves) = Some vertices
known_vertices (Unknown asked) = None

-- a set, and what is known of its vertices
pub record PreparedValue (S : Type 0) : Type 0 where
  pub set : S
  pub vertices : Vertices
