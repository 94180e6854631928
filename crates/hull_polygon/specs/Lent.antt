-- The value that contracts see of a polygon.
use Rattle.std.specs.Prelude.{List}
use Rattle.lattice.specs.Plane.{Pair}
use Rattle.hull_polygon.specs.declared.polygon.Polygon.{Polygon}

-- its vertices
abbrev pub vertices_of : Polygon → List Pair
vertices_of polygon = polygon.vertices.now
