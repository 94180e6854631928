-- The convex polygon of a finite set of points: the list of its vertices, as the set returns them.
use Rattle.std.specs.Prelude.{◌↔◌, ◌≤◌, List, length}
use Rattle.std.specs.List.{Contains}
use Rattle.lattice.specs.Plane.{Pair}
use Rattle.lattice.specs.Covers.{IsPointSet}
use Rattle.lattice.specs.Vertices.{IsVertexList}
use Rattle.hull_set.specs.declared.TheConstants.{POINT_LIMIT}

-- the vertices are the vertices of the set S, counterclockwise from the first
abbrev pub IsPolygonOf : List Pair → List Pair → Type 0
IsPolygonOf S vertices = IsPointSet S × IsVertexList S vertices

-- the vertices of some set
abbrev pub IsPolygon : List Pair → Type 0
IsPolygon vertices = (S : List Pair) × IsPolygonOf S vertices

-- the vertices of some set, no more than a set may have
abbrev pub IsShortPolygon : List Pair → Type 0
IsShortPolygon vertices = IsPolygon vertices × (length vertices ≤ POINT_LIMIT)

-- the vertices of the set that has only these points
abbrev pub IsOwnPolygon : List Pair → Type 0
IsOwnPolygon vertices =
    (S : List Pair) → IsPointSet S → ((t : Pair) → Contains S t ↔ Contains vertices t) → IsVertexList S vertices

-- each set with these vertices has the property P
abbrev pub HoldsOfSetsOf : List Pair → (List Pair → Type 0) → Type 0
HoldsOfSetsOf vertices P = (S : List Pair) → IsPolygonOf S vertices → P S

-- each pair of sets, one with the one vertices and one with the others, has the property P
abbrev pub HoldsOfBoth : List Pair → List Pair → (List Pair → List Pair → Type 0) → Type 0
HoldsOfBoth vertices others P = HoldsOfSetsOf vertices (λ S. HoldsOfSetsOf others (λ T. P S T))
