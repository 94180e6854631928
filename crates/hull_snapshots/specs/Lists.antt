-- Lists of vertices, and when they are those after changes of the empty set.
use Rattle.std.specs.Prelude.{List}
use Rattle.std.specs.List.{Contains}
use Rattle.lattice.specs.Plane.{Pair}
use Rattle.lattice.specs.Vertices.{IsVertexList}
use Rattle.lattice.specs.Covers.{Covers, IsPointSet}
use Rattle.hull_set.specs.Held.{Held}
use Rattle.hull_snapshots.specs.Changes.{changed, held_after_changes}
use Rattle.hull_snapshots.specs.declared.change.Change.{Change}
use Rattle.hull_snapshots.specs.declared.change.Change.TheVariants.{Came, Went}
use Rattle.hull_snapshots.specs.declared.vertex_list.VertexList.{VertexList}

-- the vertices in the list
abbrev pub vertices_in : VertexList → List Pair
vertices_in list = list.points.items

-- they are the vertices of the set's points after these changes
abbrev pub AreVerticesAfter : List Change → VertexList → Type 0
AreVerticesAfter changes list = ∥ IsVertexList (held_after_changes changes).points (vertices_in list) ∥₁

-- each set that has these vertices has the same ones after the change
abbrev pub StayThrough : List Pair → Change → Type 0
StayThrough vertices change = (held : Held) → IsPointSet held.points → IsVertexList held.points vertices
    → IsVertexList (changed held change).points vertices

-- the change moves no vertex of a set with these points and these vertices: a point that comes is covered, one that
-- goes is no vertex
abbrev pub IsWithin : List Pair → List Pair → Change → Type 0
IsWithin points vertices (Came p) = Covers points p
IsWithin points vertices (Went p) = ¬ Contains vertices p
IsWithin points vertices _ = Unit {0}
