-- The result of asking for the vertices of some points of a caller's.
use Rattle.std.specs.Prelude.{◌≡◌, ◌⊎◌, ◌≢◌, ◌↔◌, ◌+◌, ◌-◌, ◌<◌, ◌≤◌, ℕ, List, [], length, slice_index_or}
use Rattle.std.specs.List.{All, Contains, RotatedLeft}
use Rattle.lattice.specs.Plane.{Pair}
use Rattle.lattice.specs.Vertices.{IsVertexList}
use Rattle.hull_set.specs.Held.{nothing_held}
use Rattle.hull_set.specs.declared.TheConstants.{POINT_LIMIT}
use Rattle.hull_polygon.specs.Polygons.{IsShortPolygon}
use Rattle.leaf_trees.specs.Entries.{AreTooMany, held_after_adds}
use Rattle.hull_reply.specs.Vertices.{EncodesVertices}
use Rattle.hull_reply.specs.Encoded.{IsBare}
use Rattle.hull_reply.specs.declared.code.Code.TheVariants as code
use Rattle.hull_reply.specs.declared.reply.HullReply.{HullReply}
use Rattle.hull_c.specs.Loads.{HasCoordinates}

-- both lists have the same points, in any order
abbrev pub HaveSamePoints : List Pair → List Pair → Type 0
HaveSamePoints xs ys = (t : Pair) → Contains xs t ↔ Contains ys t

-- the points are these vertices, all of them in their order, from the one at k on
abbrev pub GoesRoundFrom : List Pair → List Pair → ℕ → Type 0
GoesRoundFrom vertices points k = RotatedLeft vertices points (length vertices) k

-- the points are these vertices in the reverse order, from the one at k on
abbrev pub GoesBackFrom : List Pair → List Pair → ℕ → Type 0
GoesBackFrom vertices points k = (i : ℕ) (d : Pair) → i < length vertices
    → (i ≤ k → slice_index_or points i d ≡ slice_index_or vertices (k - i) d)
    × (k < i → slice_index_or points i d ≡ slice_index_or vertices (k + length vertices - i) d)

-- the points are a ring of these vertices, from one of them on and in one of the two directions
abbrev pub IsRingOf : List Pair → List Pair → Type 0
IsRingOf vertices points =
    (length points ≡ length vertices)
    × ((k : ℕ) × (k < length vertices) × (GoesRoundFrom vertices points k ⊎ GoesBackFrom vertices points k))

-- the points are a ring of a convex polygon
abbrev pub IsPolygonRing : List Pair → Type 0
IsPolygonRing points = (vertices : List Pair) × IsShortPolygon vertices × IsRingOf vertices points

-- the vertices are those of a set to which the points are added one by one
abbrev pub AreVerticesOf : List Pair → List Pair → Type 0
AreVerticesOf points vertices = IsVertexList (held_after_adds nothing_held points).points vertices

-- the vertices of the points were written to the array, or it is too short for them
abbrev pub WritesVerticesOf : List Pair → List Pair → List Pair → HullReply → Type 0
WritesVerticesOf points before after encoded =
    (vertices : List Pair) × AreVerticesOf points vertices × EncodesVertices vertices before after encoded

-- no set takes the points, or memory was refused (no points need none); the array is unchanged
abbrev pub AreTooManyOrRefused : List Pair → List Pair → List Pair → HullReply → Type 0
AreTooManyOrRefused points before after encoded =
    (after ≡ before)
    × ((AreTooMany nothing_held points POINT_LIMIT × IsBare code.TooMany encoded)
    ⊎ ((points ≢ []) × IsBare code.NoMemory encoded))

-- The vertices were written; or the array is unchanged: some point is out of range (only then does the reply have
-- that reason), or there are too many, or memory was refused.
abbrev pub EncodesVerticesOf : List Pair → List Pair → List Pair → HullReply → Type 0
EncodesVerticesOf points before after encoded =
    (¬ All HasCoordinates points × (after ≡ before) × IsBare code.OutOfRange encoded)
    ⊎ (All HasCoordinates points
    × (WritesVerticesOf points before after encoded ⊎ AreTooManyOrRefused points before after encoded))
