-- Changes that alter the vertices of a set at one place, and the moves of vertices that they take in an array.
use Rattle.std.specs.Prelude.{◌≡◌, ℕ, ◌+◌, ◌-◌, ◌*◌, ◌<◌, min, List, length}
use Rattle.lattice.specs.Plane.{Pair, IsInRange, IsZero}
use Rattle.lattice.specs.Covers.{Covers, with_point}
use Rattle.lattice.specs.Vertices.{IsLeftOf, IsVertexList}
use Rattle.hull_polygon.specs.Insertions.{IsAmid}
use Rattle.hull_polygon.specs.Polygons.{IsPolygonOf}
use Rattle.hull_polygon.specs.Rounds.{vertex}
use Rattle.hull_polygon.specs.Steps.{left_of}
use Rattle.prepared_set.specs.declared.vertices.TheConstants.{MOVES_A_QUESTION, MOVES_A_VERTEX}

-- how many vertices are after the one at i: those that move in the array when that one comes or goes
abbrev pub count_after : List Pair → ℕ → ℕ
count_after V i = length V - (i + 1)

-- the most moves that the vertices may have left
abbrev pub full : List Pair → ℕ
full V = MOVES_A_VERTEX * length V

-- the moves that are left after a question
abbrev pub refilled : List Pair → ℕ → ℕ
refilled V moves = min (full V) (moves + MOVES_A_QUESTION)

-- p, which comes to the set S with the vertices V, lies outside, after one vertex and before another in the order
-- "before"; with it the set has the vertices W, and p is the one at i
pub record PutsIn (S V W : List Pair) (p : Pair) (i : ℕ) : Type 0 where
  pub old : IsPolygonOf S V
  pub outside : ¬ Covers S p
  pub amid : IsAmid V p
  pub new : IsVertexList (with_point p S) W
  pub within : i < length W
  pub there : vertex W i ≡ p

-- the line from a to b has a direction to its right that the program accepts
abbrev pub IsMeasured : Pair → Pair → Type 0
IsMeasured a b = IsInRange (left_of b a) × ¬ IsZero (left_of b a)

-- the vertex at i is neither the first nor the last of V; of the points S, which stay when it goes, none lies right of the
-- line between the vertices beside it
pub record TakesOut (S V : List Pair) (i : ℕ) : Type 0 where
  pub within : i < length V
  pub amid : IsAmid V (vertex V i)
  pub left : IsLeftOf S (vertex V (i - 1)) (vertex V (i + 1))
  pub measured : IsMeasured (vertex V (i - 1)) (vertex V (i + 1))
