-- What becomes of the vertices of a set when a point is added to it.
use Rattle.std.specs.Prelude.{◌+◌, ◌<◌, ◌≤◌, ℕ, List, ◌∷◌, ◌++◌, length, take, drop}
use Rattle.std.specs.List.{Contains}
use Rattle.lattice.specs.Plane.{Pair, IsBefore}
use Rattle.lattice.specs.Covers.{Covers, with_point}
use Rattle.lattice.specs.Vertices.{IsVertexList}
use Rattle.hull_polygon.specs.declared.insertions.Insertion.{Insertion}
use Rattle.hull_polygon.specs.declared.insertions.Insertion.TheVariants.{Covered, Between, Beyond}

-- p comes after one of the vertices and before another in the order "before"
abbrev pub IsAmid : List Pair → Pair → Type 0
IsAmid V p = (a b : Pair) × Contains V a × Contains V b × IsBefore a p × IsBefore p b

-- the list with p in place of what is after the index `after` and before the index `before`
abbrev pub put_between : List Pair → ℕ → ℕ → Pair → List Pair
put_between V after before p = take (after + 1) V ++ p ∷ drop before V

-- after p is added to S, whose vertices are V, its vertices are the same, or p is one and takes the place of those between
-- two others; or p comes before all points or after all
abbrev pub IsInsertion : List Pair → Pair → Insertion → List Pair → Type 0
IsInsertion V p Covered S = Covers S p × IsVertexList (with_point p S) V
IsInsertion V p (Between after before) S =
    ¬ Covers S p × IsAmid V p × IsVertexList (with_point p S) (put_between V after before p)
IsInsertion V p Beyond S = ¬ Covers S p × ¬ IsAmid V p

-- the two indices are in order, and the second at most that after the last vertex
abbrev pub IsGap : List Pair → Insertion → Type 0
IsGap V (Between after before) = (after < before) × (before ≤ length V)
IsGap V _ = Unit {0}
