-- The relation of the hulls of two finite sets of points. A line divides them if each lies on its own side of it; both
-- may touch it.
use Rattle.std.specs.Prelude.{ℕ, ◌+◌, ◌<◌, pos, ◌<ℤ◌, ◌≤ℤ◌, List, length, Bool, true, false}
use Rattle.std.specs.List.{Contains}
use Rattle.lattice.specs.Plane.{Pair, orient, product, IsZero}
use Rattle.lattice.specs.Covers.{Covers}
use Rattle.lattice.specs.Places.{IsInside}
use Rattle.hull_polygon.specs.Boxes.{Holds}
use Rattle.hull_polygon.specs.Closest.{magnified}
use Rattle.hull_polygon.specs.Meetings.{AreDisjoint, Intersects}
use Rattle.hull_polygon.specs.Rounds.{vertex}
use Rattle.hull_polygon.specs.declared.relations.Relation.{Relation}
use Rattle.hull_polygon.specs.declared.relations.Relation.TheVariants as relation

-- in the direction d no point of S lies farther than any point of T
abbrev pub Divides : Pair → List Pair → List Pair → Type 0
Divides d S T = (s t : Pair) → Contains S s → Contains T t → product d s ≤ℤ product d t

-- in some direction, of whole numbers of any size: a line across it divides S from T
abbrev pub AreDivided : List Pair → List Pair → Type 0
AreDivided S T = (d : Pair) × ¬ IsZero d × Divides d S T

-- neither contains the other
abbrev pub HoldsNeither : List Pair → List Pair → Type 0
HoldsNeither S T = ¬ Holds S T × ¬ Holds T S

-- the relation of S to T
abbrev pub IsRelation : List Pair → List Pair → Relation → Type 0
IsRelation S T relation.Equal = Holds S T × Holds T S
IsRelation S T relation.Covers = Holds S T × ¬ Holds T S
IsRelation S T relation.Within = ¬ Holds S T × Holds T S
IsRelation S T relation.Disjoint = HoldsNeither S T × AreDisjoint S T
IsRelation S T relation.Touching = HoldsNeither S T × Intersects S T × AreDivided S T
IsRelation S T relation.Overlapping = HoldsNeither S T × Intersects S T × ¬ AreDivided S T

-- each point that T covers lies inside S, and none on the boundary
abbrev pub HoldsInside : List Pair → List Pair → Type 0
HoldsInside S T = (q : Pair) → Covers T q → IsInside S q

-- if a line divides two sets, no point inside the one is covered by the other, points with fractions as coordinates
-- included: these are points with whole coordinates in the magnified sets
abbrev pub NoneInsideDivided : Type 0
NoneInsideDivided =
    (S T : List Pair) (k : ℕ) (q : Pair) → AreDivided S T → IsInside (magnified k S) q → ¬ Covers (magnified k T) q

-- ---- along the edges

-- for each edge of the vertices V, some point of T lies on its left
abbrev pub IsLeftOfEach : List Pair → List Pair → Type 0
IsLeftOfEach V T = (i : ℕ) → i < length V → (t : Pair) × Contains T t × (pos 0 <ℤ orient (vertex V i) (vertex V (i + 1)) t)

-- an edge has T on its right, or on its line, and so divides T from S; or each has a point of T on its left
abbrev pub ReturnsEdge : Bool → List Pair → List Pair → List Pair → Type 0
ReturnsEdge true S V T = AreDivided T S
ReturnsEdge false S V T = IsLeftOfEach V T
