-- Laws of the definitions. Each is the contract of a public function with an empty body.
use Rattle.std.specs.List.{Contains}
use Rattle.std.specs.Prelude.{◌≡◌, ◌⊎◌, ◌↔◌, ℤ, List}
use Rattle.lattice.specs.Covers.{IsPointSet, with_point, without_point}
use Rattle.lattice.specs.Plane.{Pair}
use Rattle.lattice.specs.Vertices.{IsVertexList, IsDoubledArea}

-- a list of points has at most one list of vertices
abbrev pub VertexListIsUnique : Type 0
VertexListIsUnique = (S vertices others : List Pair) → IsVertexList S vertices → IsVertexList S others
    → vertices ≡ others

-- a list of points has at most one doubled area
abbrev pub DoubledAreaIsUnique : Type 0
DoubledAreaIsUnique = (S : List Pair) (m n : ℤ) → IsDoubledArea S m → IsDoubledArea S n → m ≡ n

-- a list in the order "before", with a point added, is in that order, and its members are that point and those of the
-- list
abbrev pub WithPointAddsThePoint : Type 0
WithPointAddsThePoint =
    (S : List Pair) (p : Pair) → IsPointSet S
    → IsPointSet (with_point p S) × ((t : Pair) → (Contains (with_point p S) t ↔ ((t ≡ p) ⊎ Contains S t)))

-- a list with a point removed is in that order, and its members are those of the list without that point
abbrev pub WithoutPointTakesThePoint : Type 0
WithoutPointTakesThePoint =
    (S : List Pair) (p : Pair) → IsPointSet S
    → IsPointSet (without_point p S) × ((t : Pair) → (Contains (without_point p S) t ↔ (Contains S t × ¬ (t ≡ p))))
