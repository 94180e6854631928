-- The vertices of the convex hull of a finite set of points, in their order, and its doubled area.
use Rattle.std.specs.Prelude.{◌≡◌, ◌≢◌, ◌↔◌, ℤ, pos, ◌+ℤ◌, ◌≤ℤ◌, List, [], ◌∷◌}
use Rattle.std.specs.List.{All, AllPairs, Contains}
use Rattle.lattice.specs.Plane.{Pair, orient, IsBefore}
use Rattle.lattice.specs.Covers.{IsExtreme}

-- no point of S lies right of the line from u to v
abbrev pub IsLeftOf : List Pair → Pair → Pair → Type 0
IsLeftOf S u v = All (λ t. pos 0 ≤ℤ orient u v t) S

-- from u along the list and back to `first`, no point of S lies right of the line from a member to the next
abbrev pub GoesRound : List Pair → Pair → Pair → List Pair → Type 0
GoesRound S first u [] = IsLeftOf S u first
GoesRound S first u (v ∷ rest) = IsLeftOf S u v × GoesRound S first v rest

-- the list goes round S counterclockwise and begins with the first of its members
abbrev pub IsInOrder : List Pair → List Pair → Type 0
IsInOrder S [] = Unit {0}
IsInOrder S (v ∷ rest) = GoesRound S v v rest × All (λ u. IsBefore v u) rest

-- the extreme points of S, each once, counterclockwise from the first of them
pub record IsVertexList (S vertices : List Pair) : Type 0 where
  pub distinct : AllPairs (λ u v. u ≢ v) vertices
  pub members : (p : Pair) → Contains vertices p ↔ IsExtreme S p
  pub order : IsInOrder S vertices

-- the doubled areas of the triangles from `first` to u and the next member, and so on along the list
abbrev pub fan : Pair → Pair → List Pair → ℤ
fan first u [] = pos 0
fan first u (v ∷ rest) = orient first u v +ℤ fan first v rest

-- the doubled area inside a list of vertices; zero for fewer than three
abbrev pub doubled_area : List Pair → ℤ
doubled_area [] = pos 0
doubled_area (v ∷ rest) = fan v v rest

-- n is the doubled area of the hull of S
abbrev pub IsDoubledArea : List Pair → ℤ → Type 0
IsDoubledArea S n = (vertices : List Pair) × IsVertexList S vertices × (n ≡ doubled_area vertices)
