-- Five points on a side of a list of points, from its first to its last.
use Rattle.std.specs.Prelude.{ℕ, ◌+◌, ◌<◌, List}
use Rattle.lattice.specs.Plane.{Pair, IsBefore}
use Rattle.lattice.specs.declared.side.Side.{Side}
use Rattle.hull_geometry.specs.Monotone.{IsInwards}
use Rattle.hull_geometry.specs.Positions.{point_at}

-- no point of the chain is before an earlier one
abbrev pub IsInOrder : List Pair → Type 0
IsInOrder chain = (i j : ℕ) → i < j → j < 5 → ¬ IsBefore (point_at chain j) (point_at chain i)

-- p is between two successive points of the chain, and not outwards of their segment
abbrev pub IsUnder : Side → List Pair → Pair → Type 0
IsUnder side chain p = (i : ℕ) × (i < 4) × IsInwards side (point_at chain i) (point_at chain (i + 1)) p
