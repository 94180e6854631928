-- The order of a point and the ends of a half, and the vertices of the lower chain.
use Rattle.std.specs.Prelude.{pos, ◌<ℤ◌, List}
use Rattle.std.specs.List.{Contains}
use Rattle.lattice.specs.Plane.{Pair, orient, IsBefore}
use Rattle.bridge_search.specs.Trees.{Tree, first_of, last_of}

-- v is before the last point of the half, and not before the first
abbrev pub IsBeforeEnd : Tree → Pair → Type 0
IsBeforeEnd t v = ¬ IsBefore v (first_of t) × IsBefore v (last_of t)

-- v is after the first point of the half, and not after the last
abbrev pub IsAfterStart : Tree → Pair → Type 0
IsAfterStart t v = IsBefore (first_of t) v × ¬ IsBefore (last_of t) v

-- v is a point of S, and lies below each segment from a point of S before it to one after it
pub record IsLowerVertex (S : List Pair) (v : Pair) : Type 0 where
  pub there : Contains S v
  pub under : (s t : Pair) → Contains S s → Contains S t → IsBefore s v → IsBefore v t → orient s t v <ℤ pos 0
