-- A round of vertices: from the first forward to the last in the order "before", and from there back to the first.
use Rattle.std.specs.Prelude.{◌≡◌, ℕ, ◌+◌, ◌<◌, ◌≤◌, pos, ◌<ℤ◌, List, length, slice_index_or}
use Rattle.lattice.specs.Plane.{Pair, orient, IsBefore}
use Rattle.hull_geometry.specs.Positions.{point_at}

-- the vertex at i; beyond the end, the first one again
abbrev pub vertex : List Pair → ℕ → Pair
vertex V i = slice_index_or V i (point_at V 0)

-- from the vertex at i the next one lies forward up to the one at `last`, and back from there on
abbrev pub GoesOn : List Pair → ℕ → ℕ → Type 0
GoesOn V last i =
    (i < last → IsBefore (vertex V i) (vertex V (i + 1))) × (last ≤ i → IsBefore (vertex V (i + 1)) (vertex V i))

-- two steps from the vertex at i, both forward or both back, bend left
abbrev pub BendsLeft : List Pair → ℕ → ℕ → Type 0
BendsLeft V last i =
    ¬ (i + 1 ≡ last) → i + 1 < length V → pos 0 <ℤ orient (vertex V i) (vertex V (i + 1)) (vertex V (i + 2))

-- the vertices go forward to the one at `last` and back, and bend left between
pub record IsRound (V : List Pair) (last : ℕ) : Type 0 where
  pub starts : 0 < last
  pub within : last < length V
  pub steps : (i : ℕ) → i < length V → GoesOn V last i
  pub bends : (i : ℕ) → i < length V → BendsLeft V last i

-- the last of the vertices is at `last`, and if there are at least two they are a round: the list is split at `last`
abbrev pub IsSeparated : List Pair → ℕ → Type 0
IsSeparated V last = (0 < length V → last < length V) × (1 < length V → IsRound V last)
