-- The value that contracts see of a set of points with a limit on their number.
use Rattle.std.specs.Prelude.{ℕ, if◌then◌else◌, List, [], ◌∷◌}
use Rattle.std.specs.Map.{keys_of}
use Rattle.lattice.specs.Plane.{Pair}
use Rattle.lattice.specs.Covers.{IsPointSet}
use Rattle.hull_set.specs.Held.{Held}
use Rattle.hull_set.specs.PointLists.{is_same_pair}
use Rattle.hull_set.specs.declared.set.HullSet.{Ghosts}

-- the greatest number of points, and the points in the order "before", each with its multiplicity
pub record LimitedSet : Type 0 where
  pub limit : ℕ
  pub entries : List (Pair × ℕ)

-- the multiplicity of a point: the number of its entry, and 0 if it has none
abbrev pub multiplicity_in : List (Pair × ℕ) → Pair → ℕ
multiplicity_in [] q = 0
multiplicity_in (e ∷ es) q = if is_same_pair e.0 q then e.1 else multiplicity_in es q

-- the contents of these entries
abbrev pub held_in : List (Pair × ℕ) → Held
held_in entries = record { points = keys_of entries; multiplicities = multiplicity_in entries }

-- the trait `HullSet` for a plain set: its contents, its bound, and that its points are in order
abbrev pub plain_set : Ghosts LimitedSet
plain_set = record { held = λ s. held_in s.entries; bound = λ s. s.limit; sound = λ s. IsPointSet (keys_of s.entries) }
