-- The contents of a set of points: its different points, and the multiplicity of each.
use Rattle.std.specs.Prelude.{ℕ, ◌+◌, ◌-◌, if◌then◌else◌, List, []}
use Rattle.std.specs.List.{sum_by}
use Rattle.lattice.specs.Plane.{Pair}
use Rattle.lattice.specs.Covers.{with_point, without_point}
use Rattle.hull_set.specs.PointLists.{is_same_pair}

-- the set's points in the order "before", and the multiplicity of each point, which is 0 if the point is not in the set
pub record Held : Type 0 where
  pub points : List Pair
  pub multiplicities : Pair → ℕ

-- the contents of the empty set
abbrev pub nothing_held : Held
nothing_held = record { points = []; multiplicities = λ q. 0 }

-- 1 if the two points are equal, and else 0
abbrev pub once : Pair → Pair → ℕ
once p q = if is_same_pair p q then 1 else 0

-- how often a point is in a list
abbrev pub multiplicity_among : List Pair → Pair → ℕ
multiplicity_among points q = sum_by (λ p. once p q) points

-- the multiplicities with that of p raised by one
abbrev pub raised : Pair → (Pair → ℕ) → Pair → ℕ
raised p multiplicity q = multiplicity q + once p q

-- the multiplicities with that of p lowered by one
abbrev pub lowered : Pair → (Pair → ℕ) → Pair → ℕ
lowered p multiplicity q = multiplicity q - once p q

-- p is added as a new point
abbrev pub with_new : Pair → Held → Held
with_new p held = record { points = with_point p held.points; multiplicities = raised p held.multiplicities }

-- p, which is in the set, is added once more
abbrev pub with_again : Pair → Held → Held
with_again p held = record { points = held.points; multiplicities = raised p held.multiplicities }

-- p, which stays in the set, is removed once
abbrev pub with_one_less : Pair → Held → Held
with_one_less p held = record { points = held.points; multiplicities = lowered p held.multiplicities }

-- p leaves the set
abbrev pub with_none : Pair → Held → Held
with_none p held = record { points = without_point p held.points; multiplicities = lowered p held.multiplicities }
