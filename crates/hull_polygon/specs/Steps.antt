-- Steps from one point to another, as directions.
use Rattle.std.specs.Prelude.{◌-ℤ◌, neg_ℤ}
use Rattle.lattice.specs.Plane.{Pair}

-- the step from a to b
abbrev pub step : Pair → Pair → Pair
step a b = record { x = b.x -ℤ a.x; y = b.y -ℤ a.y }

-- the step from a to b, rotated to the left by 90 degrees
abbrev pub left_of : Pair → Pair → Pair
left_of a b = record { x = a.y -ℤ b.y; y = b.x -ℤ a.x }

-- a direction rotated to the left by 90 degrees
abbrev pub turned_left : Pair → Pair
turned_left d = record { x = neg_ℤ d.y; y = d.x }

-- the opposite direction
abbrev pub backward : Pair → Pair
backward d = record { x = neg_ℤ d.x; y = neg_ℤ d.y }
