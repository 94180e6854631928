-- Translations and rotations of the plane.
use Rattle.std.specs.Prelude.{ℕ, ◌<◌, ℤ, ◌+ℤ◌, ◌-ℤ◌, ◌*ℤ◌, List, length}
use Rattle.std.specs.List.{All}
use Rattle.lattice.specs.Plane.{Pair, IsBefore, IsInRange}
use Rattle.hull_geometry.specs.Positions.{point_at}
use Rattle.motions.specs.declared.motion.Motion.{Motion}
use Rattle.motions.specs.declared.motion.Motion.TheVariants.{Translation, Rotation}

-- p moved by a vector
abbrev pub translated : ℤ → ℤ → Pair → Pair
translated dx dy p = record { x = p.x +ℤ dx; y = p.y +ℤ dy }

-- p rotated about the origin by the angle of d, and scaled by its length: the product of the two as complex numbers
abbrev pub rotated : Pair → Pair → Pair
rotated d p = record { x = d.x *ℤ p.x -ℤ d.y *ℤ p.y; y = d.y *ℤ p.x +ℤ d.x *ℤ p.y }

-- p after a motion
abbrev pub moved : Motion → Pair → Pair
moved (Translation dx dy) p = translated dx dy p
moved (Rotation d) p = rotated d p

-- each point is in range after the motion
abbrev pub AllMoveInRange : Motion → List Pair → Type 0
AllMoveInRange motion points = All (λ p. IsInRange (moved motion p)) points

-- k is the index of a point, if there is one, and no other is before that one after the motion
abbrev pub IsFirstMoved : Motion → List Pair → ℕ → Type 0
IsFirstMoved motion points k =
    (i : ℕ) → i < length points → (k < length points) × ¬ IsBefore (moved motion (point_at points i)) (moved motion (point_at points k))
