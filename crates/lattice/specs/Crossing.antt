-- The crossing of two lines, compared with a point without a division.
use Rattle.std.specs.Prelude.{◌≡◌, ◌⊎◌, ℤ, ◌+ℤ◌, ◌*ℤ◌, ◌<ℤ◌, ◌≤ℤ◌}
use Rattle.lattice.specs.Plane.{Pair, orient}

-- (x, y) is before (u, v) or is equal to it: by the first number, and by the second if the first is the same
abbrev pub IsAtOrBefore : ℤ → ℤ → ℤ → ℤ → Type 0
IsAtOrBefore x y u v = (x <ℤ u) ⊎ ((x ≡ u) × (y ≤ℤ v))

-- the point (u*d + v*c) / (u + v) is before m or is m, after multiplying by u + v
abbrev pub IsWeightedAtOrBefore : ℤ → ℤ → Pair → Pair → Pair → Type 0
IsWeightedAtOrBefore u v c d m =
    IsAtOrBefore (u *ℤ d.x +ℤ v *ℤ c.x) (u *ℤ d.y +ℤ v *ℤ c.y) ((u +ℤ v) *ℤ m.x) ((u +ℤ v) *ℤ m.y)

-- the same point is after m
abbrev pub IsWeightedAfter : ℤ → ℤ → Pair → Pair → Pair → Type 0
IsWeightedAfter u v c d m =
    (((u +ℤ v) *ℤ m.x) <ℤ (u *ℤ d.x +ℤ v *ℤ c.x))
    ⊎ ((u *ℤ d.x +ℤ v *ℤ c.x ≡ (u +ℤ v) *ℤ m.x) × (((u +ℤ v) *ℤ m.y) <ℤ (u *ℤ d.y +ℤ v *ℤ c.y)))

-- the side of c as seen from the line ab: the weight of d in the crossing of ab and cd
abbrev pub s1 : Pair → Pair → Pair → Pair → ℤ
s1 a b c d = orient a b c

-- the side of d as seen from the line ba: the weight of c in the crossing of ab and cd
abbrev pub s2 : Pair → Pair → Pair → Pair → ℤ
s2 a b c d = orient b a d

-- the crossing of the lines ab and cd is before m or is m
abbrev pub IsCrossingAtOrBefore : Pair → Pair → Pair → Pair → Pair → Type 0
IsCrossingAtOrBefore a b c d m = IsWeightedAtOrBefore (s1 a b c d) (s2 a b c d) c d m

-- the crossing of the lines ab and cd is after m
abbrev pub IsCrossingAfter : Pair → Pair → Pair → Pair → Pair → Type 0
IsCrossingAfter a b c d m = IsWeightedAfter (s1 a b c d) (s2 a b c d) c d m
