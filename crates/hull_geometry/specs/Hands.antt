-- The points on the left hand and on the right hand, as seen from a point q.
use Rattle.std.specs.Prelude.{◌≡◌, ◌⊎◌, ℤ, pos, ◌<ℤ◌}
use Rattle.lattice.specs.Plane.{Pair, orient, distance_squared, IsBefore}
use Rattle.lattice.specs.declared.side.Side.{Side}
use Rattle.lattice.specs.declared.side.Side.TheVariants.{Lower, Upper}
use Rattle.hull_geometry.specs.declared.hand.Hand.{Hand}
use Rattle.hull_geometry.specs.declared.hand.Hand.TheVariants.{Left, Right}

-- the other hand
abbrev pub other_hand : Hand → Hand
other_hand Left = Right
other_hand Right = Left

-- the tangent that touches a chain at a point before q is the left one on the lower side
abbrev pub hand_behind : Side → Hand
hand_behind Lower = Left
hand_behind Upper = Right

-- above 0 if s is seen farther on this hand than t
abbrev pub orient_by : Hand → Pair → Pair → Pair → ℤ
orient_by Left q s t = orient q t s
orient_by Right q s t = orient q s t

-- seen from q, s is farther on this hand than t, or in line with it and farther off
abbrev pub IsMore : Hand → Pair → Pair → Pair → Type 0
IsMore hand q s t =
    (pos 0 <ℤ orient_by hand q s t) ⊎ ((orient_by hand q s t ≡ pos 0) × (distance_squared q t <ℤ distance_squared q s))

-- s is before t on the left hand, and after it on the right
abbrev pub IsOnHand : Hand → Pair → Pair → Type 0
IsOnHand Left s t = IsBefore s t
IsOnHand Right s t = IsBefore t s

-- the end of an edge on this hand
abbrev pub end_on : Hand → Pair × Pair → Pair
end_on Left e = e.0
end_on Right e = e.1
