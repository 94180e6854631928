-- Whether the distance of two hulls is at most a length.
use Rattle.std.specs.Prelude.{◌≡◌, ◌⊎◌, pos, ◌*ℤ◌, ◌≤ℤ◌, Bool, true, false, List, []}
use Rattle.lattice.specs.Plane.{Pair}
use Rattle.hull_polygon.specs.Closest.{IsDistance, dividend, divisor}
use Rattle.hull_polygon.specs.declared.distance.Distance.{Distance}
use Rattle.hull_polygon.specs.declared.ranges.Length.{Length}

-- the squared distance is no more than the square of the length
abbrev pub IsNoFarther : Distance → Length → Type 0
IsNoFarther found r =
    (dividend found *ℤ (pos r.denominator *ℤ pos r.denominator))
    ≤ℤ ((pos r.numerator *ℤ pos r.numerator) *ℤ divisor found)

-- the distance of S and T is at most that length; or it is more, or one of them is empty
abbrev pub ReturnsWithin : Bool → Length → List Pair → List Pair → Type 0
ReturnsWithin true r S T = (found : Distance) × IsDistance S T found × IsNoFarther found r
ReturnsWithin false r S T = (S ≡ []) ⊎ (T ≡ []) ⊎ ((found : Distance) × IsDistance S T found × ¬ IsNoFarther found r)
