-- The halves and the ends of a half on the left and on the right hand.
use Rattle.std.specs.Prelude.{pos, ◌<ℤ◌}
use Rattle.lattice.specs.Plane.{Pair, orient}
use Rattle.bridge_search.specs.Trees.{Tree, left_of, right_of, first_of, last_of}
use Rattle.hull_geometry.specs.Hands.{other_hand, IsOnHand, end_on}
use Rattle.hull_geometry.specs.declared.hand.Hand.{Hand}
use Rattle.hull_geometry.specs.declared.hand.Hand.TheVariants.{Left, Right}

-- the half on this hand
abbrev pub half_on : Hand → Tree → Tree
half_on Left t = left_of t
half_on Right t = right_of t

-- the first point on the left hand, the last one on the right
abbrev pub outermost : Hand → Tree → Pair
outermost hand t = end_on hand (first_of t, last_of t)

-- q is beyond the end of a lower bridge on the other hand, and over the bridge's line
abbrev pub IsBeyond : Hand → Pair × Pair → Pair → Type 0
IsBeyond hand e q = IsOnHand hand (end_on (other_hand hand) e) q × (pos 0 <ℤ orient e.0 e.1 q)
