-- The bridges of two sets of points, all of the one before all of the other (Overmars and van Leeuwen, 1981).
-- A set is given by what it means to be one of its points.
use Rattle.std.specs.Prelude.{◌≡◌, ℤ, pos, ◌≤ℤ◌}
use Rattle.lattice.specs.Plane.{Pair, orient, IsBefore}
use Rattle.lattice.specs.declared.side.Side.{Side}
use Rattle.lattice.specs.declared.side.Side.TheVariants.{Lower, Upper}

-- each point of l is before each point of r
abbrev pub IsAllBefore : (Pair → Type 0) → (Pair → Type 0) → Type 0
IsAllBefore l r = (p q : Pair) → l p → r q → IsBefore p q

-- t is not beyond the ends of the edge from p to q: it is neither before p nor after q
abbrev pub IsNotBeyond : Pair → Pair → Pair → Type 0
IsNotBeyond p q t = ¬ IsBefore t p × ¬ IsBefore q t

-- a point with this side of a line that goes forward is not outwards of it: on the upper side of a hull it does not lie
-- left of the line, on the lower side not right of it
abbrev pub IsInner : Side → ℤ → Type 0
IsInner Upper z = z ≤ℤ pos 0
IsInner Lower z = pos 0 ≤ℤ z

-- p in l and q in r: no point lies outwards of the line from p to q, and those on that line lie between p and q
pub record IsBridge (side : Side) (l r : Pair → Type 0) (p q : Pair) : Type 0 where
  pub from_left : l p
  pub to_right : r q
  pub inner_left : (t : Pair) → l t → IsInner side (orient p q t)
  pub inner_right : (t : Pair) → r t → IsInner side (orient p q t)
  pub tie_left : (t : Pair) → l t → orient p q t ≡ pos 0 → IsNotBeyond p q t
  pub tie_right : (t : Pair) → r t → orient p q t ≡ pos 0 → IsNotBeyond p q t

-- the bridge over both sets: none of their points lies left of it
abbrev pub IsUpperBridge : (Pair → Type 0) → (Pair → Type 0) → Pair → Pair → Type 0
IsUpperBridge = IsBridge Upper

-- the bridge under them: none of their points lies right of it
abbrev pub IsLowerBridge : (Pair → Type 0) → (Pair → Type 0) → Pair → Pair → Type 0
IsLowerBridge = IsBridge Lower
