-- Laws that show that the definitions mean what they should. Each is the contract of a public function with an empty
-- body.
use Rattle.std.specs.Prelude.{◌≡◌, ◌↔◌, pos, ◌+ℤ◌, ◌*ℤ◌, ◌<ℤ◌}
use Rattle.lattice.specs.Plane.{Pair, orient, IsBefore}
use Rattle.lattice.specs.Bridges.{IsAllBefore, IsBridge}
use Rattle.lattice.specs.Standing.{WithPoint, WithoutPoint, IsInnerToEdge}
use Rattle.lattice.specs.declared.side.Side.{Side}
use Rattle.lattice.specs.Crossing.{s1, s2}

-- two sets l and r, all of l before all of r, have at most one bridge on either side
abbrev pub BridgeIsUnique : Side → (Pair → Type 0) → (Pair → Type 0) → Type 0
BridgeIsUnique side l r =
    (p q a b : Pair) → IsAllBefore l r → IsBridge side l r p q → IsBridge side l r a b → (p ≡ a) × (q ≡ b)

-- if a, b, c, d are in this order and bend right at b and at c, the weights of their crossing have a positive sum, and
-- the point between c and d that has these weights is on neither side of the line ab, so it lies on both lines
abbrev pub CrossingIsOnBothLines : Type 0
CrossingIsOnBothLines =
    (a b c d : Pair) → IsBefore a b → IsBefore b c → IsBefore c d → orient a b c <ℤ pos 0 → orient b c d <ℤ pos 0
    → (pos 0 <ℤ (s1 a b c d +ℤ s2 a b c d)) × (s1 a b c d *ℤ orient a b d +ℤ s2 a b c d *ℤ orient a b c ≡ pos 0)

-- when a point p is added to l or to r, their bridge stays if and only if p lies on its inner side
abbrev pub BridgeStandsAsPointComes : Side → (Pair → Type 0) → (Pair → Type 0) → Type 0
BridgeStandsAsPointComes side l r =
    (u v p : Pair) → IsBridge side l r u v
    → (IsBridge side (WithPoint p l) r u v ↔ IsInnerToEdge side u v p)
    × (IsBridge side l (WithPoint p r) u v ↔ IsInnerToEdge side u v p)

-- when p is removed from l or from r, their bridge stays if and only if p is not its end there
abbrev pub BridgeStandsAsPointGoes : Side → (Pair → Type 0) → (Pair → Type 0) → Type 0
BridgeStandsAsPointGoes side l r =
    (u v p : Pair) → IsBridge side l r u v
    → (IsBridge side (WithoutPoint p l) r u v ↔ ¬ (u ≡ p)) × (IsBridge side l (WithoutPoint p r) u v ↔ ¬ (v ≡ p))
