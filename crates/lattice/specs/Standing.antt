-- When a bridge of two sets stays their bridge after a point is added to one of them or removed from one: the law of a
-- tree that keeps what a change cannot alter.
use Rattle.std.specs.Prelude.{◌≡◌, ◌⊎◌, pos}
use Rattle.lattice.specs.Plane.{Pair, orient}
use Rattle.lattice.specs.Bridges.{IsInner, IsNotBeyond}
use Rattle.lattice.specs.declared.side.Side.{Side}

-- a point of l, or p
abbrev pub WithPoint : Pair → (Pair → Type 0) → Pair → Type 0
WithPoint p l t = (t ≡ p) ⊎ l t

-- a point of l other than p
abbrev pub WithoutPoint : Pair → (Pair → Type 0) → Pair → Type 0
WithoutPoint p l t = ¬ (t ≡ p) × l t

-- p lies inwards of the line from u to v, or on that line and not outside the edge
abbrev pub IsInnerToEdge : Side → Pair → Pair → Pair → Type 0
IsInnerToEdge side u v p = IsInner side (orient u v p) × (orient u v p ≡ pos 0 → IsNotBeyond u v p)
