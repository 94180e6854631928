-- The order along the chain on a side, which goes back on the upper one.
use Rattle.std.proofs.Common.{◌≡◌, ◌≢◌, ◌⊎◌, inl, inr, sym}
use Rattle.lattice.specs.Plane.{Pair}
use Rattle.lattice.specs.declared.side.Side.{Side}
use Rattle.lattice.specs.declared.side.Side.TheVariants.{Lower, Upper}
use Rattle.lattice.proofs.Order.{before_total, before_trans, before_not, before_apart, after_apart}
use Rattle.hull_geometry.specs.Edges.{IsAlong}

-- of two points one comes before the other, or they are equal
pub along_total : (side : Side) (u v : Pair) → IsAlong side u v ⊎ ((u ≡ v) ⊎ IsAlong side v u)
along_total Lower u v = before_total u v
along_total Upper u v = elim (before_total v u) [ inl b ↦ inl b | inr (inl e) ↦ inr (inl (sym e)) | inr (inr b) ↦ inr (inr b) ]

-- the order along a chain is transitive
pub along_trans : (side : Side) (u v w : Pair) → IsAlong side u v → IsAlong side v w → IsAlong side u w
along_trans Lower u v w h k = before_trans u v w h k
along_trans Upper u v w h k = before_trans w v u k h

-- two points are not each before the other along a chain
pub along_not : (side : Side) (u v : Pair) → IsAlong side u v → ¬ (IsAlong side v u)
along_not Lower u v h = before_not u v h
along_not Upper u v h = before_not v u h

-- a point that comes later is another point
pub along_apart : (side : Side) (u v : Pair) → IsAlong side u v → u ≢ v
along_apart Lower u v h = before_apart u v h
along_apart Upper u v h = after_apart u v h

-- a point is equal to one that comes neither before it nor after it
pub along_equal : (side : Side) (u v : Pair) → ¬ (IsAlong side u v) → ¬ (IsAlong side v u) → u ≡ v
along_equal side u v h k = elim (along_total side u v) [ inl b ↦ absurd (h b) | inr (inl e) ↦ e | inr (inr b) ↦ absurd (k b) ]
