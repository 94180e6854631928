-- An end of an edge does not lie inwards of a segment between two points that are inner to the edge.
use Rattle.std.proofs.Common.{◌≡◌, ℤ, pos, ◌≤ℤ◌, ◌<ℤ◌, inl, inr, arith}
use Rattle.lattice.specs.Bridges.{IsInner}
use Rattle.lattice.specs.Orientations.{orient_on}
use Rattle.lattice.specs.Plane.{Pair, IsBefore, orient}
use Rattle.lattice.specs.Signs.{le_or_lt}
use Rattle.lattice.specs.Standing.{IsInnerToEdge}
use Rattle.lattice.specs.declared.side.Side.{Side}
use Rattle.lattice.specs.declared.side.Side.TheVariants.{Lower, Upper}
use Rattle.lattice.proofs.LineCrossings.{orient_other}
use Rattle.lattice.proofs.Numbers.{nn_opposite, nn_not_below, np_by, zero_between}
use Rattle.hull_geometry.specs.Monotone.{IsInwards}
use Rattle.hull_geometry.proofs.Orientations.{stays_first, stays_second, orient_on_start, orient_on_end}
use Rattle.hull_geometry.proofs.Touching.{straight}

-- a point inner to a line is not outwards of it
pub to_orient_on : (side : Side) (u v t : Pair) → IsInner side (orient u v t) → pos 0 ≤ℤ orient_on side u v t
to_orient_on Lower u v t h = h
to_orient_on Upper u v t h = nn_opposite _ _ (orient_other u v t) h

-- a number that is 0 is at most 0
at_most : (x : ℤ) → x ≡ pos 0 → x ≤ℤ pos 0
at_most x e = np_by x (pos 0) e (omega arith)

-- a point that is inner to an edge and before its start lies strictly inwards of its line
strictly_before : (side : Side) (u v a : Pair) → IsBefore a u → IsInnerToEdge side u v a → pos 0 <ℤ orient_on side u v a
strictly_before side u v a au h = elim (le_or_lt (orient_on side u v a) (pos 0)) [
  | inl k ↦ absurd ((h.1 (straight side u v a (zero_between _ (to_orient_on side u v a h.0) k))).0 au)
  | inr k ↦ k
]

-- a point that is inner to an edge and after its end lies strictly inwards of its line
strictly_after : (side : Side) (u v b : Pair) → IsBefore v b → IsInnerToEdge side u v b → pos 0 <ℤ orient_on side u v b
strictly_after side u v b vb h = elim (le_or_lt (orient_on side u v b) (pos 0)) [
  | inl k ↦ absurd ((h.1 (straight side u v b (zero_between _ (to_orient_on side u v b h.0) k))).1 vb)
  | inr k ↦ k
]

-- the start of an edge does not lie inwards of a segment between two points that are inner to it
pub start_not_inwards : (side : Side) (u v a b : Pair) → IsBefore u v → IsInwards side a b u → IsInnerToEdge side u v a
    → IsInnerToEdge side u v b → ⊥
start_not_inwards side u v a b uv k ha hb = nn_not_below _ k.2
    (stays_first side u v a u b uv k.0 k.1 (at_most _ (orient_on_start side u v)) (strictly_before side u v a k.0 ha)
    (to_orient_on side u v b hb.0))

-- nor does its end
pub end_not_inwards : (side : Side) (u v a b : Pair) → IsBefore u v → IsInwards side a b v → IsInnerToEdge side u v a
    → IsInnerToEdge side u v b → ⊥
end_not_inwards side u v a b uv k ha hb = nn_not_below _ k.2
    (stays_second side u v a v b uv k.0 k.1 (at_most _ (orient_on_end side u v)) (to_orient_on side u v a ha.0)
    (strictly_after side u v b k.1 hb))
