-- the two coordinates are those of the moved point
use Rattle.std.proofs.Common.{◌≡◌, ℤ, Option, MatchOption, sym, subst, rules}
use Rattle.lattice.specs.Plane.{Pair, IsInRange}
use Rattle.lattice.proofs.Order.{couple, same_pair}
use Rattle.motions.specs.Motions.{moved, translated, rotated}
use Rattle.motions.specs.declared.motion.Motion.{Motion}
use Rattle.motions.proofs.motion.Motion.apply.Goals as goal

-- r is this point, or there is none since it is out of range
abbrev IsReturned : Option Pair → Pair → Type 0
IsReturned r q = MatchOption r (¬ IsInRange q) (λ p. (p ≡ q) × IsInRange q)

-- a point with the coordinates of another is that point
returned : (r : Option Pair) (x y : ℤ) (q : Pair) → x ≡ q.x → y ≡ q.y → IsReturned r (couple x y) → IsReturned r q
returned r x y q e f h = subst (IsReturned r) (same_pair (couple x y) q e f) h

pub returns-in-Translation : goal.returns-in-Translation
returns-in-Translation c =
    subst (λ (m : Motion). IsReturned c.point_of.result (moved m c.args.p)) (sym c.in-Translation.is)
    (returned c.point_of.result _ _ (translated c.in-Translation.dx c.in-Translation.dy c.args.p) (search rules) (search rules) c.point_of.ensures)

pub returns-in-Rotation : goal.returns-in-Rotation
returns-in-Rotation c =
    subst (λ (m : Motion). IsReturned c.point_of-in-Rotation.result (moved m c.args.p)) (sym c.in-Rotation.is)
    (returned c.point_of-in-Rotation.result _ _ (rotated c.in-Rotation.d c.args.p) (search rules) (search rules) c.point_of-in-Rotation.ensures)
