-- The square of a distance as a quotient: its size, and the comparison of two.
use Rattle.std.proofs.Common.{◌≡◌, ℕ, ◌*◌, ◌≤◌, ℤ, pos, ◌+ℤ◌, ◌-ℤ◌, ◌*ℤ◌, ◌≤ℤ◌, sym, subst, arith}
use Rattle.std.proofs.lemmas.Int.{ints}
use Rattle.std.proofs.lemmas.Nat.{mul-le}
use Rattle.lattice.specs.Plane.{Pair, orient, distance_squared}
use Rattle.hull_polygon.proofs.Cones.{square_nn}
use Rattle.hull_polygon.proofs.Distances.{lagrange}

-- a squared side is at most the product of both squared lengths
side_at_most : (a b t : Pair) → (orient a b t *ℤ orient a b t) ≤ℤ (distance_squared a b *ℤ distance_squared a t)
unfolding orient distance_squared
side_at_most a b t =
    at_most _ _ _ (lagrange (b.x -ℤ a.x) (b.y -ℤ a.y) (t.x -ℤ a.x) (t.y -ℤ a.y))
    (square_nn ((b.x -ℤ a.x) *ℤ (t.x -ℤ a.x) +ℤ (b.y -ℤ a.y) *ℤ (t.y -ℤ a.y)))
  where
    at_most : (x s w : ℤ) → x ≡ s +ℤ w → pos 0 ≤ℤ w → s ≤ℤ x
    at_most x s w e h = omega (arith, ints)

-- so its square is no larger than that of the edge times the longest distance
pub quotient_small : (a b t : Pair) (side edge reach most : ℕ) → pos side *ℤ pos side ≡ orient a b t *ℤ orient a b t
    → pos edge ≡ distance_squared a b → pos reach ≡ distance_squared a t → reach ≤ most → side * side ≤ edge * most
quotient_small a b t side edge reach most e f g l =
    small side edge reach most _ _ _ e f g (side_at_most a b t) (mul-le edge reach edge most (omega arith) l)
  where
    below : (s e r m : ℕ) → (pos s *ℤ pos s) ≤ℤ (pos e *ℤ pos r) → e * r ≤ e * m → s * s ≤ e * m
    below s e r m h l = omega (arith, ints)

    small : (s e r m : ℕ) (o d k : ℤ) → pos s *ℤ pos s ≡ o → pos e ≡ d → pos r ≡ k → o ≤ℤ (d *ℤ k) → e * r ≤ e * m
        → s * s ≤ e * m
    small s e r m o d k eo ed ek h l = below s e r m
        (subst (λ (z : ℤ). z ≤ℤ (pos e *ℤ pos r)) (sym eo)
        (subst (λ (z : ℤ). o ≤ℤ (z *ℤ pos r)) (sym ed) (subst (λ (z : ℤ). o ≤ℤ (d *ℤ z)) (sym ek) h))) l

-- ---- two squares
