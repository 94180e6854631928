-- The sides of a path's line on which a set lies, by its farthest points on both sides.
use Rattle.std.proofs.lemmas.Grind.{common_steps}
use Rattle.std.proofs.Common.{◌≡◌, ℤ, pos, ◌+ℤ◌, ◌-ℤ◌, ◌*ℤ◌, ◌≤ℤ◌, ◌<ℤ◌, neg_ℤ, Bool, true, false, inl, inr, refl}
use Rattle.std.proofs.Common.{List, arith}
use Rattle.std.specs.Prelude.{◌↔◌, IsTrue, not}
use Rattle.std.specs.List.{Contains}
use Rattle.std.proofs.lemmas.Int.{ints}
use Rattle.std.proofs.lemmas.List.Elements.{All-contains}
use Rattle.lattice.specs.Places.{IsFarthest}
use Rattle.lattice.specs.Plane.{Pair, orient, product}
use Rattle.lattice.specs.Polynomials.{difference-eq, difference_rules}
use Rattle.lattice.specs.Signs.{le_or_lt}
use Rattle.lattice.proofs.Order.{same_pair}
use Rattle.lattice.proofs.Vectors.{as_pair}
use Rattle.hull_polygon.specs.Raycasts.{IsKept, IsUncrossed, moved}
use Rattle.hull_polygon.specs.Steps.{backward, step, turned_left}
use Rattle.lattice.proofs.Tests.{passed, failed}

-- ---- steps

-- a step to a point leads there
pub moved_step : (a b : Pair) → moved a (step a b) ≡ b
moved_step a b = same_pair _ b (back a.x b.x) (back a.y b.y)
  where
    back : (x y : ℤ) → x +ℤ (y -ℤ x) ≡ y
    back x y = omega (arith, ints)

-- the step to the point to which a vector leads is that vector
pub step_moved : (a w : Pair) → step a (moved a w) ≡ w
step_moved a w = same_pair _ w (back a.x w.x) (back a.y w.y)
  where
    back : (x y : ℤ) → (x +ℤ y) -ℤ x ≡ y
    back x y = omega (arith, ints)

-- how far a vector goes along itself is its squared length
pub length_of_step : (a w : Pair) → product w (moved a w) -ℤ product w a ≡ w.x *ℤ w.x +ℤ w.y *ℤ w.y
unfolding product
length_of_step a w = rw (as_pair a, as_pair w) (simp difference_rules (difference-eq _ _ _ _ (omega arith)))

-- ---- sides

-- how far a point lies along a vector's left is its side
pub side_of : (a w t : Pair) → product (turned_left w) t -ℤ product (turned_left w) a ≡ orient a (moved a w) t
unfolding orient product
side_of a w t = rw (as_pair a, as_pair w, as_pair t) (simp difference_rules (difference-eq _ _ _ _ (omega arith)))

-- how far it lies the other way is the opposite
other_side : (a w t : Pair)
    → product (backward (turned_left w)) t -ℤ product (backward (turned_left w)) a ≡ neg_ℤ (orient a (moved a w) t)
unfolding orient product
other_side a w t = rw (as_pair a, as_pair w, as_pair t) (simp difference_rules (difference-eq _ _ _ _ (omega arith)))

-- no point lies more to the left than the farthest one there
pub most_left : (S : List Pair) (a w c s : Pair) → IsFarthest S (turned_left w) c → Contains S s
    → orient a (moved a w) s ≤ℤ orient a (moved a w) c
most_left S a w c s f m = at_most _ _ _ _ _ (side_of a w s) (side_of a w c)
    (All-contains (λ t. product (turned_left w) t ≤ℤ product (turned_left w) c) S s f m)
  where
    at_most : (x y z u v : ℤ) → x -ℤ z ≡ u → y -ℤ z ≡ v → x ≤ℤ y → u ≤ℤ v
    at_most x y z u v e f h = omega (arith, ints)

-- no point lies more to the right than the farthest one there
pub most_right : (S : List Pair) (a w c s : Pair) → IsFarthest S (backward (turned_left w)) c → Contains S s
    → orient a (moved a w) c ≤ℤ orient a (moved a w) s
most_right S a w c s f m = at_most _ _ _ _ _ (other_side a w s) (other_side a w c)
    (All-contains (λ t. product (backward (turned_left w)) t ≤ℤ product (backward (turned_left w)) c) S s f m)
  where
    at_most : (x y z u v : ℤ) → x -ℤ z ≡ neg_ℤ u → y -ℤ z ≡ neg_ℤ v → x ≤ℤ y → v ≤ℤ u
    at_most x y z u v e f h = omega (arith, ints)

-- from a kept point to one that is not, the line is crossed
pub kept_over : (touching : Bool) (a b p q : Pair) → IsKept touching a b p → ¬ IsKept touching a b q
    → (pos 0 ≤ℤ orient a b p) × (orient a b q ≤ℤ pos 0) × (pos 0 <ℤ (orient a b p -ℤ orient a b q))
kept_over true a b p q h n = grind (arith, common_steps, le_or_lt, pos, orient, n, h, ints)
kept_over false a b p q h n = grind (arith, common_steps, le_or_lt, orient, pos, ints, n)

-- if the leftmost point is not kept, the line is not crossed
pub none_left : (S : List Pair) (a b l : Pair) → ((s : Pair) → Contains S s → orient a b s ≤ℤ orient a b l)
    → (x y : Bool) → (IsTrue x ↔ IsKept false a b l) → (IsTrue y ↔ IsKept (not x) a b l) → y ≡ false → IsUncrossed S a b
none_left S a b l m true y hx hy e = absurd (failed y _ e hy (passed true _ refl hx))
none_left S a b l m false y hx hy e = inr (inl (λ s n. less _ _ (failed y _ e hy) (m s n)))
  where
    less : (x y : ℤ) → ¬ (pos 0 ≤ℤ x) → y ≤ℤ x → y <ℤ pos 0
    less x y n k = elim (le_or_lt (pos 0) x) [ inl h ↦ absurd (n h) | inr h ↦ omega (arith, ints) ]

-- if the rightmost point is kept, the line is not crossed
pub none_right : (S : List Pair) (a b l r : Pair) → ((s : Pair) → Contains S s → orient a b s ≤ℤ orient a b l)
    → ((s : Pair) → Contains S s → orient a b r ≤ℤ orient a b s) → (x z : Bool) → (IsTrue x ↔ IsKept false a b l)
    → (IsTrue z ↔ IsKept (not x) a b r) → z ≡ true → IsUncrossed S a b
none_right S a b l r ml mr true z hx hz e = inl (λ s m. less _ _ (passed z _ e hz) (mr s m))
  where
    less : (x y : ℤ) → pos 0 <ℤ x → x ≤ℤ y → pos 0 <ℤ y
    less x y h k = omega (arith, ints)
none_right S a b l r ml mr false z hx hz e =
    inr (inr (λ s m. level _ _ _ (failed false _ refl hx) (ml s m) (passed z _ e hz) (mr s m)))
  where
    level : (x y z : ℤ) → ¬ (pos 0 <ℤ x) → y ≤ℤ x → pos 0 ≤ℤ z → z ≤ℤ y → y ≡ pos 0
    level x y z n h k l = elim (le_or_lt x (pos 0)) [ inl m ↦ omega (arith, ints) | inr m ↦ absurd (n m) ]
