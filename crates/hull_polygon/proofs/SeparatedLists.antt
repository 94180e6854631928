-- Sets that intersect are not disjoint: if two segments cross, no direction separates their ends.
use Rattle.std.proofs.lemmas.Grind.{common_steps}
use Rattle.std.proofs.Common.{◌≡◌, ℤ, pos, negsuc, ◌+ℤ◌, ◌-ℤ◌, ◌*ℤ◌, ◌≤ℤ◌, ◌<ℤ◌, inl, inr, arith}
use Rattle.std.proofs.lemmas.Int.{ints}
use Rattle.lattice.specs.Plane.{Pair, orient, product}
use Rattle.lattice.specs.Polynomials.{difference-eq, as_difference, difference_rules}
use Rattle.lattice.specs.Signs.{le_or_lt, product_pp, product_np, product_pn}
use lib.IntN.{*ℤ_comm}
use Rattle.lattice.proofs.Vectors.{as_pair, opp}
use Rattle.hull_geometry.proofs.NotCovered.{not_covered}
use Rattle.hull_polygon.specs.Meetings.{IsCrossing, Reaches, IsReached, Crosses, NeverBoth}
use Rattle.hull_geometry.proofs.PointLists.{all_of}
use Rattle.lattice.proofs.Numbers.{gap_above, gap_np, le_itself, le_less}
use Rattle.hull_geometry.proofs.EdgeSteps.{product_same}
use Rattle.hull_geometry.proofs.Slopes.{product-opp}

-- ---- the crossing of two lines, by its weights

-- the sides of the ends of two segments are the weights of their crossing, by x
pub weights_x : (a b c e : Pair)
    → orient c e a *ℤ b.x -ℤ orient c e b *ℤ a.x ≡ orient a b e *ℤ c.x -ℤ orient a b c *ℤ e.x
unfolding orient
weights_x a b c e =
    rw (as_pair a, as_pair b, as_pair c, as_pair e) (simp difference_rules (difference-eq _ _ _ _ (omega arith)))

-- the same by y
pub weights_y : (a b c e : Pair)
    → orient c e a *ℤ b.y -ℤ orient c e b *ℤ a.y ≡ orient a b e *ℤ c.y -ℤ orient a b c *ℤ e.y
unfolding orient
weights_y a b c e =
    rw (as_pair a, as_pair b, as_pair c, as_pair e) (simp difference_rules (difference-eq _ _ _ _ (omega arith)))

-- both weights have the same sum
pub weights_sum : (a b c e : Pair) → orient c e a -ℤ orient c e b ≡ orient a b e -ℤ orient a b c
unfolding orient
weights_sum a b c e =
    rw (as_pair a, as_pair b, as_pair c, as_pair e) (simp difference_rules (difference-eq _ _ _ _ (omega arith)))

-- weighted sums of two coordinates, taken together
together : (p q u v w z x y : ℤ)
    → p *ℤ (u *ℤ x +ℤ v *ℤ y) -ℤ q *ℤ (u *ℤ w +ℤ v *ℤ z) ≡ u *ℤ (p *ℤ x -ℤ q *ℤ w) +ℤ v *ℤ (p *ℤ y -ℤ q *ℤ z)
together p q u v w z x y =
    rw (
      as_difference p,
      as_difference q,
      as_difference u,
      as_difference v,
      as_difference w,
      as_difference z,
      as_difference x,
      as_difference y,
    ) (simp difference_rules (difference-eq _ _ _ _ (omega arith)))

-- the weights of how far the points lie in a direction
pub weights : (d a b c e : Pair)
    → orient c e a *ℤ product d b -ℤ orient c e b *ℤ product d a
    ≡ orient a b e *ℤ product d c -ℤ orient a b c *ℤ product d e
unfolding product
weights d a b c e = grind (arith, common_steps, together, orient, c, e, weights_x, weights_y)

-- a weighted difference as seen from m
seen_from : (p q x w m : ℤ) → p *ℤ (x -ℤ m) -ℤ q *ℤ (w -ℤ m) ≡ (p *ℤ x -ℤ q *ℤ w) -ℤ (p -ℤ q) *ℤ m
seen_from p q x w m =
    rw (as_difference p, as_difference q, as_difference x, as_difference w, as_difference m)
    (simp difference_rules (difference-eq _ _ _ _ (omega arith)))

-- a balance of weighted differences holds from any number m
shifted : (p q r s w x y z m : ℤ) → p *ℤ x -ℤ q *ℤ w ≡ r *ℤ y -ℤ s *ℤ z → p -ℤ q ≡ r -ℤ s
    → p *ℤ (x -ℤ m) -ℤ q *ℤ (w -ℤ m) ≡ r *ℤ (y -ℤ m) -ℤ s *ℤ (z -ℤ m)
shifted p q r s w x y z m e f = grind (arith, common_steps, seen_from, e, f)

-- how far the points of two lines lie in a direction, as seen from m
pub weights_from : (d a b c e : Pair) (m : ℤ)
    → orient c e a *ℤ (product d b -ℤ m) -ℤ orient c e b *ℤ (product d a -ℤ m)
    ≡ orient a b e *ℤ (product d c -ℤ m) -ℤ orient a b c *ℤ (product d e -ℤ m)
weights_from d a b c e m =
    shifted (orient c e a) (orient c e b) (orient a b e) (orient a b c) (product d a) (product d b) (product d c)
    (product d e) m (weights d a b c e) (weights_sum a b c e)

-- ---- signs

-- a product of two negative numbers is positive
pub product_mm : (a b : ℤ) → a <ℤ pos 0 → b <ℤ pos 0 → pos 0 <ℤ (a *ℤ b)
product_mm (negsuc m) (negsuc n) h k = omega (arith, ints)
product_mm (negsuc m) (pos n) h k = absurd (omega (arith, ints))
product_mm (pos m) b h k = absurd (omega (arith, ints))

-- a weighted sum, by a weight not below 0 and one not above 0 that is subtracted, of two numbers below 0 is below 0
pub below_both : (r s x y : ℤ) → pos 0 ≤ℤ r → s ≤ℤ pos 0 → s <ℤ r → x <ℤ pos 0 → y <ℤ pos 0
    → (r *ℤ x -ℤ s *ℤ y) <ℤ pos 0
below_both r s x y hr hs h hx hy = elim (le_or_lt r (pos 0)) [
  | inr l ↦ let p = product_pn r x l hx in let n = product_same s y hs (omega (arith, ints)) in omega (arith, ints)
  | inl z ↦ let e : r ≡ pos 0 = omega (arith, ints) in let n = product_mm s y (omega (arith, ints)) hy in
      rw e (omega (arith, ints))
]

-- a product of a number that is not negative and one that is not positive is not positive
pub product_ns : (a b : ℤ) → pos 0 ≤ℤ a → b ≤ℤ pos 0 → (a *ℤ b) ≤ℤ pos 0
product_ns a b h k = let c = *ℤ_comm a b in let p = product_np b a k h in omega (arith, ints)

-- a product of a negative number and a positive one is negative
pub product_mp : (a b : ℤ) → a <ℤ pos 0 → pos 0 <ℤ b → (a *ℤ b) <ℤ pos 0
product_mp a b h k = let c = *ℤ_comm a b in let p = product_pn b a k h in omega (arith, ints)

-- ---- sets that intersect are not disjoint

-- two weights of numbers above 0 and two of numbers not above it do not balance
unbalanced : (p q r s w x y z : ℤ) → pos 0 <ℤ p → q <ℤ pos 0 → pos 0 <ℤ r → s <ℤ pos 0 → w ≤ℤ pos 0 → x ≤ℤ pos 0
    → pos 0 <ℤ y → pos 0 <ℤ z → p *ℤ x -ℤ q *ℤ w ≡ r *ℤ y -ℤ s *ℤ z → ⊥
unbalanced p q r s w x y z hp hq hr hs hw hx hy hz e =
    let a = product_ns p x (omega (arith, ints)) hx in
    let b = product_same q w (omega (arith, ints)) hw in
    let c = product_pp r y hr hy in
    let d = product_mp s z hs hz in omega (arith, ints)

-- if both ends of a segment lie farther than m, and those of another do not, they do not cross
uncrossed : (d a b c e : Pair) (m : ℤ) → IsCrossing a b c e → product d a ≤ℤ m → product d b ≤ℤ m → m <ℤ product d c
    → m <ℤ product d e → ⊥
uncrossed d a b c e m x ha hb hc he =
    unbalanced (orient c e a) (orient c e b) (orient a b e) (orient a b c) (product d a -ℤ m) (product d b -ℤ m)
    (product d c -ℤ m) (product d e -ℤ m) x.2 x.3 x.1 x.0 (gap_np _ _ ha) (gap_np _ _ hb) (gap_above _ _ hc)
    (gap_above _ _ he) (weights_from d a b c e m)

-- if a direction separates the ends of two segments, they do not cross
not_crossing : (d a b c e : Pair) → product d a <ℤ product d c → product d a <ℤ product d e → product d b <ℤ product d c
    → product d b <ℤ product d e → IsCrossing a b c e → ⊥
not_crossing d a b c e ac ae bc be x = elim (le_or_lt (product d a) (product d b)) [
  | inl h ↦ uncrossed d a b c e (product d b) x h (le_itself _) bc be
  | inr h ↦ uncrossed d a b c e (product d a) x (le_itself _) (le_less _ _ h) ac ae
]

-- a point that is farther in a direction is less far in the opposite one
pub farther_back : (d s t : Pair) → product d s <ℤ product d t → product (opp d) t <ℤ product (opp d) s
farther_back d s t h = rw (product-opp d s, product-opp d t) (omega (arith, ints))

-- no two sets both intersect and are disjoint
pub never_both : NeverBoth
never_both S T (Reaches t m c) (d, p) =
    not_covered S t (d, all_of (λ s. product d s <ℤ product d t) S (λ s i. p s t i m)) c
never_both S T (IsReached s m c) (d, p) =
    not_covered T s (
      opp d,
      all_of (λ t. product (opp d) t <ℤ product (opp d) s) T
          (λ t i. farther_back d s t (p s t m i)),
    ) c
never_both S T (Crosses a b c e ma mb mc me x) (d, p) =
    not_crossing d a b c e (p a c ma mc) (p a e ma me) (p b c mb mc) (p b e mb me) x
