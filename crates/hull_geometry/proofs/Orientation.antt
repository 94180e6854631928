-- Sides of lines, as cross products of the vectors from one point.
use Rattle.std.proofs.Common.{◌≡◌, ℤ, pos, ◌+ℤ◌, ◌-ℤ◌, ◌*ℤ◌, ◌≤ℤ◌, ◌<ℤ◌, neg_ℤ, ◌⊎◌, inl, inr, refl, ap, ◌∙◌, arith}
use Rattle.std.proofs.lemmas.Int.{ints}
use Rattle.lattice.specs.Plane.{Pair, orient, product, IsBefore}
use Rattle.lattice.specs.Polynomials.{difference-eq, difference_rules}
use Rattle.lattice.specs.Signs.{le_or_lt, product_nn, product_pp, product_np, product_pn}
use Rattle.lattice.proofs.Vectors.{as_pair, minus, opp, cross, Ahead, cross_swap, ahead_nn}

-- the side of c seen from the line ab is the cross product of the vectors from a
pub orient-cross : (q a b : Pair) → orient q a b ≡ cross (minus a q) (minus b q)
unfolding orient
orient-cross q a b = refl

-- swapping two points negates the side
pub orient_swap : (q u v : Pair) → orient q u v ≡ neg_ℤ (orient q v u)
unfolding orient
orient_swap q u v = cross_swap (minus u q) (minus v q)

-- if a point is on a line through q, the other is on the line through it
pub orient_swap_zero : (q u v : Pair) → orient q u v ≡ pos 0 → orient q v u ≡ pos 0
orient_swap_zero q u v e = orient_swap q v u ∙ ap neg_ℤ e

-- rotating the three points keeps the side
pub orient-cycle : (a b q : Pair) → orient a b q ≡ orient q a b
unfolding orient
orient-cycle a b q =
    rw (as_pair a, as_pair b, as_pair q) (simp difference_rules (difference-eq _ _ _ _ (omega arith)))

-- the triangle abc is the sum of three triangles with the vertex q
pub orient-sum : (a b c q : Pair) → orient a b c ≡ orient q b c +ℤ orient q c a +ℤ orient q a b
unfolding orient
orient-sum a b c q =
    rw (as_pair a, as_pair b, as_pair c, as_pair q) (simp difference_rules (difference-eq _ _ _ _ (omega arith)))

-- the product of the step from q to t with the opposite direction is how much farther q lies
pub product-minus : (d t q : Pair) → product (opp d) (minus t q) ≡ product d q -ℤ product d t
unfolding product
product-minus d t q =
    rw (as_pair d, as_pair t, as_pair q) (simp difference_rules (difference-eq _ _ _ _ (omega arith)))

-- a number equal to one at least 0 is at least 0
pub at_least : (a b : ℤ) → a ≡ b → pos 0 ≤ℤ a → pos 0 ≤ℤ b
at_least a b e h = omega (arith, ints)

-- a number equal to one above 0 is above 0
pub above : (a b : ℤ) → a ≡ b → pos 0 <ℤ a → pos 0 <ℤ b
above a b e h = omega (arith, ints)

-- if p is before q, the vector from p to q is ahead
pub ahead_of : (p q : Pair) → IsBefore p q → Ahead (minus q p)
ahead_of p q (inl h) = inl (omega (arith, ints))
ahead_of p q (inr h) = inr (omega (arith, ints, h.0), omega (arith, ints, h.1))

-- if p is before q, the vector from q to p, rotated, is ahead
pub behind_of : (p q : Pair) → IsBefore p q → Ahead (opp (minus p q))
behind_of p q (inl h) = inl (omega (arith, ints))
behind_of p q (inr h) = inr (omega (arith, ints, h.0), omega (arith, ints, h.1))

-- a point right of a line is not right of the same line from its other end
pub turned : (q u v : Pair) → orient q u v <ℤ pos 0 → pos 0 ≤ℤ orient q v u
turned q u v h = let e = orient_swap q v u in omega (arith, ints)

-- of two vectors ahead in one line, both point up or both down
pub along : (u b : Pair) → Ahead u → Ahead b → cross u b ≡ pos 0
    → ((pos 0 ≤ℤ u.y) × (pos 0 ≤ℤ b.y)) ⊎ ((u.y ≤ℤ pos 0) × (b.y ≤ℤ pos 0))
along u b hu hb e =
    elim (le_or_lt (pos 0) u.y) [
      | inl up_u ↦ elim (le_or_lt (pos 0) b.y)
          [ inl up_b ↦ inl (up_u, up_b) | inr down_b ↦ absurd (clash hu hb up_u down_b) ]
      | inr down_u ↦ elim (le_or_lt b.y (pos 0))
          [ inl down_b ↦ inr (omega (arith, ints), down_b) | inr up_b ↦ absurd (clash_down hu down_u up_b) ]
    ]
  where
    clash : Ahead u → Ahead b → pos 0 ≤ℤ u.y → b.y <ℤ pos 0 → ⊥
    clash (inl h) k up_u down_b =
        let p : (u.x *ℤ b.y) <ℤ pos 0 = product_pn u.x b.y h down_b in
        let n : pos 0 ≤ℤ (u.y *ℤ b.x) = product_nn u.y b.x up_u (ahead_nn b k) in omega (arith, ints)
    clash (inr h) (inl k) up_u down_b =
        let n : pos 0 <ℤ (u.y *ℤ b.x) = product_pp u.y b.x h.1 k in
        let z : u.x *ℤ b.y ≡ pos 0 = ap (λ (z : ℤ). z *ℤ b.y) h.0 ∙ omega (arith, ints) in omega (arith, ints)
    clash (inr h) (inr k) up_u down_b = omega (arith, ints)

    clash_down : Ahead u → u.y <ℤ pos 0 → pos 0 <ℤ b.y → ⊥
    clash_down (inl h) down_u up_b =
        let p : pos 0 <ℤ (u.x *ℤ b.y) = product_pp u.x b.y h up_b in
        let n : (u.y *ℤ b.x) ≤ℤ pos 0 = product_np u.y b.x (omega (arith, ints)) (ahead_nn b hb) in omega (arith, ints)
    clash_down (inr h) down_u up_b = omega (arith, ints)
