-- One step round the hull: the rightmost of the points still ahead is the end of the next edge.
use Rattle.std.proofs.Common.{◌≡◌, ℤ, pos, negsuc, ◌+ℤ◌, ◌-ℤ◌, ◌*ℤ◌, ◌≤ℤ◌, ◌<ℤ◌, inl, inr, sym, ◌∙◌, arith}
use Rattle.std.proofs.Common.{zero, suc}
use Rattle.std.proofs.lemmas.Int.{ints}
use Rattle.lattice.specs.Plane.{Pair, orient, distance_squared, IsBefore}
use Rattle.lattice.specs.Polynomials.{difference-eq, difference_rules}
use Rattle.lattice.specs.Signs.{product_nn, product_pp}
use Rattle.lattice.proofs.Sides.{side_after}
use Rattle.lattice.proofs.Vectors.{as_pair, minus, opp, cross, Ahead, cross-opp, ahead_nn}
use Rattle.hull_geometry.proofs.Orientation.{at_least, above, ahead_of, behind_of, along}

-- the square of a positive number is positive
square_above : (x : ℤ) → pos 0 <ℤ x → pos 0 <ℤ (x *ℤ x)
square_above x h = product_pp x x h h

-- a square is not negative
pub square_nn : (x : ℤ) → pos 0 ≤ℤ (x *ℤ x)
square_nn (pos n) = product_nn (pos n) (pos n) (omega (arith, ints)) (omega (arith, ints))
square_nn (negsuc n) = omega (arith, ints)

-- the squared length of a vector ahead is positive
pub length_above : (w : Pair) → Ahead w → pos 0 <ℤ (w.x *ℤ w.x +ℤ w.y *ℤ w.y)
length_above w (inl h) = let a = square_above w.x h in let b = square_nn w.y in omega (arith, ints)
length_above w (inr h) = let a = square_above w.y h.1 in let b = square_nn w.x in omega (arith, ints)

-- the product of two numbers not above 0 is not below 0
pub product_same : (x y : ℤ) → x ≤ℤ pos 0 → y ≤ℤ pos 0 → pos 0 ≤ℤ (x *ℤ y)
product_same (pos zero) y h k = omega (arith, ints)
product_same (pos (suc n)) y h k = absurd (omega (arith, ints))
product_same (negsuc m) (pos zero) h k = omega (arith, ints)
product_same (negsuc m) (pos (suc n)) h k = absurd (omega (arith, ints))
product_same (negsuc m) (negsuc n) h k = omega (arith, ints)

-- two vectors ahead in one line point in the same direction
dot_nn : (v w : Pair) → Ahead v → Ahead w → cross v w ≡ pos 0 → pos 0 ≤ℤ (v.x *ℤ w.x +ℤ v.y *ℤ w.y)
dot_nn v w hv hw e =
    let x : pos 0 ≤ℤ (v.x *ℤ w.x) = product_nn v.x w.x (ahead_nn v hv) (ahead_nn w hw) in
    let y : pos 0 ≤ℤ (v.y *ℤ w.y) =
    elim (along v w hv hw e) [ inl h ↦ product_nn v.y w.y h.0 h.1 | inr h ↦ product_same v.y w.y h.0 h.1 ] in
    omega (arith, ints)

-- the squared distance of u and t by way of v
sum_length : (u v t : Pair)
    → distance_squared u t ≡ distance_squared u v +ℤ ((t.x -ℤ v.x) *ℤ (t.x -ℤ v.x) +ℤ (t.y -ℤ v.y) *ℤ (t.y -ℤ v.y))
    +ℤ (((v.x -ℤ u.x) *ℤ (t.x -ℤ v.x) +ℤ (v.y -ℤ u.y) *ℤ (t.y -ℤ v.y)) +ℤ
    ((v.x -ℤ u.x) *ℤ (t.x -ℤ v.x) +ℤ (v.y -ℤ u.y) *ℤ (t.y -ℤ v.y)))
unfolding distance_squared
sum_length u v t = rw (as_pair u, as_pair v, as_pair t) (simp difference_rules (difference-eq _ _ _ _ (omega arith)))

-- a sum with a positive part is greater
longer : (d e l s : ℤ) → d ≡ e +ℤ l +ℤ (s +ℤ s) → pos 0 <ℤ l → pos 0 ≤ℤ s → e <ℤ d
longer d e l s q h k = omega (arith, ints)

-- a point in line with u and v, past v, is farther
pub past_farther : (u v t : Pair) → IsBefore u v → IsBefore v t → orient u v t ≡ pos 0
    → distance_squared u v <ℤ distance_squared u t
past_farther u v t b c e =
    longer _ _ _ _ (sum_length u v t) (length_above (minus t v) (ahead_of v t c))
    (dot_nn (minus v u) (minus t v) (ahead_of u v b) (ahead_of v t c) (sym (side_after u v t) ∙ e))

-- two rotated vectors have the same inner product
dot-opp : (v w : Pair) → (opp v).x *ℤ (opp w).x +ℤ (opp v).y *ℤ (opp w).y ≡ v.x *ℤ w.x +ℤ v.y *ℤ w.y
dot-opp v w = rw (as_pair v, as_pair w) (simp difference_rules (difference-eq _ _ _ _ (omega arith)))

-- the same, for lines that go back
pub past_farther_back : (u v t : Pair) → IsBefore v u → IsBefore t v → orient u v t ≡ pos 0
    → distance_squared u v <ℤ distance_squared u t
past_farther_back u v t b c e =
    longer _ _ _ _ (sum_length u v t)
    (above _ _ (dot-opp (minus t v) (minus t v)) (length_above (opp (minus t v)) (behind_of t v c)))
    (at_least _ _ (dot-opp (minus v u) (minus t v))
    (dot_nn (opp (minus v u)) (opp (minus t v)) (behind_of v u b) (behind_of t v c)
    (cross-opp (minus v u) (minus t v) ∙ sym (side_after u v t) ∙ e)))
