-- The width of a gap between a point and a segment on both sides of a direction, and that no two sets are farther apart
-- than that.
use Rattle.std.proofs.Common.{◌≡◌, ℤ, pos, ◌+ℤ◌, ◌-ℤ◌, ◌*ℤ◌, ◌≤ℤ◌, ◌<ℤ◌, neg_ℤ, inl, inr, refl, ap, ◌∙◌, subst, arith}
use Rattle.std.proofs.lemmas.Int.{ints}
use Rattle.lattice.specs.Plane.{Pair, product, distance_squared}
use Rattle.lattice.specs.Polynomials.{difference-eq, as_difference, difference-mul, difference_rules}
use Rattle.lattice.proofs.Vectors.{as_pair}
use Rattle.lattice.specs.Signs.{le_or_lt, product_nn, product_pp, product_np}
use Rattle.hull_polygon.specs.Steps.{step}
use Rattle.hull_polygon.proofs.Cones.{square_nn}
use Rattle.hull_polygon.proofs.Fractions.{products_le}
use Rattle.lattice.proofs.Numbers.{gap_above, le_itself, le_trans, nn_above, sum_nn}

-- a direction rotated by 90 degrees
abbrev pub turned : Pair → Pair
turned d = record { x = neg_ℤ d.y; y = d.x }

-- the product of two directions, by their parts along a third and across it (Lagrange)
pub parts : (n e w : Pair)
    → product n n *ℤ product e w ≡ product n e *ℤ product n w +ℤ product (turned n) e *ℤ product (turned n) w
unfolding product
parts n e w = rw (as_pair n, as_pair e, as_pair w) (simp difference_rules (difference-eq _ _ _ _ (omega arith)))

-- l times the step from x to q plus m times the step from y to q
abbrev pub gap : ℤ → ℤ → Pair → Pair → Pair → Pair
gap l m q x y = record { x = l *ℤ (q.x -ℤ x.x) +ℤ m *ℤ (q.x -ℤ y.x); y = l *ℤ (q.y -ℤ x.y) +ℤ m *ℤ (q.y -ℤ y.y) }

-- how far that goes in a direction
pub along_gap : (d : Pair) (l m : ℤ) (q x y : Pair)
    → product d (gap l m q x y) ≡ l *ℤ (product d q -ℤ product d x) +ℤ m *ℤ (product d q -ℤ product d y)
unfolding product
along_gap d l m q x y = rw (as_pair d, as_difference l, as_difference m, as_pair q, as_pair x, as_pair y)
    (simp difference_rules (difference-eq _ _ _ _ (omega arith)))

-- how far a step goes in a direction
pub along_step : (d p q : Pair) → product d (step p q) ≡ product d q -ℤ product d p
unfolding product
along_step d p q = rw (as_pair d, as_pair p, as_pair q) (simp difference_rules (difference-eq _ _ _ _ (omega arith)))

-- a squared length is not negative
pub length_nn : (d : Pair) → pos 0 ≤ℤ product d d
unfolding product
length_nn d = sum_nn _ _ (square_nn d.x) (square_nn d.y)

-- the square of how far a step goes is at most the product of both squared lengths (Cauchy)
pub cauchy : (e w : Pair) → (product e w *ℤ product e w) ≤ℤ (product e e *ℤ product w w)
cauchy e w = omega (arith, ints, parts e w w, square_nn (product (turned e) w))

-- a direction in which one point lies farther than another has a length
pub some_length : (e p q : Pair) → product e p <ℤ product e q → pos 0 <ℤ product e e
some_length e p q h = elim (le_or_lt (product e e) (pos 0)) [
  | inr k ↦ k
  | inl k ↦
      let g : pos 0 <ℤ product e (step p q) = rw (along_step e p q) (gap_above _ _ h) in
      absurd (omega (arith, ints, product_pp _ _ g g, cauchy e (step p q), product_np _ _ k (length_nn (step p q))))
]

-- the square of a product is the product of the squares
squared_product : (k h l : ℤ) → (k *ℤ k) *ℤ ((h *ℤ h) *ℤ l) ≡ ((k *ℤ h) *ℤ (k *ℤ h)) *ℤ l
squared_product k h l =
    rw (as_difference k, as_difference h, as_difference l) (simp difference-mul (difference-eq _ _ _ _ (omega arith)))

-- three factors in another order
pub three_factors : (e w l : ℤ) → (e *ℤ w) *ℤ l ≡ (l *ℤ w) *ℤ e
three_factors e w l =
    rw (as_difference e, as_difference w, as_difference l) (simp difference-mul (difference-eq _ _ _ _ (omega arith)))

-- a difference of squares is a product
square_apart : (u g : ℤ) → (u -ℤ g) *ℤ (u +ℤ g) ≡ u *ℤ u -ℤ g *ℤ g
square_apart u g = rw (as_difference u, as_difference g) (simp difference_rules (difference-eq _ _ _ _ (omega arith)))

-- a product with a difference is a difference
drawn_out : (u g e : ℤ) → (u -ℤ g) *ℤ e ≡ u *ℤ e -ℤ g *ℤ e
drawn_out u g e = rw (as_difference u, as_difference g, as_difference e)
    (simp difference_rules (difference-eq _ _ _ _ (omega arith)))

-- if a step goes nowhere across n, its squared length is that along n
pub across_nothing : (n w : Pair) → product (turned n) w ≡ pos 0
    → product n n *ℤ product w w ≡ product n w *ℤ product n w
across_nothing n w z = parts n w w ∙ ap (λ (k : ℤ). product n w *ℤ product n w +ℤ k *ℤ k) z ∙ omega (arith, ints)

-- if a gap goes k times farther than h in the direction e, goes only along n, and not so far as k times H there, then h
-- divided by the length of e is less than H divided by that of n
pub narrower : (n e w : Pair) (k h H : ℤ) → product (turned n) w ≡ pos 0 → pos 0 <ℤ k → pos 0 ≤ℤ h
    → (k *ℤ h) ≤ℤ product e w → neg_ℤ (k *ℤ H) <ℤ product n w → product n w <ℤ (k *ℤ H) → pos 0 <ℤ product e e
    → ((H *ℤ H) *ℤ product e e) ≤ℤ ((h *ℤ h) *ℤ product n n) → ⊥
narrower n e w k h H z hk hh far low high he more =
    clash _ _ _ _ _ _ _ _
    (products_le (k *ℤ k) (k *ℤ k) ((H *ℤ H) *ℤ E) ((h *ℤ h) *ℤ L) (square_nn k) (le_itself (k *ℤ k))
    (product_nn (H *ℤ H) E (square_nn H) (nn_above _ he)) more)
    (squared_product k H E) (squared_product k h L)
    (products_le (kh *ℤ kh) (E *ℤ product w w) L L (square_nn kh) (le_trans _ _ _ both (cauchy e w)) (length_nn n)
    (le_itself L))
    (three_factors E (product w w) L) (ap (λ (x : ℤ). x *ℤ E) (across_nothing n w z))
    (drawn_out ((k *ℤ H) *ℤ (k *ℤ H)) (product n w *ℤ product n w) E)
    (product_pp _ E (subst (λ (x : ℤ). pos 0 <ℤ x) (square_apart (k *ℤ H) (product n w))
    (product_pp _ _ (gap_above _ _ high) (over _ _ low))) he)
  where
    E : ℤ
    E = product e e

    L : ℤ
    L = product n n

    kh : ℤ
    kh = k *ℤ h

    over : (x u : ℤ) → neg_ℤ u <ℤ x → pos 0 <ℤ (u +ℤ x)
    over x u h = omega (arith, ints)

    both : (kh *ℤ kh) ≤ℤ (product e w *ℤ product e w)
    both = products_le kh (product e w) kh (product e w) (product_nn k h (nn_above _ hk) hh) far
        (product_nn k h (nn_above _ hk) hh) far

    clash : (a b c d r s t x : ℤ) → a ≤ℤ b → a ≡ c → b ≡ d → d ≤ℤ r → r ≡ s → s ≡ t → x ≡ c -ℤ t → pos 0 <ℤ x → ⊥
    clash a b c d r s t x f g h i j k l m = omega (arith, ints)

-- the squared length of a step
pub step_squared : (p q : Pair) → product (step p q) (step p q) ≡ distance_squared p q
unfolding product distance_squared
step_squared p q = refl

-- a point that lies h farther than another in a direction is at least as far away, divided by the length of the
-- direction
pub as_far : (d p q : Pair) (h : ℤ) → pos 0 ≤ℤ h → h ≤ℤ (product d q -ℤ product d p)
    → (h *ℤ h) ≤ℤ (product d d *ℤ distance_squared p q)
as_far d p q h hh far =
    subst (λ (z : ℤ). (h *ℤ h) ≤ℤ (product d d *ℤ z)) (step_squared p q)
    (le_trans _ _ _ (products_le h (product d (step p q)) h (product d (step p q)) hh out hh out) (cauchy d (step p q)))
  where
    out : h ≤ℤ product d (step p q)
    out = rw (along_step d p q) far
