-- Two lines and three points: the facts that the bridge search uses.
use Rattle.std.proofs.Common.{◌≡◌, ap, ◌∙◌, arith, ◌⊎◌, inl, inr, ⊎_elim}
use Rattle.std.proofs.lemmas.Int.{by_lt_z}
use lib.IntN.{ℤ, pos, ◌+ℤ◌, ◌-ℤ◌, ◌*ℤ◌, neg_ℤ, *ℤ-zero, zero-*ℤ}
use lib.Signed.{◌<ℤ◌, ◌≤ℤ◌}
use Rattle.lattice.specs.Plane.{Pair, orient, IsBefore}
use Rattle.lattice.specs.Integers.{linear, ring_laws}
use Rattle.lattice.specs.Signs.{product_pp, product_nn}

-- ---- identities
-- the side changes from z to t by the cross product of the line's direction with t - z
pub side_change : (p q t z : Pair)
    → orient p q t -ℤ orient p q z ≡ (q.x -ℤ p.x) *ℤ (t.y -ℤ z.y) -ℤ (q.y -ℤ p.y) *ℤ (t.x -ℤ z.x)
unfolding orient
side_change p q t z = simp ring_laws (omega (arith, linear))

-- the identity of three vectors, by x
triple_x : (vx vy wx wy zx zy tx ty : ℤ)
    → (wx *ℤ (ty -ℤ zy) -ℤ wy *ℤ (tx -ℤ zx)) *ℤ vx +ℤ (vx *ℤ (zy -ℤ ty) -ℤ vy *ℤ (zx -ℤ tx)) *ℤ wx +ℤ
    (wx *ℤ vy -ℤ wy *ℤ vx) *ℤ (zx -ℤ tx) ≡ pos 0
triple_x vx vy wx wy zx zy tx ty = simp ring_laws (omega (arith, linear))

-- the same by y
triple_y : (vx vy wx wy zx zy tx ty : ℤ)
    → (wx *ℤ (ty -ℤ zy) -ℤ wy *ℤ (tx -ℤ zx)) *ℤ vy +ℤ (vx *ℤ (zy -ℤ ty) -ℤ vy *ℤ (zx -ℤ tx)) *ℤ wy +ℤ
    (wx *ℤ vy -ℤ wy *ℤ vx) *ℤ (zy -ℤ ty) ≡ pos 0
triple_y vx vy wx wy zx zy tx ty = simp ring_laws (omega (arith, linear))

-- ---- vectors in the order by x, then by y
abbrev pub IsPositive : ℤ → ℤ → Type 0
IsPositive ux uy = (pos 0 <ℤ ux) ⊎ ((ux ≡ pos 0) × (pos 0 <ℤ uy))

-- a vector that is zero or positive
abbrev pub IsNonnegative : ℤ → ℤ → Type 0
IsNonnegative ux uy = (pos 0 <ℤ ux) ⊎ ((ux ≡ pos 0) × (pos 0 ≤ℤ uy))

-- a product with zero on the right is zero
pub times_zero : (k u : ℤ) → u ≡ pos 0 → k *ℤ u ≡ pos 0
times_zero k u e = ap (λ (z : ℤ). k *ℤ z) e ∙ *ℤ-zero k

-- a product with zero on the left is zero
pub zero_times : (k u : ℤ) → k ≡ pos 0 → k *ℤ u ≡ pos 0
zero_times k u e = ap (λ (z : ℤ). z *ℤ u) e ∙ zero-*ℤ u

-- a positive multiple of a positive vector is positive
pub scale_positive : (k ux uy : ℤ) → pos 0 <ℤ k → IsPositive ux uy → IsPositive (k *ℤ ux) (k *ℤ uy)
scale_positive k ux uy h (inl u) = inl (product_pp _ _ h u)
scale_positive k ux uy h (inr u) = inr (times_zero k ux u.0, product_pp _ _ h u.1)

-- a multiple, zero or positive, of a positive vector is not negative
pub scale_nonnegative : (k ux uy : ℤ) → pos 0 ≤ℤ k → IsPositive ux uy → IsNonnegative (k *ℤ ux) (k *ℤ uy)
scale_nonnegative k ux uy h u =
    by_lt_z (pos 0) k
    (λ g. ⊎_elim (λ a. inl (product_pp _ _ g a))
    (λ b. inr (times_zero k ux b.0, product_nn _ _ h (omega (arith, linear, b.1)))) u)
    (λ g. let e : k ≡ pos 0 = omega (arith, linear) in
    inr (zero_times k ux e, let z : k *ℤ uy ≡ pos 0 = zero_times k uy e in omega (arith, linear)))

-- three vectors that are not negative, one of them positive, do not sum to zero
sum_apart : (ax ay bx by cx cy : ℤ) → IsNonnegative ax ay → IsNonnegative bx by → IsNonnegative cx cy
    → (IsPositive ax ay ⊎ (IsPositive bx by ⊎ IsPositive cx cy)) → ax +ℤ bx +ℤ cx ≡ pos 0 → ay +ℤ by +ℤ cy ≡ pos 0 → ⊥
sum_apart ax ay bx by cx cy a b c s e f = omega (arith, linear)

-- a v + b w + u = 0 with a, b at least 0, v and w positive and u not negative: none of the three is positive
pub no_sum : (a b vx vy wx wy ux uy : ℤ) → IsPositive vx vy → IsPositive wx wy → pos 0 ≤ℤ a → pos 0 ≤ℤ b
    → IsNonnegative ux uy → a *ℤ vx +ℤ b *ℤ wx +ℤ ux ≡ pos 0 → a *ℤ vy +ℤ b *ℤ wy +ℤ uy ≡ pos 0
    → ((pos 0 <ℤ a) ⊎ ((pos 0 <ℤ b) ⊎ IsPositive ux uy)) → ⊥
no_sum a b vx vy wx wy ux uy v w ha hb u ex ey s =
    sum_apart (a *ℤ vx) (a *ℤ vy) (b *ℤ wx) (b *ℤ wy) ux uy (scale_nonnegative a vx vy ha v)
    (scale_nonnegative b wx wy hb w) u
    (⊎_elim (λ h. inl (scale_positive a vx vy h v))
    (λ r. ⊎_elim (λ h. inr (inl (scale_positive b wx wy h w))) (λ h. inr (inr h)) r) s)
    ex ey

-- ---- two lines, pq and ab: how much more the first bends
unfoldable pub bend : Pair → Pair → Pair → Pair → ℤ
bend p q a b = (q.x -ℤ p.x) *ℤ (b.y -ℤ a.y) -ℤ (q.y -ℤ p.y) *ℤ (b.x -ℤ a.x)

-- how the sides of two lines change from z to t, by x
pub slope_x : (p q a b t z : Pair)
    → (orient p q t -ℤ orient p q z) *ℤ (b.x -ℤ a.x) +ℤ (orient a b z -ℤ orient a b t) *ℤ
    (q.x -ℤ p.x) +ℤ bend p q a b *ℤ (z.x -ℤ t.x) ≡ pos 0
unfolding bend
slope_x p q a b t z =
    rw (side_change p q t z, side_change a b z t)
    (triple_x (b.x -ℤ a.x) (b.y -ℤ a.y) (q.x -ℤ p.x) (q.y -ℤ p.y) z.x z.y t.x t.y)

-- the same by y
pub slope_y : (p q a b t z : Pair)
    → (orient p q t -ℤ orient p q z) *ℤ (b.y -ℤ a.y) +ℤ (orient a b z -ℤ orient a b t) *ℤ
    (q.y -ℤ p.y) +ℤ bend p q a b *ℤ (z.y -ℤ t.y) ≡ pos 0
unfolding bend
slope_y p q a b t z =
    rw (side_change p q t z, side_change a b z t)
    (triple_y (b.x -ℤ a.x) (b.y -ℤ a.y) (q.x -ℤ p.x) (q.y -ℤ p.y) z.x z.y t.x t.y)

-- the step to a later point is a positive vector
pub step_positive : (p q : Pair) → IsBefore p q → IsPositive (q.x -ℤ p.x) (q.y -ℤ p.y)
step_positive p q (inl h) = inl (omega (arith, linear))
step_positive p q (inr h) = inr (omega (arith, linear))

-- the same, if the step has the other sign
pub flip : (k u v : ℤ) → neg_ℤ k *ℤ (u -ℤ v) ≡ k *ℤ (v -ℤ u)
flip k u v = simp ring_laws (omega (arith, linear))

-- from z to t the difference of the two sides moves with the bend: its part that is not negative, in either direction
pub bend_step : (p q a b t z : Pair)
    → ((pos 0 ≤ℤ bend p q a b) × IsBefore t z) ⊎ ((bend p q a b ≤ℤ pos 0) × IsBefore z t)
    → IsNonnegative (bend p q a b *ℤ (z.x -ℤ t.x)) (bend p q a b *ℤ (z.y -ℤ t.y))
bend_step p q a b t z (inl h) = scale_nonnegative (bend p q a b) (z.x -ℤ t.x) (z.y -ℤ t.y) h.0 (step_positive t z h.1)
bend_step p q a b t z (inr h) =
    rw (← (flip (bend p q a b) t.x z.x), ← (flip (bend p q a b) t.y z.y))
    (scale_nonnegative (neg_ℤ (bend p q a b)) (t.x -ℤ z.x) (t.y -ℤ z.y) (omega (arith, linear, h.0))
    (step_positive z t h.1))

-- the bend times a step in its sense is a positive vector
pub bend_strict : (p q a b t z : Pair)
    → ((pos 0 <ℤ bend p q a b) × IsBefore t z) ⊎ ((bend p q a b <ℤ pos 0) × IsBefore z t)
    → IsPositive (bend p q a b *ℤ (z.x -ℤ t.x)) (bend p q a b *ℤ (z.y -ℤ t.y))
bend_strict p q a b t z (inl h) = scale_positive (bend p q a b) (z.x -ℤ t.x) (z.y -ℤ t.y) h.0 (step_positive t z h.1)
bend_strict p q a b t z (inr h) =
    rw (← (flip (bend p q a b) t.x z.x), ← (flip (bend p q a b) t.y z.y))
    (scale_positive (neg_ℤ (bend p q a b)) (t.x -ℤ z.x) (t.y -ℤ z.y) (omega (arith, linear, h.0))
    (step_positive z t h.1))

-- t is under pq if it is between x and z, under ab, and both of x and z are under pq and not under ab
pub under : (p q a b x t z : Pair) → IsBefore p q → IsBefore a b → IsBefore x t → IsBefore t z → orient p q x ≤ℤ pos 0
    → pos 0 ≤ℤ orient a b x → orient p q z ≤ℤ pos 0 → pos 0 ≤ℤ orient a b z → orient a b t ≤ℤ pos 0
    → orient p q t ≤ℤ pos 0
under p q a b x t z hpq hab hxt htz fx gx fz gz gt =
    by_lt_z (pos 0) (orient p q t)
    (λ ft. absurd (by_lt_z (bend p q a b) (pos 0)
    (λ down. no_sum (orient p q t -ℤ orient p q x) (orient a b x -ℤ orient a b t) (b.x -ℤ a.x) (b.y -ℤ a.y) (q.x -ℤ p.x)
    (q.y -ℤ p.y) (bend p q a b *ℤ (x.x -ℤ t.x)) (bend p q a b *ℤ (x.y -ℤ t.y))
    (step_positive a b hab) (step_positive p q hpq) (omega (arith, linear)) (omega (arith, linear))
    (bend_step p q a b t x (inr (omega (arith, linear), hxt)))
    (slope_x p q a b t x) (slope_y p q a b t x) (inl (omega (arith, linear))))
    (λ up. no_sum (orient p q t -ℤ orient p q z) (orient a b z -ℤ orient a b t) (b.x -ℤ a.x) (b.y -ℤ a.y) (q.x -ℤ p.x)
    (q.y -ℤ p.y) (bend p q a b *ℤ (z.x -ℤ t.x)) (bend p q a b *ℤ (z.y -ℤ t.y))
    (step_positive a b hab) (step_positive p q hpq) (omega (arith, linear)) (omega (arith, linear))
    (bend_step p q a b t z (inl (up, htz)))
    (slope_x p q a b t z) (slope_y p q a b t z) (inl (omega (arith, linear))))))
    (λ done. done)

-- y is between x and t, from either side
abbrev pub IsBetween : Pair → Pair → Pair → Type 0
IsBetween x y t = (IsBefore x y × IsBefore y t) ⊎ (IsBefore t y × IsBefore y x)

-- t is strictly under pq if it is under ab, y between x and t is under pq and not under ab, and x is not under pq and
-- strictly under ab
pub over : (p q a b x y t : Pair) → IsBefore p q → IsBefore a b → IsBetween x y t → pos 0 ≤ℤ orient p q x
    → orient a b x <ℤ pos 0 → orient p q y ≤ℤ pos 0 → pos 0 ≤ℤ orient a b y → orient a b t ≤ℤ pos 0
    → orient p q t <ℤ pos 0
over p q a b x y t hpq hab way fx gx fy gy gt =
    by_lt_z (orient p q t) (pos 0) (λ done. done)
    (λ ft. absurd (
    let from_x : IsNonnegative (bend p q a b *ℤ (y.x -ℤ x.x)) (bend p q a b *ℤ (y.y -ℤ x.y)) → ⊥ = λ u.
    no_sum (orient p q x -ℤ orient p q y) (orient a b y -ℤ orient a b x) (b.x -ℤ a.x) (b.y -ℤ a.y) (q.x -ℤ p.x)
    (q.y -ℤ p.y) (bend p q a b *ℤ (y.x -ℤ x.x)) (bend p q a b *ℤ (y.y -ℤ x.y))
    (step_positive a b hab) (step_positive p q hpq) (omega (arith, linear)) (omega (arith, linear)) u
    (slope_x p q a b x y) (slope_y p q a b x y) (inr (inl (omega (arith, linear))))
    in
    let from_t : IsPositive (bend p q a b *ℤ (y.x -ℤ t.x)) (bend p q a b *ℤ (y.y -ℤ t.y))
    → IsNonnegative (bend p q a b *ℤ (y.x -ℤ t.x)) (bend p q a b *ℤ (y.y -ℤ t.y)) → ⊥ = λ s u.
    no_sum (orient p q t -ℤ orient p q y) (orient a b y -ℤ orient a b t) (b.x -ℤ a.x) (b.y -ℤ a.y) (q.x -ℤ p.x)
    (q.y -ℤ p.y) (bend p q a b *ℤ (y.x -ℤ t.x)) (bend p q a b *ℤ (y.y -ℤ t.y))
    (step_positive a b hab) (step_positive p q hpq) (omega (arith, linear)) (omega (arith, linear)) u
    (slope_x p q a b t y) (slope_y p q a b t y) (inr (inr s))
    in
    ⊎_elim
    (λ w. by_lt_z (bend p q a b) (pos 0)
    (λ down. from_t (bend_strict p q a b t y (inr (down, w.1)))
    (bend_step p q a b t y (inr (omega (arith, linear), w.1))))
    (λ up. from_x (bend_step p q a b x y (inl (up, w.0)))))
    (λ w. by_lt_z (pos 0) (bend p q a b)
    (λ up. from_t (bend_strict p q a b t y (inl (up, w.0))) (bend_step p q a b t y (inl (omega (arith, linear), w.0))))
    (λ down. from_x (bend_step p q a b x y (inr (down, w.1)))))
    way))
