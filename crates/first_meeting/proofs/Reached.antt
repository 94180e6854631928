-- A point that has passed a segment of a set, after some part of a motion, came to the segment no later: the set covers
-- the point at that part or before.
use Rattle.std.proofs.Common.{◌≡◌, ℕ, ◌*◌, ◌<◌, ◌≤◌, ℤ, pos, negsuc, ◌+ℤ◌, ◌-ℤ◌, ◌*ℤ◌, ◌≤ℤ◌, ◌<ℤ◌, neg_ℤ, inl, inr, refl, sym, ap}
use Rattle.std.proofs.Common.{◌∙◌, subst, List, arith}
use Rattle.std.specs.List.{Contains}
use Rattle.std.proofs.lemmas.Int.{ints}
use Rattle.std.proofs.lemmas.List.{get_or-map, length-map}
use Rattle.lattice.specs.Covers.{Covers, IsBetween, OnSegment}
use Rattle.lattice.specs.Plane.{Pair, orient, product}
use Rattle.lattice.specs.Polynomials.{difference-eq, difference-pos, as_difference, difference_rules}
use Rattle.lattice.specs.Signs.{le_or_lt, product_nn, product_np, product_pp, cancel_zero}
use Rattle.lattice.proofs.Vectors.{as_pair, cross}
use Rattle.hull_polygon.specs.Closest.{magnified}
use Rattle.hull_polygon.specs.Raycasts.{moved, on_way}
use Rattle.hull_polygon.proofs.Shields.{between_by}

-- T covers a, moved by some part of w that is no more than m / j
pub record Arrives (T : List Pair) (w : Pair) (m j : ℕ) (a : Pair) : Type 0 where
  pub k : ℕ
  pub n : ℕ
  pub whole : 0 < k
  pub early : n * j ≤ m * k
  pub covered : Covers (magnified k T) (on_way k n a (moved a w))

-- a point, magnified
abbrev pub times : ℕ → Pair → Pair
times k p = record { x = pos k *ℤ p.x; y = pos k *ℤ p.y }

-- a point after m / j of a motion, magnified
abbrev pub carried_point : ℕ → ℕ → Pair → Pair → Pair
carried_point j m w p = record { x = pos j *ℤ p.x +ℤ pos m *ℤ w.x; y = pos j *ℤ p.y +ℤ pos m *ℤ w.y }

-- ---- covered by a segment

-- k times a member of a set is a member of the magnified set
pub magnified_there : (T : List Pair) (p : Pair) (k : ℕ) → Contains T p → Contains (magnified k T) (times k p)
magnified_there T p k (i, l, e) = (
  i,
  rw length-map l,
  get_or-map (λ t. record { x = pos k *ℤ t.x; y = pos k *ℤ t.y }) T i p _ l ∙ ap (λ (t : Pair). times k t) e,
)

-- a weighted mean lies on the line of its two points
mean_on_line : (k u v : ℤ) (d e : Pair) (x y : ℤ) → k ≡ u +ℤ v → x ≡ u *ℤ d.x +ℤ v *ℤ e.x → y ≡ u *ℤ d.y +ℤ v *ℤ e.y
    → orient record { x = k *ℤ d.x; y = k *ℤ d.y } record { x = k *ℤ e.x; y = k *ℤ e.y } record { x = x; y = y } ≡ pos 0
unfolding orient
mean_on_line k u v d e x y ek ex ey =
    rw (ek, ex, ey) (rw (beyond u v d.x e.x, beyond u v d.y e.y, spread (u +ℤ v) e.x d.x, spread (u +ℤ v) e.y d.y)
    (flat (u +ℤ v) v (e.x -ℤ d.x) (e.y -ℤ d.y)))
  where
    spread : (k u v : ℤ) → k *ℤ u -ℤ k *ℤ v ≡ k *ℤ (u -ℤ v)
    spread k u v = rw (as_difference k, as_difference u, as_difference v)
        (simp difference_rules (difference-eq _ _ _ _ (omega arith)))

    beyond : (u v d e : ℤ) → (u *ℤ d +ℤ v *ℤ e) -ℤ (u +ℤ v) *ℤ d ≡ v *ℤ (e -ℤ d)
    beyond u v d e = rw (as_difference u, as_difference v, as_difference d, as_difference e)
        (simp difference_rules (difference-eq _ _ _ _ (omega arith)))

    flat : (k v x y : ℤ) → (k *ℤ x) *ℤ (v *ℤ y) -ℤ (k *ℤ y) *ℤ (v *ℤ x) ≡ pos 0
    flat k v x y = rw (as_difference k, as_difference v, as_difference x, as_difference y)
        (simp difference_rules (difference-pos _ _ 0 (omega arith)))

-- and between them
mean_between : (k u v d e x : ℤ) → pos 0 <ℤ k → pos 0 ≤ℤ u → pos 0 ≤ℤ v → k ≡ u +ℤ v → x ≡ u *ℤ d +ℤ v *ℤ e
    → IsBetween (k *ℤ d) (k *ℤ e) x
mean_between k u v d e x hk hu hv ek ex =
    between_by v (neg_ℤ u) k (k *ℤ d) (k *ℤ e) x hv (omega (arith, ints)) hk (omega (arith, ints))
    (ap (λ (z : ℤ). k *ℤ z) ex ∙ drawn k u v d e)
  where
    drawn : (k u v d e : ℤ) → k *ℤ (u *ℤ d +ℤ v *ℤ e) ≡ v *ℤ (k *ℤ e) -ℤ neg_ℤ u *ℤ (k *ℤ d)
    drawn k u v d e =
        rw (as_difference k, as_difference u, as_difference v, as_difference d, as_difference e)
        (simp difference_rules (difference-eq _ _ _ _ (omega arith)))

-- a set covers the weighted mean of two of its points
mean_covered : (T : List Pair) (d e : Pair) (k : ℕ) (u v x y : ℤ) → Contains T d → Contains T e → 0 < k → pos 0 ≤ℤ u
    → pos 0 ≤ℤ v → pos k ≡ u +ℤ v → x ≡ u *ℤ d.x +ℤ v *ℤ e.x → y ≡ u *ℤ d.y +ℤ v *ℤ e.y
    → Covers (magnified k T) record { x = x; y = y }
mean_covered T d e k u v x y md me hk hu hv ek ex ey =
    OnSegment _ _ (magnified_there T d k md) (magnified_there T e k me) (
      mean_on_line (pos k) u v d e x y ek ex ey,
      mean_between (pos k) u v d.x e.x x (omega (arith, ints)) hu hv ek ex,
      mean_between (pos k) u v d.y e.y y (omega (arith, ints)) hu hv ek ey,
    )

-- ---- back to the segment

-- how far a carried point lies to the left of the motion
pub cross_carried : (j m : ℕ) (w p : Pair) → cross w (carried_point j m w p) ≡ pos j *ℤ cross w p
cross_carried j m w p = parts (pos j) (pos m) w.x w.y p.x p.y
  where
    parts : (j m u v x y : ℤ)
        → u *ℤ (j *ℤ y +ℤ m *ℤ v) -ℤ v *ℤ (j *ℤ x +ℤ m *ℤ u) ≡ j *ℤ (u *ℤ y -ℤ v *ℤ x)
    parts j m u v x y =
        rw (as_difference j, as_difference m, as_difference u, as_difference v, as_difference x, as_difference y)
        (simp difference_rules (difference-eq _ _ _ _ (omega arith)))

-- how far a magnified point does
pub cross_times : (j : ℕ) (w p : Pair) → cross w (times j p) ≡ pos j *ℤ cross w p
cross_times j w p = parts (pos j) w.x w.y p.x p.y
  where
    parts : (j u v x y : ℤ) → u *ℤ (j *ℤ y) -ℤ v *ℤ (j *ℤ x) ≡ j *ℤ (u *ℤ y -ℤ v *ℤ x)
    parts j u v x y = rw (as_difference j, as_difference u, as_difference v, as_difference x, as_difference y)
        (simp difference_rules (difference-eq _ _ _ _ (omega arith)))

-- how far a carried point lies in a direction
pub product_carried : (j m : ℕ) (f w p : Pair)
    → product f (carried_point j m w p) ≡ pos j *ℤ product f p +ℤ pos m *ℤ product f w
unfolding product
product_carried j m f w p = parts (pos j) (pos m) f.x f.y w.x w.y p.x p.y
  where
    parts : (j m f g u v x y : ℤ)
        → f *ℤ (j *ℤ x +ℤ m *ℤ u) +ℤ g *ℤ (j *ℤ y +ℤ m *ℤ v) ≡ j *ℤ (f *ℤ x +ℤ g *ℤ y) +ℤ m *ℤ (f *ℤ u +ℤ g *ℤ v)
    parts j m f g u v x y =
        rw (
          as_difference j,
          as_difference m,
          as_difference f,
          as_difference g,
          as_difference u,
          as_difference v,
          as_difference x,
          as_difference y,
        ) (simp difference_rules (difference-eq _ _ _ _ (omega arith)))

-- how far a magnified point does
pub product_times : (j : ℕ) (f p : Pair) → product f (times j p) ≡ pos j *ℤ product f p
unfolding product
product_times j f p = parts (pos j) f.x f.y p.x p.y
  where
    parts : (j f g x y : ℤ) → f *ℤ (j *ℤ x) +ℤ g *ℤ (j *ℤ y) ≡ j *ℤ (f *ℤ x +ℤ g *ℤ y)
    parts j f g x y = rw (as_difference j, as_difference f, as_difference g, as_difference x, as_difference y)
        (simp difference_rules (difference-eq _ _ _ _ (omega arith)))

-- the step along w from a to the line through d across it, by x
step_x : (f w a d : Pair)
    → product f w *ℤ (a.x -ℤ d.x) +ℤ (product f d -ℤ product f a) *ℤ w.x ≡ neg_ℤ f.y *ℤ (cross w a -ℤ cross w d)
unfolding product
step_x f w a d =
    rw (as_pair f, as_pair w, as_pair a, as_pair d) (simp difference_rules (difference-eq _ _ _ _ (omega arith)))

-- the same by y
step_y : (f w a d : Pair)
    → product f w *ℤ (a.y -ℤ d.y) +ℤ (product f d -ℤ product f a) *ℤ w.y ≡ f.x *ℤ (cross w a -ℤ cross w d)
unfolding product
step_y f w a d =
    rw (as_pair f, as_pair w, as_pair a, as_pair d) (simp difference_rules (difference-eq _ _ _ _ (omega arith)))

-- the weighted steps to two points lead to their weighted mean
mean_reached : (u v s x y z w p q r t c d e : ℤ) → s *ℤ (x -ℤ y) +ℤ (p -ℤ r) *ℤ w ≡ t *ℤ (c -ℤ d)
    → s *ℤ (x -ℤ z) +ℤ (q -ℤ r) *ℤ w ≡ t *ℤ (c -ℤ e) → (u +ℤ v) *ℤ c ≡ u *ℤ d +ℤ v *ℤ e
    → ((u +ℤ v) *ℤ s) *ℤ x +ℤ (u *ℤ (p -ℤ r) +ℤ v *ℤ (q -ℤ r)) *ℤ w ≡ (u *ℤ s) *ℤ y +ℤ (v *ℤ s) *ℤ z
mean_reached u v s x y z w p q r t c d e f g h =
    let a = sides u v s x y z w (p -ℤ r) (q -ℤ r) in
    let b : u *ℤ (s *ℤ (x -ℤ y) +ℤ (p -ℤ r) *ℤ w) ≡ u *ℤ (t *ℤ (c -ℤ d)) = ap (λ (m : ℤ). u *ℤ m) f in
    let i : v *ℤ (s *ℤ (x -ℤ z) +ℤ (q -ℤ r) *ℤ w) ≡ v *ℤ (t *ℤ (c -ℤ e)) = ap (λ (m : ℤ). v *ℤ m) g in
    let j = level u v t c d e in
    let k : t *ℤ ((u +ℤ v) *ℤ c -ℤ (u *ℤ d +ℤ v *ℤ e)) ≡ pos 0 = ap (λ (m : ℤ). t *ℤ m) (apart _ _ h) ∙ nothing t in
    omega (arith, ints, a, b, i, j, k)
  where
    nothing : (t : ℤ) → t *ℤ pos 0 ≡ pos 0
    nothing t = omega (arith, ints)

    apart : (x y : ℤ) → x ≡ y → x -ℤ y ≡ pos 0
    apart x y e = omega (arith, ints)

    sides : (u v s x y z w m n : ℤ)
        → (((u +ℤ v) *ℤ s) *ℤ x +ℤ (u *ℤ m +ℤ v *ℤ n) *ℤ w) -ℤ ((u *ℤ s) *ℤ y +ℤ (v *ℤ s) *ℤ z)
        ≡ u *ℤ (s *ℤ (x -ℤ y) +ℤ m *ℤ w) +ℤ v *ℤ (s *ℤ (x -ℤ z) +ℤ n *ℤ w)
    sides u v s x y z w m n =
        rw (
          as_difference u,
          as_difference v,
          as_difference s,
          as_difference x,
          as_difference y,
          as_difference z,
          as_difference w,
          as_difference m,
          as_difference n,
        ) (simp difference_rules (difference-eq _ _ _ _ (omega arith)))

    level : (u v t c d e : ℤ)
        → u *ℤ (t *ℤ (c -ℤ d)) +ℤ v *ℤ (t *ℤ (c -ℤ e)) ≡ t *ℤ ((u +ℤ v) *ℤ c -ℤ (u *ℤ d +ℤ v *ℤ e))
    level u v t c d e =
        rw (as_difference u, as_difference v, as_difference t, as_difference c, as_difference d, as_difference e)
        (simp difference_rules (difference-eq _ _ _ _ (omega arith)))

-- a number above 0 is a natural number
natural : (z : ℤ) → pos 0 <ℤ z → (n : ℕ) × (pos n ≡ z) × (0 < n)
natural (pos n) h = (n, refl, omega (arith, ints))
natural (negsuc n) h = absurd (omega (arith, ints))

-- a weighted sum of numbers above 0 is above 0
weighed_above : (u v x y : ℤ) → pos 0 ≤ℤ u → pos 0 ≤ℤ v → pos 0 <ℤ (u +ℤ v) → pos 0 <ℤ x → pos 0 <ℤ y
    → pos 0 <ℤ (u *ℤ x +ℤ v *ℤ y)
weighed_above u v x y hu hv h hx hy = elim (le_or_lt (u *ℤ x +ℤ v *ℤ y) (pos 0)) [
  | inr k ↦ k
  | inl k ↦
      let m = product_nn u x hu (omega (arith, ints)) in
      let n = product_nn v y hv (omega (arith, ints)) in
      let a : u ≡ pos 0 = cancel_zero u x hx (omega (arith, ints)) in
      let b : v ≡ pos 0 = cancel_zero v y hy (omega (arith, ints)) in absurd (omega (arith, ints))
]

-- a factor of a product above 0, of which the other is not below 0, is above 0
factor_above : (x y : ℤ) → pos 0 ≤ℤ y → pos 0 <ℤ (y *ℤ x) → pos 0 <ℤ x
factor_above x y hy h = elim (le_or_lt x (pos 0)) [
  | inr k ↦ k
  | inl k ↦ let m = product_np x y k hy in absurd (omega (arith, ints, swapped x y))
]
  where
    swapped : (x y : ℤ) → x *ℤ y ≡ y *ℤ x
    swapped x y = rw (as_difference x, as_difference y) (simp difference_rules (difference-eq _ _ _ _ (omega arith)))

-- the point has passed the segment at m / j of the motion; without the scale
pub record Passing (w f a d e : Pair) (m j : ℕ) : Type 0 where
  pub u : ℤ
  pub v : ℤ
  pub u_nn : pos 0 ≤ℤ u
  pub v_nn : pos 0 ≤ℤ v
  pub some : pos 0 <ℤ (u +ℤ v)
  pub level : (u +ℤ v) *ℤ cross w a ≡ u *ℤ cross w d +ℤ v *ℤ cross w e
  pub early : (pos j *ℤ (u *ℤ (product f d -ℤ product f a) +ℤ v *ℤ (product f e -ℤ product f a)))
      ≤ℤ (pos m *ℤ ((u +ℤ v) *ℤ product f w))

-- it came to the segment no later
pub arrives : (T : List Pair) (w f a d e : Pair) (m j : ℕ) → Contains T d → Contains T e → 0 < j
    → product f a <ℤ product f d → product f a <ℤ product f e → Passing w f a d e m j → Arrives T w m j a
arrives T w f a d e m j md me hj fd fe t = record {
  k = whole.0;
  n = part.0;
  whole = whole.2;
  early = rated whole.0 part.0 _ _ whole.1 part.1 t.early;
  covered = mean_covered T d e whole.0 (t.u *ℤ product f w) (t.v *ℤ product f w) _ _ md me whole.2
      (product_nn _ _ t.u_nn (nn _ ahead)) (product_nn _ _ t.v_nn (nn _ ahead)) (whole.1 ∙ spread t.u t.v (product f w))
      (there w.x whole.0 part.0 _ _ a.x whole.1 part.1
      ∙ mean_reached t.u t.v (product f w) a.x d.x e.x w.x (product f d) (product f e) (product f a) (neg_ℤ f.y) (cross w a)
      (cross w d) (cross w e) (step_x f w a d) (step_x f w a e) t.level)
      (there w.y whole.0 part.0 _ _ a.y whole.1 part.1
      ∙ mean_reached t.u t.v (product f w) a.y d.y e.y w.y (product f d) (product f e) (product f a) f.x (cross w a)
      (cross w d) (cross w e) (step_y f w a d) (step_y f w a e) t.level);
}
  where
    nn : (x : ℤ) → pos 0 <ℤ x → pos 0 ≤ℤ x
    nn x h = omega (arith, ints)

    gap : (x y : ℤ) → x <ℤ y → pos 0 <ℤ (y -ℤ x)
    gap x y h = omega (arith, ints)

    forward : pos 0 <ℤ (t.u *ℤ (product f d -ℤ product f a) +ℤ t.v *ℤ (product f e -ℤ product f a))
    forward = weighed_above t.u t.v _ _ t.u_nn t.v_nn t.some (gap _ _ fd) (gap _ _ fe)

    less_le : (x y : ℤ) → pos 0 <ℤ x → x ≤ℤ y → pos 0 <ℤ y
    less_le x y h k = omega (arith, ints)

    scale : pos 0 <ℤ pos j
    scale = omega (arith, ints)

    ahead : pos 0 <ℤ product f w
    ahead = factor_above _ (t.u +ℤ t.v) (nn _ t.some)
        (factor_above _ (pos m) (omega (arith, ints)) (less_le _ _ (product_pp (pos j) _ scale forward) t.early))

    whole : (k : ℕ) × (pos k ≡ (t.u +ℤ t.v) *ℤ product f w) × (0 < k)
    whole = natural _ (product_pp _ _ t.some ahead)

    part : (n : ℕ) × (pos n ≡ t.u *ℤ (product f d -ℤ product f a) +ℤ t.v *ℤ (product f e -ℤ product f a)) × (0 < n)
    part = natural _ forward

    turned : (x y z : ℤ) → (y *ℤ x) ≤ℤ z → (x *ℤ y) ≤ℤ z
    turned x y z h = omega (arith, ints, swapped x y)
      where
        swapped : (x y : ℤ) → x *ℤ y ≡ y *ℤ x
        swapped x y = rw (as_difference x, as_difference y) (simp difference_rules (difference-eq _ _ _ _ (omega arith)))

    rated : (k n : ℕ) (i h : ℤ) → pos k ≡ i → pos n ≡ h → (pos j *ℤ h) ≤ℤ (pos m *ℤ i)
        → n * j ≤ m * k
    rated k n i h e g l = natural_le
        (subst (λ (z : ℤ). (z *ℤ pos j) ≤ℤ (pos m *ℤ pos k)) (sym g)
        (subst (λ (z : ℤ). (h *ℤ pos j) ≤ℤ (pos m *ℤ z)) (sym e) (turned h (pos j) (pos m *ℤ i) l)))
      where
        natural_le : pos (n * j) ≤ℤ pos (m * k) → n * j ≤ m * k
        natural_le l = omega (arith, ints)

    spread : (u v s : ℤ) → (u +ℤ v) *ℤ s ≡ u *ℤ s +ℤ v *ℤ s
    spread u v s = rw (as_difference u, as_difference v, as_difference s)
        (simp difference_rules (difference-eq _ _ _ _ (omega arith)))

    there : (w : ℤ) (k n : ℕ) (i h a : ℤ) → pos k ≡ i → pos n ≡ h
        → pos k *ℤ a +ℤ pos n *ℤ ((a +ℤ w) -ℤ a) ≡ i *ℤ a +ℤ h *ℤ w
    there w k n i h a e g = rw (e, g) (ap (λ (z : ℤ). i *ℤ a +ℤ h *ℤ z) (omega (arith, ints)))
