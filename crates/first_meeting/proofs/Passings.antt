-- A point of magnified sets that has passed a segment, without the scale.
use Rattle.std.proofs.Common.{◌≡◌, ℕ, ◌<◌, ℤ, pos, ◌+ℤ◌, ◌-ℤ◌, ◌*ℤ◌, ◌≤ℤ◌, neg_ℤ, sym, ap, ◌∙◌, arith}
use Rattle.std.proofs.lemmas.Int.{ints}
use Rattle.lattice.specs.Plane.{Pair, product}
use Rattle.lattice.specs.Polynomials.{difference-eq, as_difference, difference_rules}
use Rattle.lattice.specs.Signs.{cancel_zero}
use Rattle.lattice.proofs.Vectors.{as_pair, cross, opp}
use Rattle.hull_geometry.proofs.Slopes.{product-opp}
use Rattle.first_meeting.proofs.Reached.{Passing, carried_point, times, cross_carried, cross_times, product_carried, product_times}
use Rattle.first_meeting.proofs.Passed.{HasPassed, IsPassed}

-- a scale above 0 is left out of a balance
unscaled : (j : ℕ) (u v x y z : ℤ) → 0 < j → (u +ℤ v) *ℤ (pos j *ℤ x) ≡ u *ℤ (pos j *ℤ y) +ℤ v *ℤ (pos j *ℤ z)
    → (u +ℤ v) *ℤ x ≡ u *ℤ y +ℤ v *ℤ z
unscaled j u v x y z hj e =
    same _ _ (cancel_zero ((u +ℤ v) *ℤ x -ℤ (u *ℤ y +ℤ v *ℤ z)) (pos j) (omega (arith, ints))
    (drawn (pos j) u v x y z ∙ apart _ _ e))
  where
    same : (x y : ℤ) → x -ℤ y ≡ pos 0 → x ≡ y
    same x y e = omega (arith, ints)

    apart : (x y : ℤ) → x ≡ y → x -ℤ y ≡ pos 0
    apart x y e = omega (arith, ints)

    drawn : (j u v x y z : ℤ)
        → ((u +ℤ v) *ℤ x -ℤ (u *ℤ y +ℤ v *ℤ z)) *ℤ j
        ≡ (u +ℤ v) *ℤ (j *ℤ x) -ℤ (u *ℤ (j *ℤ y) +ℤ v *ℤ (j *ℤ z))
    drawn j u v x y z =
        rw (as_difference j, as_difference u, as_difference v, as_difference x, as_difference y, as_difference z)
        (simp difference_rules (difference-eq _ _ _ _ (omega arith)))

-- a point has passed a segment
pub has_passed : (w f a d e : Pair) (m j : ℕ) → 0 < j
    → HasPassed w f (carried_point j m w a) (times j d) (times j e) → Passing w f a d e m j
has_passed w f a d e m j hj t = record {
  u = t.u;
  v = t.v;
  u_nn = t.u_nn;
  v_nn = t.v_nn;
  some = t.some;
  level = unscaled j t.u t.v (cross w a) (cross w d) (cross w e) hj
      (rw (← cross_carried j m w a, ← cross_times j w d, ← cross_times j w e) t.level);
  early = early t.u t.v _ _ _ (product f a) (product f d) (product f e) (product f w) (product_carried j m f w a) (product_times j f d) (product_times j f e) t.low;
}
  where
    drawn : (j m u v x y z w : ℤ)
        → j *ℤ (u *ℤ (y -ℤ x) +ℤ v *ℤ (z -ℤ x)) -ℤ m *ℤ ((u +ℤ v) *ℤ w)
        ≡ (u +ℤ v) *ℤ neg_ℤ (j *ℤ x +ℤ m *ℤ w) +ℤ (u *ℤ (j *ℤ y) +ℤ v *ℤ (j *ℤ z))
    drawn j m u v x y z w =
        rw (
          as_difference j,
          as_difference m,
          as_difference u,
          as_difference v,
          as_difference x,
          as_difference y,
          as_difference z,
          as_difference w,
        ) (simp difference_rules (difference-eq _ _ _ _ (omega arith)))

    no_more : (x y z : ℤ) → x -ℤ y ≡ z → z ≤ℤ pos 0 → x ≤ℤ y
    no_more x y z e h = omega (arith, ints)

    early : (u v p q r x y z w : ℤ) → p ≡ pos j *ℤ x +ℤ pos m *ℤ w → q ≡ pos j *ℤ y → r ≡ pos j *ℤ z
        → ((u +ℤ v) *ℤ neg_ℤ p +ℤ (u *ℤ q +ℤ v *ℤ r)) ≤ℤ pos 0
        → (pos j *ℤ (u *ℤ (y -ℤ x) +ℤ v *ℤ (z -ℤ x))) ≤ℤ (pos m *ℤ ((u +ℤ v) *ℤ w))
    early u v p q r x y z w e f g l = no_more _ _ _ (drawn (pos j) (pos m) u v x y z w) (rw (e, f, g) at l)

-- two directions reversed
both_back : (f w : Pair) → product (opp f) (opp w) ≡ product f w
unfolding product
both_back f w = rw (as_pair f, as_pair w) (simp difference_rules (difference-eq _ _ _ _ (omega arith)))

-- a point was passed by a segment: seen from that, it moves backward
pub is_passed : (w f d a b : Pair) (m j : ℕ) → 0 < j
    → IsPassed w f (times j d) (carried_point j m w a) (carried_point j m w b) → Passing (opp w) (opp f) d a b m j
is_passed w f d a b m j hj t = record {
  u = t.u;
  v = t.v;
  u_nn = t.u_nn;
  v_nn = t.v_nn;
  some = t.some;
  level = rw (cross_back w d, cross_back w a, cross_back w b)
      (opposite t.u t.v _ _ _ (unscaled j t.u t.v (cross w d) (cross w a) (cross w b) hj
      (rw (← cross_times j w d, ← cross_carried j m w a, ← cross_carried j m w b) t.level)));
  early = rw (product-opp f a, product-opp f b, product-opp f d, both_back f w)
      (early t.u t.v _ _ _ (product f d) (product f a) (product f b) (product f w) (product_times j f d)
      (product_carried j m f w a) (product_carried j m f w b) t.low);
}
  where
    cross_back : (w p : Pair) → cross (opp w) p ≡ neg_ℤ (cross w p)
    cross_back w p = rw (as_pair w, as_pair p) (simp difference_rules (difference-eq _ _ _ _ (omega arith)))

    opposite : (u v x y z : ℤ) → (u +ℤ v) *ℤ x ≡ u *ℤ y +ℤ v *ℤ z
        → (u +ℤ v) *ℤ neg_ℤ x ≡ u *ℤ neg_ℤ y +ℤ v *ℤ neg_ℤ z
    opposite u v x y z e = back (u +ℤ v) x ∙ ap neg_ℤ e ∙ sym (both u v y z)
      where
        back : (s x : ℤ) → s *ℤ neg_ℤ x ≡ neg_ℤ (s *ℤ x)
        back s x = rw (as_difference s, as_difference x) (simp difference_rules (difference-eq _ _ _ _ (omega arith)))

        both : (u v y z : ℤ) → u *ℤ neg_ℤ y +ℤ v *ℤ neg_ℤ z ≡ neg_ℤ (u *ℤ y +ℤ v *ℤ z)
        both u v y z = rw (as_difference u, as_difference v, as_difference y, as_difference z)
            (simp difference_rules (difference-eq _ _ _ _ (omega arith)))

    drawn : (j m u v x y z w : ℤ)
        → j *ℤ (u *ℤ (neg_ℤ y -ℤ neg_ℤ x) +ℤ v *ℤ (neg_ℤ z -ℤ neg_ℤ x)) -ℤ m *ℤ ((u +ℤ v) *ℤ w)
        ≡ (u +ℤ v) *ℤ (j *ℤ x) +ℤ (u *ℤ neg_ℤ (j *ℤ y +ℤ m *ℤ w) +ℤ v *ℤ neg_ℤ (j *ℤ z +ℤ m *ℤ w))
    drawn j m u v x y z w =
        rw (
          as_difference j,
          as_difference m,
          as_difference u,
          as_difference v,
          as_difference x,
          as_difference y,
          as_difference z,
          as_difference w,
        ) (simp difference_rules (difference-eq _ _ _ _ (omega arith)))

    no_more : (x y z : ℤ) → x -ℤ y ≡ z → z ≤ℤ pos 0 → x ≤ℤ y
    no_more x y z e h = omega (arith, ints)

    early : (u v p q r x y z w : ℤ) → p ≡ pos j *ℤ x → q ≡ pos j *ℤ y +ℤ pos m *ℤ w → r ≡ pos j *ℤ z +ℤ pos m *ℤ w
        → ((u +ℤ v) *ℤ p +ℤ (u *ℤ neg_ℤ q +ℤ v *ℤ neg_ℤ r)) ≤ℤ pos 0
        → (pos j *ℤ (u *ℤ (neg_ℤ y -ℤ neg_ℤ x) +ℤ v *ℤ (neg_ℤ z -ℤ neg_ℤ x))) ≤ℤ (pos m *ℤ ((u +ℤ v) *ℤ w))
    early u v p q r x y z w e f g l = no_more _ _ _ (drawn (pos j) (pos m) u v x y z w) (rw (e, f, g) at l)
