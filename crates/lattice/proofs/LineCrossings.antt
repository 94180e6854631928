-- The crossing of the lines of two edges, compared with a point: the last two cases of the search.
use Rattle.std.proofs.Common.{◌≡◌, sym, ap, ◌∙◌, arith, ◌⊎◌, inl, inr, ⊎_elim, subst}
use Rattle.std.proofs.lemmas.Int.{by_lt_z}
use lib.IntN.{ℤ, pos, ◌+ℤ◌, ◌-ℤ◌, ◌*ℤ◌, neg_ℤ, *ℤ-zero, +ℤ_idl}
use lib.Signed.{◌<ℤ◌, ◌≤ℤ◌}
use Rattle.lattice.specs.Plane.{Pair, orient, IsBefore}
use Rattle.lattice.specs.Crossing.{s1, s2, IsCrossingAtOrBefore, IsCrossingAfter}
use Rattle.lattice.specs.Integers.{linear, ring_laws, neg_mul_l}
use Rattle.lattice.specs.Signs.{product_nn}
use Rattle.lattice.proofs.Lines.{IsPositive, IsNonnegative, scale_positive, scale_nonnegative, no_sum, bend, slope_x}
use Rattle.lattice.proofs.Lines.{slope_y, step_positive}

-- ---- sides of an edge's own ends, and the six orders of three points
pub orient_end : (a b : Pair) → orient a b b ≡ pos 0
unfolding orient
orient_end a b = simp ring_laws (omega (arith, linear))

-- a point lies on a line from itself
pub orient_start : (a b : Pair) → orient a b a ≡ pos 0
unfolding orient
orient_start a b = simp ring_laws (omega (arith, linear))

-- the side does not depend on the vertex at which the triangle begins
pub orient_cycle : (a b c : Pair) → orient a b c ≡ orient b c a
unfolding orient
orient_cycle a b c = simp ring_laws (omega (arith, linear))

-- the side changes its sign with the direction
pub orient_other : (a b c : Pair) → orient b a c ≡ neg_ℤ (orient a b c)
unfolding orient
orient_other a b c = simp ring_laws (omega (arith, linear))

-- the bend of two lines is the negated sum of the two sides
bend_is : (a b c d : Pair) → bend a b c d ≡ neg_ℤ (s1 a b c d +ℤ s2 a b c d)
unfolding bend orient
bend_is a b c d = simp ring_laws (omega (arith, linear))

-- the vector from the crossing to q, times s
abbrev excess : ℤ → ℤ → ℤ → ℤ → ℤ → ℤ
excess u v dx cx qx = (u +ℤ v) *ℤ qx -ℤ (u *ℤ dx +ℤ v *ℤ cx)

-- one rearrangement of the identity below
regroup : (g1 g2 u v dx cx qx w : ℤ)
    → (g1 -ℤ u) *ℤ (dx -ℤ cx) +ℤ (pos 0 -ℤ g2) *ℤ w +ℤ neg_ℤ (u +ℤ v) *ℤ (cx -ℤ qx)
    ≡ g1 *ℤ (dx -ℤ cx) +ℤ neg_ℤ g2 *ℤ w +ℤ excess u v dx cx qx
regroup g1 g2 u v dx cx qx w = simp (ring_laws, +ℤ_idl) (omega (arith, linear))

-- how far q is from the crossing, by x
cross_x : (a b c d q : Pair)
    → orient a b q *ℤ (d.x -ℤ c.x) +ℤ neg_ℤ (orient c d q) *ℤ (b.x -ℤ a.x) +ℤ excess (s1 a b c d)
    (s2 a b c d) d.x c.x q.x ≡ pos 0
cross_x a b c d q =
    sym (regroup (orient a b q) (orient c d q) (s1 a b c d) (s2 a b c d) d.x c.x q.x (b.x -ℤ a.x))
    ∙ (rw (orient_start c d, bend_is a b c d) at (slope_x a b c d q c))

-- how far q is from the crossing, by y
cross_y : (a b c d q : Pair)
    → orient a b q *ℤ (d.y -ℤ c.y) +ℤ neg_ℤ (orient c d q) *ℤ (b.y -ℤ a.y) +ℤ excess (s1 a b c d)
    (s2 a b c d) d.y c.y q.y ≡ pos 0
cross_y a b c d q =
    sym (regroup (orient a b q) (orient c d q) (s1 a b c d) (s2 a b c d) d.y c.y q.y (b.y -ℤ a.y))
    ∙ (rw (orient_start c d, bend_is a b c d) at (slope_y a b c d q c))

-- a before b before c before d, c under ab and b under cd: s is positive
pub bend_negative : (a b c d : Pair) → IsBefore a b → IsBefore b c → IsBefore c d → orient a b c <ℤ pos 0
    → orient c d b <ℤ pos 0 → bend a b c d <ℤ pos 0
bend_negative a b c d hab hbc hcd g1 g2 =
    let e1 : orient a b b ≡ pos 0 = orient_end a b in
    let e2 : orient c d c ≡ pos 0 = orient_start c d in
    by_lt_z (bend a b c d) (pos 0) (λ done. done)
    (λ up. absurd (no_sum (orient a b b -ℤ orient a b c) (orient c d c -ℤ orient c d b) (d.x -ℤ c.x) (d.y -ℤ c.y)
    (b.x -ℤ a.x) (b.y -ℤ a.y) (bend a b c d *ℤ (c.x -ℤ b.x)) (bend a b c d *ℤ (c.y -ℤ b.y))
    (step_positive c d hcd) (step_positive a b hab) (omega (arith, linear)) (omega (arith, linear))
    (scale_nonnegative (bend a b c d) (c.x -ℤ b.x) (c.y -ℤ b.y) up (step_positive b c hbc))
    (slope_x a b c d b c) (slope_y a b c d b c) (inl (omega (arith, linear)))))

-- two lines that both bend right have a crossing
pub s_positive : (a b c d : Pair) → IsBefore a b → IsBefore b c → IsBefore c d → orient a b c <ℤ pos 0
    → orient c d b <ℤ pos 0 → pos 0 <ℤ (s1 a b c d +ℤ s2 a b c d)
s_positive a b c d hab hbc hcd g1 g2 = omega (arith, linear, bend_negative a b c d hab hbc hcd g1 g2, bend_is a b c d)

-- a product and the same product negated cancel
cancels : (u v : ℤ) → u *ℤ v +ℤ neg_ℤ v *ℤ u ≡ pos 0
cancels u v = simp ring_laws (omega (arith, linear))

-- the point between c and d with the weights of the crossing is on the line ab
crossing_side : (a b c d : Pair) → s1 a b c d *ℤ orient a b d +ℤ s2 a b c d *ℤ orient a b c ≡ pos 0
crossing_side a b c d =
    ap (λ (z : ℤ). orient a b c *ℤ orient a b d +ℤ z *ℤ orient a b c) (orient_other a b d)
    ∙ cancels (orient a b c) (orient a b d)

-- the crossing of two lines that bend right is a point, and on both lines
pub crossing_on_both : (a b c d : Pair) → IsBefore a b → IsBefore b c → IsBefore c d → orient a b c <ℤ pos 0
    → orient b c d <ℤ pos 0
    → (pos 0 <ℤ (s1 a b c d +ℤ s2 a b c d)) × (s1 a b c d *ℤ orient a b d +ℤ s2 a b c d *ℤ orient a b c ≡ pos 0)
crossing_on_both a b c d hab hbc hcd g1 g2 =
    (s_positive a b c d hab hbc hcd g1 (omega (arith, linear, orient_cycle b c d)), crossing_side a b c d)

-- ---- sums of vectors in the order by x, then by y
add_nonnegative : (ax ay bx by : ℤ) → IsNonnegative ax ay → IsNonnegative bx by → IsNonnegative (ax +ℤ bx) (ay +ℤ by)
add_nonnegative ax ay bx by (inl a) (inl b) = inl (omega (arith, linear))
add_nonnegative ax ay bx by (inl a) (inr b) = inl (omega (arith, linear))
add_nonnegative ax ay bx by (inr a) (inl b) = inl (omega (arith, linear))
add_nonnegative ax ay bx by (inr a) (inr b) = inr (omega (arith, linear))

-- a positive vector plus one that is not negative is positive
add_positive : (ax ay bx by : ℤ) → IsPositive ax ay → IsNonnegative bx by → IsPositive (ax +ℤ bx) (ay +ℤ by)
add_positive ax ay bx by (inl a) (inl b) = inl (omega (arith, linear))
add_positive ax ay bx by (inl a) (inr b) = inl (omega (arith, linear))
add_positive ax ay bx by (inr a) (inl b) = inl (omega (arith, linear))
add_positive ax ay bx by (inr a) (inr b) = inr (omega (arith, linear))

-- a positive vector is not negative
weaken : (ux uy : ℤ) → IsPositive ux uy → IsNonnegative ux uy
weaken ux uy (inl h) = inl h
weaken ux uy (inr h) = inr (h.0, omega (arith, linear, h.1))

-- a vector that is not negative, times a number that is not, is not negative
scale_both : (k ux uy : ℤ) → pos 0 ≤ℤ k → IsNonnegative ux uy → IsNonnegative (k *ℤ ux) (k *ℤ uy)
scale_both k ux uy h (inl u) = scale_nonnegative k ux uy h (inl u)
scale_both k ux uy h (inr u) = inr (ap (λ (z : ℤ). k *ℤ z) u.0 ∙ *ℤ-zero k, product_nn _ _ h u.1)

-- the step from m to q is not negative if q is not before m
pub step_nonnegative : (m q : Pair) → (IsBefore q m → ⊥) → IsNonnegative (q.x -ℤ m.x) (q.y -ℤ m.y)
step_nonnegative m q n =
    by_lt_z m.x q.x (λ h. inl (omega (arith, linear)))
    (λ h. by_lt_z q.x m.x (λ g. absurd (n (inl g)))
    (λ g. let e : q.x ≡ m.x = omega (arith, linear) in
    by_lt_z q.y m.y (λ k. absurd (n (inr (e, k)))) (λ k. inr (omega (arith, linear)))))

-- the excess at q is that at m plus s times the step
excess_step : (u v dx cx mx qx : ℤ) → excess u v dx cx mx +ℤ (u +ℤ v) *ℤ (qx -ℤ mx) ≡ excess u v dx cx qx
excess_step u v dx cx mx qx = simp ring_laws (omega (arith, linear))

-- the excess at c is - s1 times the edge, so at q it is that plus s times the step from c
excess_from : (u v dx cx qx : ℤ) → neg_ℤ u *ℤ (dx -ℤ cx) +ℤ (u +ℤ v) *ℤ (qx -ℤ cx) ≡ excess u v dx cx qx
excess_from u v dx cx qx = simp ring_laws (omega (arith, linear))

-- a fact of two numbers holds under other names of these numbers
two : (P : ℤ → ℤ → Type 0) {a b c d : ℤ} → a ≡ c → b ≡ d → P a b → P c d
two P {a} {b} {c} {d} e f h = subst (λ (z : ℤ). P z d) e (subst (λ (w : ℤ). P a w) f h)

-- if the crossing is at or before m, and q, not before m, is not under ab and not over cd, then q is on cd, before c
pub right_of_crossing : (a b c d m q : Pair) → IsBefore a b → IsBefore b c → IsBefore c d → orient a b c <ℤ pos 0
    → orient c d b <ℤ pos 0 → IsCrossingAtOrBefore a b c d m → (IsBefore q m → ⊥) → pos 0 ≤ℤ orient a b q
    → orient c d q ≤ℤ pos 0 → (orient c d q ≡ pos 0 → IsBefore q c → ⊥) → ⊥
right_of_crossing a b c d m q hab hbc hcd g1 g2 at_m mq gq1 gq2 tie =
    let s_pos : pos 0 <ℤ (s1 a b c d +ℤ s2 a b c d) = s_positive a b c d hab hbc hcd g1 g2 in
    let s_non : pos 0 ≤ℤ (s1 a b c d +ℤ s2 a b c d) = omega (arith, linear) in
    let at_m' : IsNonnegative (excess (s1 a b c d) (s2 a b c d) d.x c.x m.x)
    (excess (s1 a b c d) (s2 a b c d) d.y c.y m.y) =
    ⊎_elim (λ h. inl (omega (arith, linear))) (λ h. inr (omega (arith, linear))) at_m
    in
    let at_q : IsNonnegative (excess (s1 a b c d) (s2 a b c d) d.x c.x q.x)
    (excess (s1 a b c d) (s2 a b c d) d.y c.y q.y) =
    two IsNonnegative (excess_step (s1 a b c d) (s2 a b c d) d.x c.x m.x q.x)
    (excess_step (s1 a b c d) (s2 a b c d) d.y c.y m.y q.y)
    (add_nonnegative (excess (s1 a b c d) (s2 a b c d) d.x c.x m.x) (excess (s1 a b c d) (s2 a b c d) d.y c.y m.y)
    ((s1 a b c d +ℤ s2 a b c d) *ℤ (q.x -ℤ m.x)) ((s1 a b c d +ℤ s2 a b c d) *ℤ (q.y -ℤ m.y)) at_m'
    (scale_both (s1 a b c d +ℤ s2 a b c d) (q.x -ℤ m.x) (q.y -ℤ m.y) s_non (step_nonnegative m q mq)))
    in
    let end : (pos 0 <ℤ orient a b q)
    ⊎ ((pos 0 <ℤ neg_ℤ (orient c d q))
    ⊎ IsPositive (excess (s1 a b c d) (s2 a b c d) d.x c.x q.x)
    (excess (s1 a b c d) (s2 a b c d) d.y c.y q.y)) → ⊥ = λ s.
    no_sum (orient a b q) (neg_ℤ (orient c d q)) (d.x -ℤ c.x) (d.y -ℤ c.y) (b.x -ℤ a.x) (b.y -ℤ a.y)
    (excess (s1 a b c d) (s2 a b c d) d.x c.x q.x) (excess (s1 a b c d) (s2 a b c d) d.y c.y q.y)
    (step_positive c d hcd) (step_positive a b hab) gq1 (omega (arith, linear)) at_q (cross_x a b c d q)
    (cross_y a b c d q) s
    in
    by_lt_z (orient c d q) (pos 0)
    (λ h. end (inr (inl (omega (arith, linear)))))
    (λ h. end (inr (inr (two IsPositive (excess_from (s1 a b c d) (s2 a b c d) d.x c.x q.x)
    (excess_from (s1 a b c d) (s2 a b c d) d.y c.y q.y)
    (add_positive (neg_ℤ (s1 a b c d) *ℤ (d.x -ℤ c.x)) (neg_ℤ (s1 a b c d) *ℤ (d.y -ℤ c.y))
    ((s1 a b c d +ℤ s2 a b c d) *ℤ (q.x -ℤ c.x)) ((s1 a b c d +ℤ s2 a b c d) *ℤ (q.y -ℤ c.y))
    (scale_positive (neg_ℤ (s1 a b c d)) (d.x -ℤ c.x) (d.y -ℤ c.y) (omega (arith, linear)) (step_positive c d hcd))
    (scale_both (s1 a b c d +ℤ s2 a b c d) (q.x -ℤ c.x) (q.y -ℤ c.y) s_non
    (step_nonnegative c q (tie (omega (arith, linear))))))))))

-- if the crossing is after m, and p, before m, is not over ab, then p is under cd
pub left_of_crossing : (a b c d m p : Pair) → IsBefore a b → IsBefore b c → IsBefore c d → orient a b c <ℤ pos 0
    → orient c d b <ℤ pos 0 → IsCrossingAfter a b c d m → IsBefore p m → orient a b p ≤ℤ pos 0 → orient c d p <ℤ pos 0
left_of_crossing a b c d m p hab hbc hcd g1 g2 after pm gp1 =
    let s_pos : pos 0 <ℤ (s1 a b c d +ℤ s2 a b c d) = s_positive a b c d hab hbc hcd g1 g2 in
    let s_non : pos 0 ≤ℤ (s1 a b c d +ℤ s2 a b c d) = omega (arith, linear) in
    let at_m : IsPositive (neg_ℤ (excess (s1 a b c d) (s2 a b c d) d.x c.x m.x))
    (neg_ℤ (excess (s1 a b c d) (s2 a b c d) d.y c.y m.y)) =
    ⊎_elim (λ h. inl (omega (arith, linear))) (λ h. inr (omega (arith, linear))) after
    in
    let at_p : IsPositive (neg_ℤ (excess (s1 a b c d) (s2 a b c d) d.x c.x p.x))
    (neg_ℤ (excess (s1 a b c d) (s2 a b c d) d.y c.y p.y)) =
    two IsPositive (excess_back (s1 a b c d) (s2 a b c d) d.x c.x m.x p.x)
    (excess_back (s1 a b c d) (s2 a b c d) d.y c.y m.y p.y)
    (add_positive (neg_ℤ (excess (s1 a b c d) (s2 a b c d) d.x c.x m.x))
    (neg_ℤ (excess (s1 a b c d) (s2 a b c d) d.y c.y m.y)) ((s1 a b c d +ℤ s2 a b c d) *ℤ (m.x -ℤ p.x))
    ((s1 a b c d +ℤ s2 a b c d) *ℤ (m.y -ℤ p.y)) at_m
    (scale_nonnegative (s1 a b c d +ℤ s2 a b c d) (m.x -ℤ p.x) (m.y -ℤ p.y) s_non (step_positive p m pm)))
    in
    by_lt_z (orient c d p) (pos 0) (λ done. done)
    (λ h. absurd (no_sum (neg_ℤ (orient a b p)) (orient c d p) (d.x -ℤ c.x) (d.y -ℤ c.y) (b.x -ℤ a.x) (b.y -ℤ a.y)
    (neg_ℤ (excess (s1 a b c d) (s2 a b c d) d.x c.x p.x)) (neg_ℤ (excess (s1 a b c d) (s2 a b c d) d.y c.y p.y))
    (step_positive c d hcd) (step_positive a b hab) (omega (arith, linear)) h
    (weaken (neg_ℤ (excess (s1 a b c d) (s2 a b c d) d.x c.x p.x))
    (neg_ℤ (excess (s1 a b c d) (s2 a b c d) d.y c.y p.y)) at_p)
    (turned (orient a b p) (orient c d p) (d.x -ℤ c.x) (b.x -ℤ a.x) (excess (s1 a b c d) (s2 a b c d) d.x c.x p.x)
    (cross_x a b c d p))
    (turned (orient a b p) (orient c d p) (d.y -ℤ c.y) (b.y -ℤ a.y) (excess (s1 a b c d) (s2 a b c d) d.y c.y p.y)
    (cross_y a b c d p))
    (inr (inr at_p))))
  where
    excess_back : (u v dx cx mx px : ℤ)
        → neg_ℤ (excess u v dx cx mx) +ℤ (u +ℤ v) *ℤ (mx -ℤ px) ≡ neg_ℤ (excess u v dx cx px)
    excess_back u v dx cx mx px = simp ring_laws (omega (arith, linear))

    turned : (g1 g2 v w e : ℤ) → g1 *ℤ v +ℤ neg_ℤ g2 *ℤ w +ℤ e ≡ pos 0 → neg_ℤ g1 *ℤ v +ℤ g2 *ℤ w +ℤ neg_ℤ e ≡ pos 0
    turned g1 g2 v w e h = omega (arith, linear, neg_mul_l g1 v, neg_mul_l g2 w)
