-- How far a point lies in a direction, relative to a line that rises or falls in it.
use Rattle.std.proofs.Common.{◌≡◌, ℤ, pos, ◌+ℤ◌, ◌-ℤ◌, ◌*ℤ◌, ◌≤ℤ◌, ◌<ℤ◌, neg_ℤ, inl, inr, refl, sym, ap, ◌∙◌, arith}
use Rattle.std.proofs.lemmas.Int.{ints}
use Rattle.lattice.specs.Plane.{Pair, product, IsBefore}
use Rattle.lattice.specs.Polynomials.{difference-eq, difference_rules}
use Rattle.lattice.specs.Signs.{le_or_lt, product_nn, product_pp, product_np}
use Rattle.lattice.proofs.Vectors.{as_pair, minus, opp, cross, Ahead, ahead_nn}
use Rattle.lattice.proofs.Numbers.{less_not_le}
use Rattle.lattice.specs.Orientations.{orient_on}
use Rattle.lattice.specs.declared.side.Side.{Side}
use Rattle.lattice.specs.declared.side.Side.TheVariants.{Lower, Upper}
use Rattle.hull_geometry.specs.Runs.{opposite}
use Rattle.hull_geometry.specs.Tangents.{Faces}
use Rattle.hull_geometry.proofs.Orientation.{ahead_of, at_least}
use Rattle.hull_geometry.proofs.Orientations.{wedge, orient_on_by_start, orient_on_by_last}

-- the products of a direction with two vectors, weighted by their first components, differ by their side
weigh_right : (d w t : Pair) → product d t *ℤ w.x +ℤ d.y *ℤ cross t w ≡ product d w *ℤ t.x
unfolding product
weigh_right d w t = rw (as_pair d, as_pair w, as_pair t) (simp difference_rules (difference-eq _ _ _ _ (omega arith)))

-- the same by the other side
weigh_left : (d w t : Pair) → product d t *ℤ w.x ≡ product d w *ℤ t.x +ℤ d.y *ℤ cross w t
unfolding product
weigh_left d w t = rw (as_pair d, as_pair w, as_pair t) (simp difference_rules (difference-eq _ _ _ _ (omega arith)))

-- how far a vector goes that goes straight up
upright : (d w : Pair) → w.x ≡ pos 0 → product d w ≡ d.y *ℤ w.y
unfolding product
upright d w e = ap (λ (z : ℤ). d.x *ℤ z +ℤ d.y *ℤ w.y) e ∙ omega (arith, ints)

-- if d goes up and w goes no farther, a vector ahead on the right of w goes no farther
rises : (d w t : Pair) → pos 0 <ℤ d.y → Ahead w → Ahead t → pos 0 ≤ℤ cross t w → product d w ≤ℤ pos 0
    → product d t ≤ℤ pos 0
rises d w t up (inr h) ht side far =
    let k : pos 0 <ℤ (d.y *ℤ w.y) = product_pp d.y w.y up h.1 in
    let e = upright d w h.0 in
    absurd (omega (arith, ints))
rises d w t up (inl h) ht side far =
    elim (le_or_lt (product d t) (pos 0)) [
      | inl k ↦ k
      | inr k ↦
          let a : pos 0 <ℤ (product d t *ℤ w.x) = product_pp (product d t) w.x k h in
          let b : pos 0 ≤ℤ (d.y *ℤ cross t w) = product_nn d.y (cross t w) (omega (arith, ints)) side in
          let c : (product d w *ℤ t.x) ≤ℤ pos 0 = product_np (product d w) t.x far (ahead_nn t ht) in
          let e = weigh_right d w t in
          absurd (omega (arith, ints))
    ]

-- if d does not go up and w goes no farther, a vector ahead on the left of w goes no farther
falls : (d w t : Pair) → d.y ≤ℤ pos 0 → Ahead w → Ahead t → pos 0 ≤ℤ cross w t → product d w ≤ℤ pos 0
    → product d t ≤ℤ pos 0
falls d w t down (inl h) ht side far =
    elim (le_or_lt (product d t) (pos 0)) [
      | inl k ↦ k
      | inr k ↦
          let a : pos 0 <ℤ (product d t *ℤ w.x) = product_pp (product d t) w.x k h in
          let b : (d.y *ℤ cross w t) ≤ℤ pos 0 = product_np d.y (cross w t) down side in
          let c : (product d w *ℤ t.x) ≤ℤ pos 0 = product_np (product d w) t.x far (ahead_nn t ht) in
          let e = weigh_left d w t in
          absurd (omega (arith, ints))
    ]
falls d w t down (inr h) (inl k) side far =
    let a : pos 0 <ℤ (w.y *ℤ t.x) = product_pp w.y t.x h.1 k in
    let e : w.x *ℤ t.y ≡ pos 0 = ap (λ (z : ℤ). z *ℤ t.y) h.0 ∙ omega (arith, ints) in
    absurd (omega (arith, ints))
falls d w t down (inr h) (inr k) side far =
    let a : (d.y *ℤ t.y) ≤ℤ pos 0 = product_np d.y t.y down (omega (arith, ints, k.1)) in
    let e = upright d t k.0 in
    omega (arith, ints)

-- how much farther t lies than p
pub product-step : (d p t : Pair) → product d (minus t p) ≡ product d t -ℤ product d p
unfolding product
product-step d p t =
    rw (as_pair d, as_pair p, as_pair t) (simp difference_rules (difference-eq _ _ _ _ (omega arith)))

-- if the step from p to t goes no farther, t is no farther
no_farther : (d p t : Pair) → product d (minus t p) ≤ℤ pos 0 → product d t ≤ℤ product d p
no_farther d p t h = let e = product-step d p t in omega (arith, ints)

-- if t is no farther than p, the step from p to t goes no farther
step_back : (d p t : Pair) → product d t ≤ℤ product d p → product d (minus t p) ≤ℤ pos 0
step_back d p t h = let e = product-step d p t in omega (arith, ints)

-- if d faces a side and w goes no farther, a vector ahead on the inner side of w goes no farther
no_gain : (side : Side) (d w t : Pair) → Faces side d → Ahead w → Ahead t → pos 0 ≤ℤ wedge side w t
    → product d w ≤ℤ pos 0 → product d t ≤ℤ pos 0
no_gain Lower d w t down = falls d w t down
no_gain Upper d w t up = rises d w t up

-- a point inwards of the line pq and after p is no farther than p if q is no farther than p
pub stays : (side : Side) (d p q t : Pair) → Faces side d → IsBefore p q → IsBefore p t → pos 0 ≤ℤ orient_on side p q t
    → product d q ≤ℤ product d p → product d t ≤ℤ product d p
stays side d p q t faces pq pt o f =
    no_farther d p t (no_gain side d (minus q p) (minus t p) faces (ahead_of p q pq) (ahead_of p t pt)
    (at_least _ _ (orient_on_by_start side p q t) o) (step_back d p q f))

-- a point inwards of the line pq and before q is less far than q if p is less far than q
pub goes : (side : Side) (d p q t : Pair) → Faces side d → IsBefore p q → IsBefore t q → pos 0 ≤ℤ orient_on side p q t
    → product d p <ℤ product d q → product d t <ℤ product d q
goes side d p q t faces pq tq o f =
    elim (le_or_lt (product d q) (product d t)) [
      | inr k ↦ k
      | inl k ↦ absurd (less_not_le _ _ f
          (no_farther d p q (no_gain side d (minus q t) (minus q p) faces (ahead_of t q tq) (ahead_of p q pq)
          (at_least _ _ (orient_on_by_last side p q t) o) (step_back d t q k))))
    ]

-- how far the opposite vector goes is the negation
pub product-opp : (d w : Pair) → product (opp d) w ≡ neg_ℤ (product d w)
unfolding product
product-opp d w = rw (as_pair d, as_pair w) (simp difference_rules (difference-eq _ _ _ _ (omega arith)))

-- the steps of a bend, exchanged, have the same bend on the other side
other_wedge : (side : Side) (u v : Pair) → wedge (opposite side) u v ≡ wedge side v u
other_wedge Lower u v = refl
other_wedge Upper u v = refl

-- a point inwards of the line pq and after p is less far than p if q is less far than p, and the opposite of d faces
-- the other side
pub drops : (side : Side) (d p q t : Pair) → Faces (opposite side) (opp d) → IsBefore p q → IsBefore p t
    → pos 0 ≤ℤ orient_on side p q t → product d q <ℤ product d p → product d t <ℤ product d p
drops side d p q t faces pq pt o f =
    elim (le_or_lt (product d p) (product d t)) [
      | inr k ↦ k
      | inl k ↦ absurd (back _ _ (product-opp d (minus q p)) (product-step d p q) f
          (no_gain (opposite side) (opp d) (minus t p) (minus q p) faces (ahead_of p t pt) (ahead_of p q pq)
          (at_least _ _ (orient_on_by_start side p q t ∙ sym (other_wedge side (minus t p) (minus q p))) o)
          (forth _ _ (product-opp d (minus t p)) (product-step d p t) k)))
    ]
  where
    forth : (x y : ℤ) {a b : ℤ} → x ≡ neg_ℤ y → y ≡ a -ℤ b → b ≤ℤ a → x ≤ℤ pos 0
    forth x y e f h = omega (arith, ints)

    back : (x y : ℤ) {a b : ℤ} → x ≡ neg_ℤ y → y ≡ a -ℤ b → a <ℤ b → x ≤ℤ pos 0 → ⊥
    back x y e f h k = omega (arith, ints)
