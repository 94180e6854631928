-- Vectors of the plane.
use Rattle.std.proofs.Common.{◌≡◌, ℤ, pos, ◌+ℤ◌, ◌-ℤ◌, ◌*ℤ◌, ◌≤ℤ◌, ◌<ℤ◌, neg_ℤ, ◌⊎◌, inl, inr, refl, sym, subst, arith}
use Rattle.std.proofs.lemmas.Int.{ints}
use Rattle.lattice.specs.Plane.{Pair}
use Rattle.lattice.specs.Polynomials.{difference, as_difference, difference-eq, difference_rules}
use borrow.Author.Differences.{up, down}
use Rattle.lattice.specs.Signs.{le_or_lt, product_nn, product_pp, cancel_nn}

-- a pair of whole numbers is a pair of differences of naturals, for identities over coordinates
pub as_pair : (p : Pair) → p ≡ record { x = difference (up p.x) (down p.x); y = difference (up p.y) (down p.y) }
as_pair p = rw (← as_difference p.x, ← as_difference p.y) refl

-- the step from q to p
abbrev pub minus : Pair → Pair → Pair
minus p q = record { x = p.x -ℤ q.x; y = p.y -ℤ q.y }

-- a vector backwards
abbrev pub opp : Pair → Pair
opp u = record { x = neg_ℤ u.x; y = neg_ℤ u.y }

-- twice the area between two vectors
abbrev pub cross : Pair → Pair → ℤ
cross u v = u.x *ℤ v.y -ℤ u.y *ℤ v.x

-- ahead of the origin in the order "before"
abbrev pub Ahead : Pair → Type 0
Ahead u = (pos 0 <ℤ u.x) ⊎ ((u.x ≡ pos 0) × (pos 0 <ℤ u.y))

-- the identity of three vectors
plucker : (u v w : Pair) → cross u w *ℤ v.x ≡ cross u v *ℤ w.x +ℤ cross v w *ℤ u.x
plucker u v w = rw (as_pair u, as_pair v, as_pair w) (simp difference_rules (difference-eq _ _ _ _ (omega arith)))

-- the first vector backwards
pub cross-opp_left : (u v : Pair) → cross (opp u) v ≡ cross v u
cross-opp_left u v = rw (as_pair u, as_pair v) (simp difference_rules (difference-eq _ _ _ _ (omega arith)))

-- the second vector backwards
pub cross-opp_right : (u v : Pair) → cross u (opp v) ≡ cross v u
cross-opp_right u v = rw (as_pair u, as_pair v) (simp difference_rules (difference-eq _ _ _ _ (omega arith)))

-- both vectors backwards
pub cross-opp : (u v : Pair) → cross (opp u) (opp v) ≡ cross u v
cross-opp u v = rw (as_pair u, as_pair v) (simp difference_rules (difference-eq _ _ _ _ (omega arith)))

-- the vectors exchanged
pub cross_swap : (u v : Pair) → cross u v ≡ neg_ℤ (cross v u)
cross_swap u v = rw (as_pair u, as_pair v) (simp difference_rules (difference-eq _ _ _ _ (omega arith)))

-- a vector ahead does not go left
pub ahead_nn : (u : Pair) → Ahead u → pos 0 ≤ℤ u.x
ahead_nn u (inl h) = omega (arith, ints)
ahead_nn u (inr h) = omega (arith, ints)

-- a sum of two numbers that are not negative is not negative
sum_nn : (a b c : ℤ) → c ≡ a +ℤ b → pos 0 ≤ℤ a → pos 0 ≤ℤ b → pos 0 ≤ℤ c
sum_nn a b c e h k = omega (arith, ints)

-- bends to the left compose if v = (0, vy) with vy > 0
vertical : (u w : Pair) (vy : ℤ) → pos 0 ≤ℤ u.x → pos 0 <ℤ vy → Ahead w
    → pos 0 ≤ℤ cross (record { x = pos 0; y = vy }) w → pos 0 ≤ℤ cross u w
vertical u w vy hu v (inl h) vw = absurd (let p : pos 0 <ℤ (vy *ℤ w.x) = product_pp vy w.x v h in omega (arith, ints))
vertical u w vy hu v (inr h) vw =
    let p : pos 0 ≤ℤ (u.x *ℤ w.y) = product_nn u.x w.y hu (omega (arith, ints, h.1)) in
    subst (λ (z : ℤ). pos 0 ≤ℤ (u.x *ℤ w.y -ℤ u.y *ℤ z)) (sym h.0) (omega (arith, ints))

-- bends to the left, in the half of the plane ahead, compose
pub cross_trans : (u v w : Pair) → Ahead u → Ahead v → Ahead w → pos 0 ≤ℤ cross u v → pos 0 ≤ℤ cross v w
    → pos 0 ≤ℤ cross u w
cross_trans u v w hu (inl h) hw uv vw =
    cancel_nn (cross u w) v.x h
    (sum_nn (cross u v *ℤ w.x) (cross v w *ℤ u.x) _ (plucker u v w) (product_nn _ w.x uv (ahead_nn w hw))
    (product_nn _ u.x vw (ahead_nn u hu)))
cross_trans u v w hu (inr h) hw uv vw =
    vertical u w v.y (ahead_nn u hu) h.1 hw (subst (λ (z : ℤ). pos 0 ≤ℤ (z *ℤ w.y -ℤ v.y *ℤ w.x)) h.0 vw)

-- the same, strictly, if the first bend is strict
pub cross_trans_strict : (u v w : Pair) → Ahead u → Ahead v → Ahead w → pos 0 <ℤ cross u v → pos 0 ≤ℤ cross v w
    → pos 0 <ℤ cross u w
cross_trans_strict u v w hu hv hw uv vw =
    elim (le_or_lt (cross u w) (pos 0)) [
      | inl h ↦ let k : pos 0 ≤ℤ cross w u = rw (cross_swap w u) (omega (arith, ints)) in
          let n : pos 0 ≤ℤ cross v u = cross_trans v w u hv hw hu vw k in
          absurd (let e = cross_swap u v in omega (arith, ints))
      | inr h ↦ h
    ]

-- the same, strictly, if the second bend is strict
pub cross_trans_strict_right : (u v w : Pair) → Ahead u → Ahead v → Ahead w → pos 0 ≤ℤ cross u v → pos 0 <ℤ cross v w
    → pos 0 <ℤ cross u w
cross_trans_strict_right u v w hu hv hw uv vw =
    elim (le_or_lt (cross u w) (pos 0)) [
      | inl h ↦ let k : pos 0 ≤ℤ cross w u = rw (cross_swap w u) (omega (arith, ints)) in
          let n : pos 0 ≤ℤ cross w v = cross_trans w u v hw hu hv k uv in
          absurd (let e = cross_swap v w in omega (arith, ints))
      | inr h ↦ h
    ]
