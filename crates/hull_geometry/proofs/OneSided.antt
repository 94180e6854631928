-- Points that are all before q, or all after it, are separated from q: along one side or the other, q is past them.
use Rattle.std.proofs.Common.{◌≡◌, ℕ, ℤ, pos, negsuc, ◌+ℤ◌, ◌*ℤ◌, ◌≤ℤ◌, ◌<ℤ◌, neg_ℤ, ◌⊎◌, inl, inr, sym, subst}
use Rattle.std.proofs.Common.{List, arith, zero, suc, ◌+◌, [], ◌∷◌}
use Rattle.std.specs.List.{All}
use Rattle.std.proofs.lemmas.Int.{ints}
use Rattle.std.proofs.lemmas.List.Elements.{All-weaker, All-cons, All-head, All-tail}
use Rattle.lattice.specs.Plane.{Pair, product}
use Rattle.lattice.specs.Polynomials.{difference-eq, as_difference, difference-add, difference-mul, difference_rules}
use Rattle.lattice.specs.Signs.{product_nn}
use Rattle.lattice.specs.declared.side.Side.{Side}
use Rattle.lattice.specs.declared.side.Side.TheVariants.{Lower, Upper}
use Rattle.hull_geometry.specs.Edges.{IsAlong}
use Rattle.lattice.proofs.Vectors.{as_pair, minus, opp, Ahead, ahead_nn}
use Rattle.hull_geometry.proofs.NotCovered.{Separated}
use Rattle.hull_geometry.proofs.Orientation.{above, ahead_of, behind_of}
use Rattle.hull_geometry.proofs.Separators.{nearer, sum_above_left}

-- the step from t on to q along the chain on a side, as a vector ahead
abbrev step : Side → Pair → Pair → Pair
step Lower t q = opp (minus t q)
step Upper t q = minus t q

-- the step is ahead if q comes after t
step_ahead : (side : Side) (t q : Pair) → IsAlong side t q → Ahead (step side t q)
step_ahead Lower t q h = behind_of t q h
step_ahead Upper t q h = ahead_of q t h

-- a steep direction
abbrev steep : Side → ℤ → Pair
steep Lower k = record { x = k; y = pos 1 }
steep Upper k = record { x = neg_ℤ k; y = negsuc 0 }

-- how far t is after q in this direction, by the step between them
product-steep : (side : Side) (k : ℤ) (t q : Pair)
    → product (opp (steep side k)) (minus t q) ≡ k *ℤ (step side t q).x +ℤ (step side t q).y
unfolding product
product-steep Lower k t q =
    rw (as_difference k, as_pair t, as_pair q, as_difference (negsuc 0))
    (simp difference_rules (difference-eq _ _ _ _ (omega arith)))
product-steep Upper k t q =
    rw (as_difference k, as_pair t, as_pair q, as_difference (pos 1))
    (simp difference_rules (difference-eq _ _ _ _ (omega arith)))

-- a number that lifts y above 0
abbrev lift : ℤ → ℕ
lift (pos n) = 0
lift (negsuc n) = n + 1

-- the number lifts y above 0
lift_is : (y : ℤ) → pos 0 ≤ℤ (pos (lift y) +ℤ y)
lift_is (pos n) = omega (arith, ints)
lift_is (negsuc n) = omega (arith, ints)

-- a product with a number above 0 is no smaller
times_more : (a x : ℤ) → pos 0 ≤ℤ a → pos 0 <ℤ x → a ≤ℤ (a *ℤ x)
times_more (pos m) (pos (suc n)) h k = omega (arith, ints)
times_more (pos m) (pos zero) h k = absurd (omega (arith, ints))
times_more (pos m) (negsuc n) h k = absurd (omega (arith, ints))
times_more (negsuc m) x h k = absurd (omega (arith, ints))

-- k lifts the vector of a point above 0
abbrev pub Lifts : (Pair → Pair) → ℤ → Pair → Type 0
Lifts f k t = pos 0 <ℤ (k *ℤ (f t).x +ℤ (f t).y)

-- one more vector is lifted
lifted : (k w x y : ℤ) → pos 0 ≤ℤ k → pos 0 <ℤ w → pos 0 <ℤ (w +ℤ y) → (pos 0 <ℤ x) ⊎ ((x ≡ pos 0) × (pos 0 <ℤ y))
    → pos 0 <ℤ ((k +ℤ w) *ℤ x +ℤ y)
lifted k w x y hk hw hy (inl h) = let m : (k +ℤ w) ≤ℤ ((k +ℤ w) *ℤ x) = times_more (k +ℤ w) x (omega (arith, ints)) h in
    omega (arith, ints)
lifted k w x y hk hw hy (inr h) =
    subst (λ (z : ℤ). pos 0 <ℤ ((k +ℤ w) *ℤ z +ℤ y)) (sym h.0) (rw (zero_right (k +ℤ w)) (omega (arith, ints, h.1)))
  where
    zero_right : (a : ℤ) → a *ℤ pos 0 ≡ pos 0
    zero_right a = omega (arith, ints)

-- the product with a sum distributes
distribute : (k w x y : ℤ) → (k +ℤ w) *ℤ x +ℤ y ≡ (k *ℤ x +ℤ y) +ℤ w *ℤ x
distribute k w x y =
    rw (as_difference k, as_difference w, as_difference x, as_difference y)
    (simp (difference-add, difference-mul) (difference-eq _ _ _ _ (omega arith)))

-- a vector that is lifted stays lifted by a greater number
lifted_more : (k w x y : ℤ) → pos 0 ≤ℤ w → pos 0 ≤ℤ x → pos 0 <ℤ (k *ℤ x +ℤ y) → pos 0 <ℤ ((k +ℤ w) *ℤ x +ℤ y)
lifted_more k w x y hw hx h = rw (distribute k w x y) (sum_above_left _ _ h (product_nn w x hw hx))

-- vectors that are all ahead can be lifted by one number
pub lifts_all : (f : Pair → Pair) (S : List Pair) → All (λ t. Ahead (f t)) S
    → (k : ℤ) × (pos 0 ≤ℤ k) × All (Lifts f k) S
lifts_all f [] h = (pos 0, omega (arith, ints), λ k d l. absurd (omega arith))
lifts_all f (t ∷ ts) h =
    let r = lifts_all f ts (All-tail (λ t. Ahead (f t)) t ts h) in
    let w : ℤ = pos (lift (f t).y + 1) in
    let w_above : pos 0 <ℤ w = omega (arith, ints) in
    let w_lifts : pos 0 <ℤ (w +ℤ (f t).y) = omega (arith, ints, lift_is (f t).y) in (
      r.0 +ℤ w,
      omega (arith, ints, r.1),
      All-cons (Lifts f (r.0 +ℤ w)) t ts
          (lifted r.0 w (f t).x (f t).y r.1 w_above w_lifts (All-head (λ t. Ahead (f t)) t ts h))
          (both ts (All-tail (λ t. Ahead (f t)) t ts h) r.0 w r.2 w_above),
    )
  where
    both : (us : List Pair) → All (λ t. Ahead (f t)) us → (k w : ℤ) → All (Lifts f k) us → pos 0 <ℤ w
        → All (Lifts f (k +ℤ w)) us
    both us a k w l hw = λ i d lt. lifted_more k w _ _ (omega (arith, ints)) (ahead_nn _ (a i d lt)) (l i d lt)

-- all points come before q along the chain on a side
pub past_separated : (side : Side) (S : List Pair) (q : Pair) → All (λ t. IsAlong side t q) S → Separated S q
past_separated side S q h =
    let r = lifts_all (λ t. step side t q) S
    (All-weaker (λ t. IsAlong side t q) (λ t. Ahead (step side t q)) (λ t. step_ahead side t q) S h) in (
      steep side r.0,
      All-weaker (Lifts (λ t. step side t q) r.0) (λ t. product (steep side r.0) t <ℤ product (steep side r.0) q)
          (λ t p. nearer (steep side r.0) t q (above _ _ (sym (product-steep side r.0 t q)) p)) S r.2,
    )
