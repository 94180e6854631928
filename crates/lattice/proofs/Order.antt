-- The order "before" of points.
use Rattle.std.proofs.Common.{◌≡◌, ℤ, ◌≤ℤ◌, ◌<ℤ◌, ◌⊎◌, inl, inr, refl, ap, ◌∙◌, subst, arith, true, false}
use Rattle.std.proofs.Common.{◌≢◌}
use Rattle.std.specs.Prelude.{int_lt}
use Rattle.std.proofs.lemmas.Int.{ints}
use Rattle.lattice.specs.Covers.{is_before}
use Rattle.lattice.specs.Plane.{Pair, IsBefore}
use Rattle.lattice.specs.Signs.{le_or_lt}

-- the order is transitive
pub before_trans : (p q r : Pair) → IsBefore p q → IsBefore q r → IsBefore p r
before_trans p q r (inl h) (inl k) = inl (omega (arith, ints))
before_trans p q r (inl h) (inr k) = inl (omega (arith, ints, k.0))
before_trans p q r (inr h) (inl k) = inl (omega (arith, ints, h.0))
before_trans p q r (inr h) (inr k) = inr (h.0 ∙ k.0, omega (arith, ints, h.1, k.1))

-- no point is before itself
pub before_irrefl : (p : Pair) → ¬ (IsBefore p p)
before_irrefl p (inl h) = omega (arith, ints)
before_irrefl p (inr h) = omega (arith, ints, h.1)

-- the point of two coordinates
abbrev pub couple : ℤ → ℤ → Pair
couple x y = record { x = x; y = y }

-- points with equal coordinates are equal
pub same_pair : (p q : Pair) → p.x ≡ q.x → p.y ≡ q.y → p ≡ q
same_pair p q ex ey = ap (λ (z : ℤ). couple z p.y) ex ∙ ap (λ (z : ℤ). couple q.x z) ey

-- of two points one is before the other, or they are one
pub before_total : (p q : Pair) → IsBefore p q ⊎ ((p ≡ q) ⊎ IsBefore q p)
before_total p q =
    elim (le_or_lt q.x p.x) [
      | inr h ↦ inl (inl h)
      | inl h ↦ elim (le_or_lt p.x q.x) [
        | inr k ↦ inr (inr (inl k))
        | inl k ↦ elim (le_or_lt q.y p.y) [
          | inr m ↦ inl (inr (omega (arith, ints), m))
          | inl m ↦ elim (le_or_lt p.y q.y) [
            | inr n ↦ inr (inr (inr (omega (arith, ints), n)))
            | inl n ↦ inr (inl (same_pair p q (omega (arith, ints)) (omega (arith, ints))))
          ]
        ]
      ]
    ]

-- a comparison that holds computes to true
int_lt-true : (a b : ℤ) → a <ℤ b → int_lt a b ≡ true
int_lt-true a b h = grind (arith, ints)

-- a comparison that does not hold computes to false
int_lt-false : (a b : ℤ) → b ≤ℤ a → int_lt a b ≡ false
int_lt-false a b h = grind (arith, ints)

-- the test is true if p is before q
pub is_before-true : (p q : Pair) → IsBefore p q → is_before p q ≡ true
is_before-true p q (inl h) = rw (int_lt-true p.x q.x h) refl
is_before-true p q (inr h) =
    rw (
      int_lt-false p.x q.x (omega (arith, ints, h.0)),
      int_lt-false q.x p.x (omega (arith, ints, h.0)),
      int_lt-true p.y q.y h.1,
    ) refl

-- the test is false if p is not before q
pub is_before-false : (p q : Pair) → ¬ (IsBefore p q) → is_before p q ≡ false
is_before-false p q n =
    elim (before_total p q) [
      | inl h ↦ absurd (n h)
      | inr (inl e) ↦ rw e
          (rw (int_lt-false q.x q.x (omega (arith, ints)), int_lt-false q.y q.y (omega (arith, ints))) refl)
      | inr (inr h) ↦ after h
    ]
  where
    after : IsBefore q p → is_before p q ≡ false
    after (inl h) = rw (int_lt-false p.x q.x (omega (arith, ints)), int_lt-true q.x p.x h) refl
    after (inr h) = rw (
      int_lt-false p.x q.x (omega (arith, ints, h.0)),
      int_lt-false q.x p.x (omega (arith, ints, h.0)),
      int_lt-false p.y q.y (omega (arith, ints, h.1)),
    ) refl

-- two points are not each before the other
pub before_not : (p q : Pair) → IsBefore p q → ¬ (IsBefore q p)
before_not p q h k = before_irrefl p (before_trans p q p h k)

-- two points are equal if neither is before the other
pub equal_by : (t u : Pair) → ¬ (IsBefore t u) → ¬ (IsBefore u t) → t ≡ u
equal_by t u h k = elim (before_total t u) [ inl b ↦ absurd (h b) | inr (inl e) ↦ e | inr (inr b) ↦ absurd (k b) ]

-- a point before another is not equal to it
pub before_apart : (u v : Pair) → IsBefore u v → u ≢ v
before_apart u v b e = before_irrefl v (subst (λ (z : Pair). IsBefore z v) e b)

-- a point after another is not equal to it
pub after_apart : (u v : Pair) → IsBefore v u → u ≢ v
after_apart u v b e = before_irrefl v (subst (IsBefore v) e b)
