-- A balanced tree of a given height has at least this many points (Adelson-Velsky and Landis, 1962), so the height of one of 2^20 points is at most
-- 28.
use Rattle.std.proofs.lemmas.Grind.{common_steps}
use Rattle.std.proofs.Common.{◌≡◌, ℕ, zero, suc, ◌+◌, ◌-◌, ◌≤◌, max, refl, subst, arith, inl, inr}
use Rattle.std.proofs.lemmas.Bool.{cases_lt}

-- the fewest points of a balanced tree of height h, and of one that is one higher
abbrev pub fewest : ℕ → ℕ × ℕ
fewest zero = (1, 2)
fewest (suc h) = ((fewest h).1, (fewest h).0 + (fewest h).1)

-- a higher tree has as many
grows : (h : ℕ) → (fewest h).0 ≤ (fewest h).1
grows zero = omega arith
grows (suc h) = omega arith

-- at least one
pub one : (h : ℕ) → 1 ≤ (fewest h).0
one zero = omega arith
one (suc h) = omega (arith, one h, grows h)

-- k higher
rises : (k h : ℕ) → (fewest h).0 ≤ (fewest (k + h)).0
rises zero h = let e : 0 + h ≡ h = omega arith in rw e (omega arith)
rises (suc k) h = let e : suc k + h ≡ suc (k + h) = omega arith in rw e (omega (arith, rises k h, grows (k + h)))

-- the fewest points do not fall with the height
monotone : (g h : ℕ) → g ≤ h → (fewest g).0 ≤ (fewest h).0
monotone g h l = let e : (h - g) + g ≡ h = omega arith in
    subst (λ (z : ℕ). (fewest g).0 ≤ (fewest z).0) e (rises (h - g) g)

-- a fork over a half of height a and one that is at most one lower
fork_step : (a b : ℕ) → a ≤ b + 1 → (fewest a).1 ≤ (fewest a).0 + (fewest b).0
fork_step zero b l = omega (arith, one b)
fork_step (suc a) b l = omega (arith, monotone a b (omega arith))

-- a fork over halves with m and n points
pub over : (a b m n : ℕ) → (a ≤ b + 1) × (b ≤ a + 1) → (fewest a).0 ≤ m → (fewest b).0 ≤ n → (fewest (max a b + 1)).0 ≤ m + n
over a b m n d h k = grind (arith, common_steps, cases_lt, max, suc, fork_step)

-- more than 2^20 points are needed for a height of 29
of_29 : (fewest 29).0 ≡ 1346269
of_29 = refl

-- with no more than 2^20 points it is no higher than 28
pub at_most_28 : (h n : ℕ) → (fewest h).0 ≤ n → n ≤ 1048576 → h ≤ 28
at_most_28 h n e l =
    elim (cases_lt 28 h) [
      | inr k ↦ k
      | inl k ↦ absurd (let m : (fewest 29).0 ≤ (fewest h).0 = monotone 29 h k in omega (arith, of_29, e, l, m))
    ]
