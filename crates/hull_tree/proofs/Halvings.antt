-- The height of a tree that is built by halves: halves of two numbers of points that differ by at most one differ in
-- height by at most one.
use Rattle.std.proofs.Common.{◌≡◌, ℕ, zero, suc, ◌+◌, ◌*◌, ◌^◌, ◌<◌, ◌≤◌, max, arith, inl, inr}
use Rattle.std.proofs.Math.Nat.{pow-succ', pow-le-pow_right, one-le-pow}
use Rattle.hull_tree.specs.Nodes.{DifferByAtMost}
use Rattle.hull_tree.specs.Loaded.{IsHalvings}
use Rattle.std.proofs.lemmas.Bool.{cases_lt}

-- powers of two do not fall
powers : (a b : ℕ) → a ≤ b → 2 ^ a ≤ 2 ^ b
powers a b l = pow-le-pow_right (omega arith) l

-- one more doubles it
doubled : (a : ℕ) → 2 ^ suc a ≡ 2 * 2 ^ a
doubled a = pow-succ' 2 a

-- it is at least one
some : (a : ℕ) → 1 ≤ 2 ^ a
some a = one-le-pow a 2 (omega arith)

-- more points are no lower
in_order : (m k a b : ℕ) → m ≤ k → IsHalvings m a → IsHalvings k b → a ≤ b
in_order m k a b l h g =
    elim (cases_lt b a) [
      | inr i ↦ i
      | inl i ↦ absurd (omega (arith, h.1, g.0, powers (suc b) a i, doubled b))
    ]

-- one point more is at most one higher
near : (m k a b : ℕ) → k ≤ m + 1 → IsHalvings m a → IsHalvings k b → b ≤ a + 1
near m k a b l h g =
    elim (cases_lt (suc a) b) [
      | inr i ↦ omega (arith, i)
      | inl i ↦ absurd (omega (arith, h.0, g.1, powers (suc (suc a)) b i, doubled (suc a), doubled a, some a))
    ]

-- the power below the sum of both halves
below : (m k b : ℕ) → 1 ≤ m → m ≤ k → k ≤ m + 1 → IsHalvings k b → 2 ^ b < m + k
below m k zero i l n g = omega (arith)
below m k (suc b) i l n g = omega (arith, g.1, doubled b)

-- two halves fit one another, and the fork over them is as high as both numbers together ask
pub over_halves : (m k a b : ℕ) → 1 ≤ m → m ≤ k → k ≤ m + 1 → IsHalvings m a → IsHalvings k b
    → DifferByAtMost 1 a b × IsHalvings (m + k) (max a b + 1)
over_halves m k a b i l n h g =
    let u : a ≤ b = in_order m k a b l h g in
    let v : b ≤ a + 1 = near m k a b n h g in
    let e : max a b + 1 ≡ suc b = omega arith in
    ((omega arith, v), rw e (rw (doubled b) (omega (arith, g.0), omega (arith, below m k b i l n g))))
