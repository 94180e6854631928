-- How many turns a change takes at most.
use Rattle.std.proofs.Common.{◌≡◌, ℕ, zero, suc, ◌+◌, ◌-◌, ◌*◌, ◌≤◌, refl, subst, arith}
use Rattle.bucket_tree.specs.Turns.{most_turns}

-- k forks more
rises : (k h : ℕ) → most_turns h ≤ most_turns (k + h)
rises zero h = let e : 0 + h ≡ h = omega arith in rw e (omega arith)
rises (suc k) h = let e : suc k + h ≡ suc (k + h) = omega arith in rw e (omega (arith, rises k h))

-- a higher tree takes as many
monotone : (g h : ℕ) → g ≤ h → most_turns g ≤ most_turns h
monotone g h l = let e : (h - g) + g ≡ h = omega arith in
    subst (λ (z : ℕ). most_turns g ≤ most_turns z) e (rises (h - g) g)

-- one fork above a part, which takes those of a rotation more
pub one_fork : (n l a b : ℕ) → l + 1 ≤ n → a ≤ most_turns l → b ≤ 16 * n + 96 → a + b ≤ most_turns n
one_fork zero l a b h u v = absurd (omega (arith, h))
one_fork (suc m) l a b h u v = omega (arith, u, v, monotone l m (omega (arith, h)))

-- a tree that is no higher than 28 forks takes at most this many
of_28 : most_turns 28 ≡ 9208
of_28 = refl

pub few_turns : (h : ℕ) → h ≤ 28 → most_turns h ≤ 9208
few_turns h l = omega (arith, of_28, monotone h 28 l)

-- so a change of a tree that is no higher takes no more
pub few_sum : (n l a b : ℕ) → l + 1 ≤ n → n ≤ 28 → a ≤ most_turns l → b ≤ 16 * n + 96 → a + b ≤ 9208
few_sum n l a b h k u v = let s = one_fork n l a b h u v in omega (arith, s, few_turns n k)

-- a part takes no more than the fork over it
pub below_fork : (n l a : ℕ) → l + 1 ≤ n → a ≤ most_turns l → a ≤ most_turns n
below_fork n l a h u = let s = one_fork n l a 0 h u (omega arith) in omega (arith, s)
