-- The first of the points of a function of indices, by x and then y.
use Rattle.std.proofs.Common.{ℕ, ◌+◌, ◌<◌, arith, inl, inr, subst}
use Rattle.std.proofs.lemmas.Bool.{cases_lt}
use Rattle.lattice.specs.Plane.{Pair, IsBefore}
use Rattle.lattice.proofs.Order.{before_irrefl, before_trans}

-- none of the first n points is before the one at f
abbrev pub IsFirstOf : (ℕ → Pair) → ℕ → ℕ → Type 0
IsFirstOf P n f = (k : ℕ) → k < n → ¬ IsBefore (P k) (P f)

-- if the next point is not before it either, it stays
pub stays : (P : ℕ → Pair) (n f : ℕ) → IsFirstOf P n f → ¬ IsBefore (P n) (P f) → IsFirstOf P (n + 1) f
stays P n f h b k l = elim (cases_lt k n) [
  | inl m ↦ h k m
  | inr m ↦ subst (λ (z : ℕ). ¬ IsBefore (P z) (P f)) (omega (arith, l, m)) b
]

-- if the next point is before it, no point is before the next one
pub moves : (P : ℕ → Pair) (n f : ℕ) → IsFirstOf P n f → IsBefore (P n) (P f) → IsFirstOf P (n + 1) n
moves P n f h b k l = elim (cases_lt k n) [
  | inl m ↦ λ d. h k m (before_trans (P k) (P n) (P f) d b)
  | inr m ↦ subst (λ (z : ℕ). ¬ IsBefore (P z) (P n)) (omega (arith, l, m)) (before_irrefl (P n))
]
