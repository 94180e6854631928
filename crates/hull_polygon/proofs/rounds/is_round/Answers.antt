-- each index that was passed goes on and bends left
use Rattle.std.proofs.Common.{ℕ, ◌+◌, ◌<◌, inl, inr, subst, arith}
use Rattle.std.proofs.lemmas.Bool.{cases_lt}
use Rattle.hull_polygon.proofs.rounds.is_round.Goals as goal

-- a property of all numbers below n and of n is one of all numbers below n + 1
one_more : (P : ℕ → Type 0) (n k : ℕ) → ((k : ℕ) → k < n → P k) → P n → k < n + 1 → P k
one_more P n k h p l = elim (cases_lt k n) [ inl b ↦ h k b | inr b ↦ subst P (omega (arith, b, l)) p ]

pub loop-i-preserved : goal.loop-i-preserved
loop-i-preserved c = record {
  steps = λ k l. one_more _ c.loop-i.i k c.loop-i.invariant.steps (c.goes_on.ensures.0 c.if-not-goes_on.false) l;
  bends = λ k l. one_more _ c.loop-i.i k c.loop-i.invariant.bends (c.bends.ensures.0 c.if-not-bends.false) l;
}
