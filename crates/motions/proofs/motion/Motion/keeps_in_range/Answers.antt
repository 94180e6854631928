-- one more point stays in range
use Rattle.std.proofs.Common.{◌≡◌, ◌∙◌, ℕ, get_or, true, Option, Some, None, MatchOption, inl, inr, subst, arith, ap}
use Rattle.std.specs.Option.{is_some}
use Rattle.std.proofs.lemmas.Bool.{cases_lt}
use Rattle.lattice.specs.Plane.{Pair, IsInRange}
use Rattle.hull_geometry.proofs.PointLists.{get_or_free}
use Rattle.motions.specs.Motions.{moved}
use Rattle.motions.proofs.motion.Motion.keeps_in_range.Goals as goal

-- a point that was returned is in range
in_range : (r : Option Pair) (q : Pair) → is_some r ≡ true → MatchOption r (¬ IsInRange q) (λ p. (p ≡ q) × IsInRange q) → IsInRange q
in_range None q e h = cc
in_range (Some p) q e h = h.1

pub loop-p-preserved : goal.loop-p-preserved
loop-p-preserved c = λ k d l. elim (cases_lt k c.loop-p.p-index) [
  | inl m ↦ c.loop-p.invariant k d m
  | inr m ↦ subst (λ (z : Pair). IsInRange (moved c.args.self.now z))
      (c.p-item.is ∙ get_or_free c.args.points.now c.loop-p.p-index c.p-item.result d c.loop-p-test.true
      ∙ ap (λ (i : ℕ). get_or c.args.points.now i d) (omega (arith, l, m)))
      (in_range c.apply.result (moved c.args.self.now c.p-item.result) c.if-is_none.ensures c.apply.ensures)
]
