-- one more point stays in range
use Rattle.std.proofs.Common.{◌∙◌, ℕ, get_or, to_z, of_z, w64, inl, inr, subst, arith, ap, refl}
use Rattle.std.proofs.lemmas.Bool.{cases_lt}
use Rattle.lattice.specs.Plane.{Pair, IsInRange}
use Rattle.hull_geometry.proofs.PointLists.{get_or_free}
use Rattle.motions.specs.Motions.{translated}
use Rattle.polygon_arrays.proofs.steps.are_each_in_range_after.Goals as goal

pub loop-p-preserved : goal.loop-p-preserved
loop-p-preserved c = λ k d l. elim (cases_lt k c.loop-p.p-index) [
  | inl m ↦ c.loop-p.invariant k d m
  | inr m ↦ subst (λ (z : Pair). IsInRange (translated (to_z w64 (of_z w64 c.args.dx)) (to_z w64 (of_z w64 c.args.dy)) z))
      (c.p-item.is ∙ get_or_free c.args.points.now c.loop-p.p-index c.p-item.result d c.loop-p-test.true
      ∙ ap (λ (i : ℕ). get_or c.args.points.now i d) (omega (arith, l, m)))
      (c.if-not-is_in_range_after.ensures.0 refl)
]
