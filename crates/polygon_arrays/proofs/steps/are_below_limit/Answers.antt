-- one more point stays in range
use Rattle.std.proofs.Common.{◌≡◌, ◌∙◌, ℕ, ◌+◌, ◌<◌, ◌+ℤ◌, get_or, to_z, of_z, w64, inl, inr, subst, arith, ap}
use Rattle.std.proofs.lemmas.Bool.{cases_lt}
use Rattle.std.proofs.lemmas.Int.{ints}
use Rattle.lattice.specs.Plane.{Pair, IsCoordinate}
use Rattle.hull_geometry.proofs.PointLists.{get_or_free}
use Rattle.polygon_arrays.proofs.Bits.{low_l, low_r}
use Rattle.polygon_arrays.proofs.steps.are_below_limit.Goals as goal

pub loop-p-preserved : goal.loop-p-preserved
loop-p-preserved c =
    let at : (k : ℕ) (d : Pair) → k < c.loop-p.p-index + 1 → c.loop-p.p-index < k + 1 → c.p-item.result ≡ get_or c.args.points.now k d =
    λ k d l m. c.p-item.is ∙ get_or_free c.args.points.now c.loop-p.p-index c.p-item.result d c.loop-p-test.true
    ∙ ap (λ (i : ℕ). get_or c.args.points.now i d) (omega (arith, l, m)) in
    let x_is : c.p.inside.x ≡ c.p-item.result.x = ap (λ (z : Pair). z.x) c.p.view_is in
    let y_is : c.p.inside.y ≡ c.p-item.result.y = ap (λ (z : Pair). z.y) c.p.view_is in
    record {
      x = λ h k d l. elim (cases_lt k c.loop-p.p-index) [
        | inl m ↦ c.loop-p.invariant.x (low_l c.loop-p.x_bits c.raised-x_bits.result h) k d m
        | inr m ↦ subst (λ (z : Pair). IsCoordinate (z.x +ℤ to_z w64 (of_z w64 c.args.dx))) (at k d l (omega (arith, m)))
            (let e = c.raised-x_bits.ensures (low_r c.loop-p.x_bits c.raised-x_bits.result h) in
            (omega (arith, ints, x_is, e.0), omega (arith, ints, x_is, e.1)))
      ];
      y = λ h k d l. elim (cases_lt k c.loop-p.p-index) [
        | inl m ↦ c.loop-p.invariant.y (low_l c.loop-p.y_bits c.raised-y_bits.result h) k d m
        | inr m ↦ subst (λ (z : Pair). IsCoordinate (z.y +ℤ to_z w64 (of_z w64 c.args.dy))) (at k d l (omega (arith, m)))
            (let e = c.raised-y_bits.ensures (low_r c.loop-p.y_bits c.raised-y_bits.result h) in
            (omega (arith, ints, y_is, e.0), omega (arith, ints, y_is, e.1)))
      ];
    }
