-- one more block stays in range
use Rattle.std.proofs.Common.{◌+◌, ◌*◌, ◌/◌, to_z, of_z, w64, inl, inr, length, get_or, arith, refl}
use Rattle.std.proofs.lemmas.Bool.{cases_lt}
use Rattle.std.proofs.lemmas.Int.{ints}
use Rattle.lattice.specs.Plane.{IsInRange}
use Rattle.motions.specs.Motions.{translated}
use Rattle.polygon_arrays.proofs.Blocks.{in_part}
use Rattle.polygon_arrays.proofs.steps.are_blocks_below_limit.Goals as goal

pub loop-i-preserved : goal.loop-i-preserved
loop-i-preserved c = λ k d l. elim (cases_lt k (c.loop-i.i * 8)) [
  | inl m ↦ c.loop-i.invariant k d m
  | inr m ↦ in_part (λ p. IsInRange (translated (to_z w64 (of_z w64 c.args.dx)) (to_z w64 (of_z w64 c.args.dy)) p)) c.args.points.now
      (c.loop-i.i * 8) (c.loop-i.i * 8 + 8) (omega (arith, c.loop-i-test.true)) (c.if-not-are_below_limit.ensures refl) k d m (omega (arith, l))
]

pub returns : goal.returns
returns c = λ g k d l.
    let same : IsInRange (translated (to_z w64 (of_z w64 c.args.dx)) (to_z w64 (of_z w64 c.args.dy)) (get_or c.args.points.now k d))
    → IsInRange (translated c.args.dx c.args.dy (get_or c.args.points.now k d)) =
    λ h. ((omega (arith, ints, h.0.0), omega (arith, ints, h.0.1)), (omega (arith, ints, h.1.0), omega (arith, ints, h.1.1))) in
    elim (cases_lt k (c.loop-i.i * 8)) [
      | inl m ↦ same (c.loop-i.invariant k d m)
      | inr m ↦ same (in_part (λ p. IsInRange (translated (to_z w64 (of_z w64 c.args.dx)) (to_z w64 (of_z w64 c.args.dy)) p)) c.args.points.now
          (length c.args.points.now / 8 * 8) (length c.args.points.now) (omega arith) (c.are_below_limit-2.ensures g) k d
          (omega (arith, m, c.loop-i-test.false, c.loop-i.auto.i-end)) l)
    ]
