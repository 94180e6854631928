-- the answer for each point
use Rattle.std.proofs.Common.{◌≡◌, ℤ, to_z, of_z, w64, subst, arith}
use Rattle.std.proofs.lemmas.Int.{ints}
use Rattle.std.specs.Prelude.{◌↔◌, IsTrue}
use Rattle.motions.specs.Motions.{AllMoveInRange}
use Rattle.motions.specs.declared.motion.Motion.TheVariants.{Translation}
use Rattle.polygon_arrays.proofs.steps.are_in_range_after.Goals as goal

pub returns-else-are_blocks_below_limit : goal.returns-else-are_blocks_below_limit
returns-else-are_blocks_below_limit c =
    let Says : ℤ → ℤ → Type 0 = λ dx dy. IsTrue c.are_each_in_range_after.result ↔ AllMoveInRange (Translation dx dy) c.args.points.now in
    let x : to_z w64 (of_z w64 c.args.dx) ≡ c.args.dx = omega (arith, ints) in
    let y : to_z w64 (of_z w64 c.args.dy) ≡ c.args.dy = omega (arith, ints) in
    subst (λ (z : ℤ). Says z c.args.dy) x (subst (Says (to_z w64 (of_z w64 c.args.dx))) y c.are_each_in_range_after.ensures)
