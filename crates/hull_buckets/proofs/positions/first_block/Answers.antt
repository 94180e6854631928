-- a block whose last point is before p is passed, and no point after one that is not before p is
use Rattle.std.proofs.Common.{◌+◌, ◌-◌, ◌<◌, ℕ, length, take, refl, subst, arith}
use Rattle.std.proofs.lemmas.Bool.{false≢true}
use Rattle.std.specs.List.{All}
use Rattle.lattice.specs.Plane.{IsBefore}
use Rattle.hull_geometry.proofs.FoundPositions.{below_up_to, rest_from}
use Rattle.hull_buckets.proofs.positions.first_block.Goals as goal

pub loop-start-preserved : goal.loop-start-preserved
loop-start-preserved c =
    let last : ℕ = c.loop-start.start + 8 - 1 in
    let l : last < length c.args.points.now = omega (arith, c.loop-start-test.true) in
    record {
      inside = omega (arith, l);
      whole = omega (arith, c.loop-start.invariant.whole);
      below = subst (λ (n : ℕ). All (λ t. IsBefore t c.args.p) (take n c.args.points.now)) (omega arith)
          (below_up_to c.args.points.now c.args.p c.index-points-start.result last c.requires.ordered l c.index-points-start.is
          (c.if-before.ensures.0 refl));
    }

pub returns-else-before-clause-rest : goal.returns-else-before-clause-rest
returns-else-before-clause-rest c =
    rest_from c.args.points.now c.args.p c.index-points-start.result (c.loop-start.start + 8 - 1) c.requires.ordered
    (omega (arith, c.loop-start-test.true)) c.index-points-start.is (λ k. false≢true (c.if-before.ensures.1 k))
