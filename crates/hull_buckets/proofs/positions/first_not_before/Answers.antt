-- a point before p is passed, and no point after one that is not before p is
use Rattle.std.proofs.Common.{◌<◌, length, refl, arith}
use Rattle.std.proofs.lemmas.Bool.{false≢true}
use Rattle.hull_geometry.proofs.FoundPositions.{below_up_to, rest_from}
use Rattle.hull_buckets.proofs.positions.first_not_before.Goals as goal

pub loop-place-preserved : goal.loop-place-preserved
loop-place-preserved c =
    let l : c.loop-place.place < length c.args.points.now = omega (arith, c.loop-place-test.true) in
    record {
      inside = omega (arith, l);
      below = below_up_to c.args.points.now c.args.p c.index-points-place.result c.loop-place.place c.requires.ordered l
          c.index-points-place.is (c.if-before.ensures.0 refl);
    }

pub returns-else-before-clause-rest : goal.returns-else-before-clause-rest
returns-else-before-clause-rest c =
    rest_from c.args.points.now c.args.p c.index-points-place.result c.loop-place.place c.requires.ordered
    (omega (arith, c.loop-place-test.true)) c.index-points-place.is (λ k. false≢true (c.if-before.ensures.1 k))
