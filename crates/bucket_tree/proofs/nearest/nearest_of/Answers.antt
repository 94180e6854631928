-- one more point was looked at
use Rattle.bucket_tree.proofs.NearestPoints.{one_nearer}
use Rattle.bucket_tree.proofs.nearest.nearest_of.Goals as goal

pub loop-i-preserved : goal.loop-i-preserved
loop-i-preserved c = record {
  nearest = one_nearer c.args.q c.args.best.now.point c.loop-i.found.point c.nearer_of-found.result.point c.index-points-i.result
      c.args.points.now c.loop-i.i c.loop-i-test.true c.index-points-i.is c.loop-i.invariant.nearest c.nearer_of-found.ensures.nearest;
  squared = c.nearer_of-found.ensures.squared;
}
