-- a point between the stored ends is between two points
use Rattle.bucket_tree.specs.Nodes.{points_below}
use Rattle.bucket_tree.proofs.Gained.{passed}
use Rattle.bucket_tree.proofs.InPlace.{between_ends}
use Rattle.bucket_tree.proofs.NodePoints.{some_below}
use Rattle.bucket_tree.proofs.renewal.renew_ends_around.Goals as goal

pub returns-then-before-2-clause-between : goal.returns-then-before-2-clause-between
returns-then-before-2-clause-between c = λ _.
    between_ends c.args.p (points_below c.args.node.now) c.args.ends.now (some_below c.args.node.now c.requires.buckets)
    c.requires.kept (passed _ c.before-2.ensures.0 c.if-before.true) (passed _ c.before-then-before.ensures.0 c.if-before-2.true)
