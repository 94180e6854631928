-- the tree with its vertices is asked
use Rattle.std.proofs.Common.{subst}
use Rattle.std.proofs.Math.Facts.{to_z-of_z}
use Rattle.bucket_tree.specs.Sets.{LimitedTree, bucket_set}
use Rattle.hull_reply.specs.Served.{IsAnswered}
use Rattle.hull_c.proofs.Asked.{of_prepared}
use Rattle.hull_c.proofs.calls.any_call.Goals as goal

pub returns : goal.returns
returns c =
    let e = of_prepared c.args.kind _ _ c.hull.inside.set c.serve.new.set c.serve.result c.serve.ensures in
    subst (λ (t : LimitedTree). IsAnswered bucket_set c.args.kind c.args.x c.args.y t c.serve.new.set.set c.serve.result) c.hull.view_is
    (rw (to_z-of_z c.ranges.x, to_z-of_z c.ranges.y) at e)
