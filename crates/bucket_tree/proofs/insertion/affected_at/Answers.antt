-- on each side, by the vertices of the bucket
use Rattle.std.proofs.Common.{subst}
use Rattle.lattice.specs.declared.side.Side.TheVariants.{Lower, Upper}
use Rattle.hull_buckets.specs.Buckets.{IsCovered}
use Rattle.bucket_tree.proofs.Kept.{closing}
use Rattle.bucket_tree.proofs.insertion.affected_at.Goals as goal

pub returns : goal.returns
returns c =
    closing c.args.p c.args.bucket.now.points record { lower = c.is_vertex.result; upper = c.is_vertex-2.result }
    (λ e. subst (λ z. IsCovered Lower z c.args.bucket.now.points) c.requires.there (c.is_vertex.ensures e))
    (λ e. subst (λ z. IsCovered Upper z c.args.bucket.now.points) c.requires.there (c.is_vertex-2.ensures e))
