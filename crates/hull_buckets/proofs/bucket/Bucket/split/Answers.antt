-- the masks are those of the points
use Rattle.std.proofs.Common.{List, subst, sym}
use Rattle.lattice.specs.Plane.{Pair}
use Rattle.lattice.specs.declared.side.Side.TheVariants.{Lower, Upper}
use Rattle.hull_buckets.specs.Buckets.{BucketValue, IsMaskOf}
use Rattle.hull_buckets.proofs.bucket.Bucket.split.Goals as goal

pub vertices_from-requires-clause-mask : goal.vertices_from-requires-clause-mask
vertices_from-requires-clause-mask c =
    subst (λ (z : List Pair). IsMaskOf Lower z c.self.inside.lower) (sym c.points-points.ensures.points)
    (subst (λ (b : BucketValue). IsMaskOf Lower b.points c.self.inside.lower) c.self.view_is (c.self.invariant.1.vertices Lower))

pub vertices_from-requires-2-clause-mask : goal.vertices_from-requires-2-clause-mask
vertices_from-requires-2-clause-mask c =
    subst (λ (z : List Pair). IsMaskOf Upper z c.self.inside.upper) (sym c.points-points.ensures.points)
    (subst (λ (b : BucketValue). IsMaskOf Upper b.points c.self.inside.upper) c.self.view_is (c.self.invariant.1.vertices Upper))
