-- each mask is that of its side
use Rattle.std.proofs.Common.{sym, subst}
use Rattle.lattice.specs.declared.side.Side.{Side}
use Rattle.lattice.specs.declared.side.Side.TheVariants.{Lower, Upper}
use Rattle.hull_buckets.specs.Buckets.{BucketValue, IsMaskOf}
use Rattle.hull_buckets.proofs.bucket.Bucket.vertices.Goals as goal

pub returns-in-Lower-clause-vertices : goal.returns-in-Lower-clause-vertices
returns-in-Lower-clause-vertices c =
    subst (λ (side : Side). IsMaskOf side c.args.self.now.points c.self.inside.lower) (sym c.in-Lower.is)
    (subst (λ (b : BucketValue). IsMaskOf Lower b.points c.self.inside.lower) c.self.view_is
    (c.self.invariant.1.vertices Lower))

pub returns-in-Upper-clause-vertices : goal.returns-in-Upper-clause-vertices
returns-in-Upper-clause-vertices c =
    subst (λ (side : Side). IsMaskOf side c.args.self.now.points c.self.inside.upper) (sym c.in-Upper.is)
    (subst (λ (b : BucketValue). IsMaskOf Upper b.points c.self.inside.upper) c.self.view_is
    (c.self.invariant.1.vertices Upper))
