-- both arrays and both chains let the point go
use Rattle.std.proofs.Common.{◌<◌, length, take, sym, ap, subst, ◌∙◌, arith}
use Rattle.lattice.specs.Covers.{without_point}
use Rattle.lattice.specs.declared.side.Side.TheVariants.{Lower, Upper}
use Rattle.hull_geometry.specs.Positions.{point_at}
use Rattle.hull_buckets.specs.Buckets.{BucketValue, seen}
use Rattle.hull_buckets.proofs.Changed.{shrunk_points, was_mask, shrunk}
use Rattle.hull_buckets.proofs.bucket.Bucket.remove.Goals as goal

pub without_vertex-self-inside-requires : goal.without_vertex-self-inside-requires
without_vertex-self-inside-requires c =
    was_mask Lower
    (seen c.self.inside.len c.self.inside.points c.self.inside.multiplicities c.self.inside.lower c.self.inside.upper) _
    c.args.place c.self.inside.lower c.self.invariant.1
    (subst (λ (b : BucketValue). c.args.place < length b.points) (sym c.self.view_is) c.requires.within)
    c.drain.ensures.items (c.self.invariant.1.vertices Lower)

pub without_vertex-self-inside-requires-2 : goal.without_vertex-self-inside-requires-2
without_vertex-self-inside-requires-2 c =
    was_mask Upper
    (seen c.self.inside.len c.self.inside.points c.self.inside.multiplicities c.self.inside.lower c.self.inside.upper) _
    c.args.place c.self.inside.upper c.self.invariant.1
    (subst (λ (b : BucketValue). c.args.place < length b.points) (sym c.self.view_is) c.requires.within)
    c.drain.ensures.items (c.self.invariant.1.vertices Upper)

pub invariant_of-self : goal.invariant_of-self
invariant_of-self c = (
  omega (arith, c.self.invariant.0),
  shrunk (seen c.self.inside.len c.self.inside.points c.self.inside.multiplicities c.self.inside.lower c.self.inside.upper) _ _
      c.args.place _ _ c.self.invariant.1
      (subst (λ (b : BucketValue). c.args.place < length b.points) (sym c.self.view_is) c.requires.within)
      (subst (λ (b : BucketValue). 1 < length b.points) (sym c.self.view_is) c.requires.others)
      c.drain.ensures.items c.remove.ensures.first c.without_vertex-self-inside.ensures
      c.without_vertex-self-inside-2.ensures,
  c.remove.ensures.len,
)

pub returns-clause-points : goal.returns-clause-points
returns-clause-points c =
    shrunk_points (take c.self.inside.len c.self.inside.points) _ c.args.place c.self.invariant.1.ordered
    (subst (λ (b : BucketValue). c.args.place < length b.points) (sym c.self.view_is) c.requires.within)
    c.drain.ensures.items
    ∙ ap (λ (b : BucketValue). without_point (point_at b.points c.args.place) b.points) c.self.view_is
