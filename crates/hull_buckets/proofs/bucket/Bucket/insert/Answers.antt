-- both arrays and both chains take the point in
use Rattle.std.proofs.Common.{◌<◌, length, take, sym, ap, subst, ◌∙◌, arith, Err}
use Rattle.std.proofs.lemmas.List.{length-take-le}
use Rattle.lattice.specs.Covers.{with_point}
use Rattle.lattice.specs.declared.side.Side.TheVariants.{Lower, Upper}
use Rattle.hull_geometry.specs.Positions.{IsPositionOf}
use Rattle.hull_buckets.specs.Buckets.{BucketValue, seen}
use Rattle.hull_buckets.specs.declared.TheConstants.{BUCKET_SIZE}
use Rattle.hull_buckets.proofs.Changed.{grown_points, grown_set, grown_mask, grown}
use Rattle.hull_buckets.proofs.bucket.Bucket.insert.Goals as goal

pub with_vertex-self-inside-requires-clause-ordered : goal.with_vertex-self-inside-requires-clause-ordered
with_vertex-self-inside-requires-clause-ordered c =
    grown_set (take c.self.inside.len c.self.inside.points) _ c.args.point c.args.place c.self.invariant.1.ordered
    (subst (λ (b : BucketValue). IsPositionOf b.points c.args.point (Err c.args.place)) (sym c.self.view_is)
    c.requires.position) c.put_in.ensures.items

pub with_vertex-self-inside-requires-clause-mask : goal.with_vertex-self-inside-requires-clause-mask
with_vertex-self-inside-requires-clause-mask c =
    grown_mask Lower (take c.self.inside.len c.self.inside.points) _ c.args.point c.args.place c.self.inside.lower
    (subst (λ (b : BucketValue). IsPositionOf b.points c.args.point (Err c.args.place)) (sym c.self.view_is)
    c.requires.position) c.put_in.ensures.items (c.self.invariant.1.vertices Lower)

pub with_vertex-self-inside-requires-2-clause-ordered : goal.with_vertex-self-inside-requires-2-clause-ordered
with_vertex-self-inside-requires-2-clause-ordered c =
    grown_set (take c.self.inside.len c.self.inside.points) _ c.args.point c.args.place c.self.invariant.1.ordered
    (subst (λ (b : BucketValue). IsPositionOf b.points c.args.point (Err c.args.place)) (sym c.self.view_is)
    c.requires.position) c.put_in.ensures.items

pub with_vertex-self-inside-requires-2-clause-mask : goal.with_vertex-self-inside-requires-2-clause-mask
with_vertex-self-inside-requires-2-clause-mask c =
    grown_mask Upper (take c.self.inside.len c.self.inside.points) _ c.args.point c.args.place c.self.inside.upper
    (subst (λ (b : BucketValue). IsPositionOf b.points c.args.point (Err c.args.place)) (sym c.self.view_is)
    c.requires.position) c.put_in.ensures.items (c.self.invariant.1.vertices Upper)

pub invariant_of-self : goal.invariant_of-self
invariant_of-self c =
    let space : length (take c.self.inside.len c.self.inside.points) < BUCKET_SIZE =
    subst (λ (b : BucketValue). length b.points < BUCKET_SIZE) (sym c.self.view_is) c.requires.space in
    let n = length-take-le c.self.inside.len c.self.inside.multiplicities (omega (arith, c.self.invariant.0, c.self.invariant.2)) in
    let m = c.self.invariant.1.counted in (
      omega (arith, space, n, m),
      grown (seen c.self.inside.len c.self.inside.points c.self.inside.multiplicities c.self.inside.lower c.self.inside.upper) _
          _
          c.args.point c.args.place c.args.multiplicity _ _ c.self.invariant.1
          (subst (λ (b : BucketValue). IsPositionOf b.points c.args.point (Err c.args.place)) (sym c.self.view_is)
          c.requires.position) space c.requires.held c.put_in.ensures.items c.insert.ensures.first
          c.with_vertex-self-inside.ensures c.with_vertex-self-inside-2.ensures,
      c.insert.ensures.len,
    )

pub returns-clause-points : goal.returns-clause-points
returns-clause-points c =
    grown_points (take c.self.inside.len c.self.inside.points) _ c.args.point c.args.place c.self.invariant.1.ordered
    (subst (λ (b : BucketValue). IsPositionOf b.points c.args.point (Err c.args.place)) (sym c.self.view_is)
    c.requires.position) c.put_in.ensures.items
    ∙ ap (λ (b : BucketValue). with_point c.args.point b.points) c.self.view_is
