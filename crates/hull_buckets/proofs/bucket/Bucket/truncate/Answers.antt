-- the first of the first points
use Rattle.std.proofs.Common.{◌≤◌, ◌<◌, List, length, take, sym, subst, arith}
use Rattle.std.proofs.lemmas.List.{length-take-le}
use Rattle.lattice.specs.Plane.{Pair}
use Rattle.lattice.specs.declared.side.Side.TheVariants.{Lower, Upper}
use Rattle.hull_buckets.specs.Buckets.{BucketValue, IsMaskOf, seen}
use Rattle.hull_buckets.proofs.Changed.{cut_short, first_of_first}
use Rattle.hull_buckets.proofs.bucket.Bucket.truncate.Goals as goal

pub invariant_of-self : goal.invariant_of-self
invariant_of-self c =
    let b = c.self.invariant.1 in
    let within : c.args.len < length (take c.self.inside.len c.self.inside.points) =
    subst (λ (b : BucketValue). c.args.len < length b.points) (sym c.self.view_is) c.requires.within in
    let n = length-take-le c.self.inside.len c.self.inside.multiplicities (omega (arith, c.self.invariant.0, c.self.invariant.2)) in
    let m = b.counted in
    let few = b.few in
    let short : c.args.len ≤ c.self.inside.len = omega (arith, within, n, m) in
    let same = first_of_first c.args.len c.self.inside.len c.self.inside.points short in (
      omega (arith, within, few),
      cut_short (seen c.self.inside.len c.self.inside.points c.self.inside.multiplicities c.self.inside.lower
          c.self.inside.upper)
          _ _ c.args.len _ _ b c.requires.some (omega (arith, within))
          (sym same)
          (sym (first_of_first c.args.len c.self.inside.len c.self.inside.multiplicities short))
          (subst (λ (z : List Pair). IsMaskOf Lower z c.vertices_before-self-inside.result) same
          c.vertices_before-self-inside.ensures)
          (subst (λ (z : List Pair). IsMaskOf Upper z c.vertices_before-self-inside-2.result) same
          c.vertices_before-self-inside-2.ensures),
      c.self.invariant.2,
    )

pub vertices_before-self-inside-requires-clause-mask : goal.vertices_before-self-inside-requires-clause-mask
vertices_before-self-inside-requires-clause-mask c = c.self.invariant.1.vertices Lower

pub vertices_before-self-inside-requires-2-clause-mask : goal.vertices_before-self-inside-requires-2-clause-mask
vertices_before-self-inside-requires-2-clause-mask c = c.self.invariant.1.vertices Upper
