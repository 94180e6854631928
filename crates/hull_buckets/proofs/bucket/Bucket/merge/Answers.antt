-- the second bucket's points are after the first's
use Rattle.std.proofs.Common.{◌≡◌, ℕ, ◌≤◌, ◌+◌, List, length, take, sym, ap, subst, ◌∙◌, arith}
use Rattle.std.proofs.lemmas.List.{length-take-le}
use Rattle.std.specs.List.{Contains}
use Rattle.lattice.specs.Bridges.{IsAllBefore}
use Rattle.lattice.specs.Plane.{Pair}
use Rattle.hull_buckets.specs.Buckets.{BucketValue, seen}
use Rattle.hull_buckets.specs.declared.TheConstants.{BUCKET_SIZE}
use Rattle.hull_buckets.proofs.Changed.{merged}
use Rattle.hull_buckets.proofs.bucket.Bucket.merge.Goals as goal

pub invariant_of-self : goal.invariant_of-self
invariant_of-self c =
    let more : List Pair = c.points-more.result.now in
    let space : length (take c.self.inside.len c.self.inside.points) + length more ≤ BUCKET_SIZE =
    subst (λ (b : BucketValue). length b.points + length more ≤ BUCKET_SIZE) (sym c.self.view_is)
    (subst (λ (z : List Pair). length c.args.self.now.points + length z ≤ BUCKET_SIZE) (sym c.points-more.ensures.points)
    c.requires.space) in
    let order : IsAllBefore (Contains (take c.self.inside.len c.self.inside.points)) (Contains more) =
    subst (λ (b : BucketValue). IsAllBefore (Contains b.points) (Contains more)) (sym c.self.view_is)
    (subst (λ (z : List Pair). IsAllBefore (Contains c.args.self.now.points) (Contains z))
    (sym c.points-more.ensures.points) c.requires.order) in
    let counted : length c.multiplicities-more_multiplicities.result.now ≡ length more =
    c.multiplicities-more_multiplicities.ensures.counted ∙ ap (λ (z : List Pair). length z) (sym c.points-more.ensures.points) in
    let n = length-take-le c.self.inside.len c.self.inside.multiplicities (omega (arith, c.self.invariant.0, c.self.invariant.2)) in
    let m = c.self.invariant.1.counted in (
      omega (arith, space, n, m),
      merged (seen c.self.inside.len c.self.inside.points c.self.inside.multiplicities c.self.inside.lower c.self.inside.upper)
          more _
          c.multiplicities-more_multiplicities.result.now _ _ _ c.self.invariant.1 c.points-more.ensures.ordered counted
          c.multiplicities-more_multiplicities.ensures.held order space c.append.ensures.items
          (ap (λ (k : ℕ). take (c.self.inside.len + k) c.append-2.new.self) (sym counted)
          ∙ c.append-2.ensures.first)
          c.all_vertices-self-inside.ensures c.all_vertices-self-inside-2.ensures,
      c.append-2.ensures.len,
    )
