-- a squared distance is not negative
use Rattle.std.proofs.Common.{◌≡◌, ◌∙◌, Some, ℤ, pos, ◌≤ℤ◌, ap, sym, subst, arith}
use Rattle.std.proofs.lemmas.Int.{ints}
use Rattle.bucket_tree.specs.Sets.{LimitedTree}
use Rattle.bucket_tree.proofs.NearestPoints.{distance_nn}
use Rattle.bucket_tree.proofs.tree.BucketTree.nearest.Goals as goal

pub overflow_cast-result : goal.overflow_cast-result
overflow_cast-result c =
    let h : pos 0 ≤ℤ c.nearest_in-found.result.squared =
    subst (λ (z : ℤ). pos 0 ≤ℤ z) (sym c.nearest_in-found.ensures.squared) (distance_nn c.args.q c.nearest_in-found.result.point) in
    omega (arith, ints, h)

pub returns-in-Some : goal.returns-in-Some
returns-in-Some c =
    let r : c.args.self.now.root ≡ Some c.in-Some.root =
    sym (ap (λ (z : LimitedTree). z.root) c.self.view_is) ∙ c.in-Some.is in
    let h : pos 0 ≤ℤ c.nearest_in-found.result.squared =
    subst (λ (z : ℤ). pos 0 ≤ℤ z) (sym c.nearest_in-found.ensures.squared) (distance_nn c.args.q c.nearest_in-found.result.point) in
    rw r (c.nearest_in-found.ensures.nearest, omega (arith, ints, h, c.nearest_in-found.ensures.squared))
