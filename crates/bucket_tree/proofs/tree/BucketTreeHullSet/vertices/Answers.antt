-- a set with a root is not empty, so it may be refused memory
use Rattle.std.proofs.Common.{◌≡◌, ◌∙◌, ap, sym, Some, arith, length, [], List, rules}
use Rattle.std.specs.Prelude.{◌≢◌}
use Rattle.lattice.specs.Plane.{Pair}
use Rattle.bucket_tree.specs.Roots.{points_of_root}
use Rattle.bucket_tree.specs.Sets.{LimitedTree}
use Rattle.bucket_tree.proofs.NodePoints.{some_below}
use Rattle.bucket_tree.proofs.Rooted.{built_root}
use Rattle.bucket_tree.proofs.tree.BucketTreeHullSet.vertices.Goals as goal

pub returns-in_err-vertices-in-Some-clause-reply : goal.returns-in_err-vertices-in-Some-clause-reply
returns-in_err-vertices-in-Some-clause-reply c =
    let r : c.args.self.now.root ≡ Some c.in-Some.root =
    sym (ap (λ (z : LimitedTree). z.root) c.self.view_is) ∙ c.in-Some.is in
    let w = built_root _ _ _ _ c.self.invariant c.in-Some.is in
    let n : points_of_root c.args.self.now.root ≢ [] = λ e. absurd (omega (
      arith,
      some_below c.in-Some.root w.buckets,
      ap (λ (z : List Pair). length z) (sym (ap points_of_root r) ∙ e),
    )) in
    search rules
