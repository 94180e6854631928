-- the root is well built and low, and what is left is a tree of one point less
use Rattle.std.proofs.Common.{◌≡◌, ◌∙◌, ap, arith, sym, Some}
use Rattle.bucket_tree.specs.Counts.{multiplicity_at}
use Rattle.bucket_tree.specs.Nodes.{node_height}
use Rattle.bucket_tree.specs.Roots.{multiplicity_of_root}
use Rattle.bucket_tree.specs.Sets.{LimitedTree}
use Rattle.bucket_tree.proofs.MostTurns.{few_turns}
use Rattle.bucket_tree.proofs.Rooted.{limited_root, lost_limited, low_root}
use Rattle.bucket_tree.proofs.tree.BucketTree.remove_point.Goals as goal

pub remove-removed-requires-clause-low : goal.remove-removed-requires-clause-low
remove-removed-requires-clause-low c =
    low_root c.self.inside.root c.in-Some.root _ _ c.self.invariant cc

pub invariant_of-self : goal.invariant_of-self
invariant_of-self c =
    let r : c.self.inside.root ≡ Some c.in-Some.root = cc in
    let v : c.args.self.now.root ≡ Some c.in-Some.root = sym (ap (λ (z : LimitedTree). z.root) c.self.view_is) ∙ r in
    let t : multiplicity_at c.in-Some.root c.args.p ≡ 1 = ap (λ z. multiplicity_of_root z c.args.p) (sym v) ∙ c.requires in
    lost_limited c.in-Some.root c.remove-removed.result.rest c.args.p c.self.inside.count c.self.inside.limit
    (limited_root _ _ _ _ c.self.invariant r) t
    c.remove-removed.ensures.lost

pub returns-clause-few : goal.returns-clause-few
returns-clause-few c =
    let h = low_root c.self.inside.root c.in-Some.root _ _ c.self.invariant cc in
    omega (arith, few_turns (node_height c.in-Some.root) h, c.remove-removed.ensures.turns)
