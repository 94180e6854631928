-- the root is well built and at most 28 high, so it is a half, with the points of the set
use Rattle.std.proofs.Common.{◌≤◌, arith, subst}
use Rattle.leaf_trees.specs.Heights.{greatest_height}
use Rattle.hull_tree.specs.Nodes.{tree_of}
use Rattle.hull_tree.specs.Sets.{LimitedTree, IsWhole}
use Rattle.std.specs.Prelude.{Option}
use Rattle.hull_tree.specs.declared.node.Node.{Node}
use Rattle.hull_tree.specs.Changes.{height_at}
use Rattle.hull_tree.specs.Sets.{IsLimited}
use Rattle.hull_tree.proofs.LimitedTrees.{sound, whole}
use Rattle.hull_tree.proofs.tree.HullTree.half.Goals as goal

pub returns-in-Some : goal.returns-in-Some
returns-in-Some c =
    subst (λ (z : LimitedTree). IsWhole z (tree_of c.new.result.node.now)) c.self.view_is
    (whole _ _ (tree_of c.new.result.node.now) _ _ c.self.invariant c.in-Some.is c.new.ensures)

pub new-requires-clause-low : goal.new-requires-clause-low
new-requires-clause-low c =
    let h : height_at c.in-Some.node ≤ greatest_height =
    (sound _ _ _ (subst (λ
    (z : Option Node). IsLimited z c.self.inside.count c.self.inside.limit) c.in-Some.is c.self.invariant)).low in
    omega (arith, h)
