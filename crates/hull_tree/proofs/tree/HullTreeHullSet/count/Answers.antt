-- the number that is stored is that of the points, which are in order
use Rattle.std.proofs.Common.{ap, subst}
use Rattle.hull_tree.specs.Sets.{LimitedTree, IsSound}
use Rattle.hull_tree.proofs.LimitedTrees.{sound}
use Rattle.hull_tree.proofs.tree.HullTreeHullSet.count.Goals as goal

pub returns-clause-in_order : goal.returns-clause-in_order
returns-clause-in_order c =
    (subst IsSound (ap (λ (z : LimitedTree). z.root) c.self.view_is) (sound _ _ _ c.self.invariant)).in_order
