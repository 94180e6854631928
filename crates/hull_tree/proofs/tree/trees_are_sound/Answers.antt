-- a tree's own invariant implies that it is sound
use Rattle.std.proofs.Common.{ap, subst}
use Rattle.hull_tree.specs.Sets.{LimitedTree, IsSound}
use Rattle.hull_tree.proofs.LimitedTrees.{sound}
use Rattle.hull_tree.proofs.tree.trees_are_sound.Goals as goal

pub returns : goal.returns
returns c = subst IsSound (ap (λ (z : LimitedTree). z.root) c.tree.view_is) (sound _ _ _ c.tree.invariant)
