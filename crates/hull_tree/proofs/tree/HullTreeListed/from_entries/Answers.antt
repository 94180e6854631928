-- the node over some entries is the root of a set with their number of points
use Rattle.std.proofs.Common.{arith}
use Rattle.std.proofs.lemmas.Grind.{common_steps}
use Rattle.hull_tree.proofs.LimitedTrees.{sound}
use Rattle.hull_tree.proofs.LoadedRows.{limited_over}
use Rattle.hull_tree.proofs.tree.HullTreeListed.from_entries.Goals as goal

pub returns-clause-sound : goal.returns-clause-sound
returns-clause-sound c =
    sound _ _ _ (limited_over _ _ _ c.in_ok-root.ensures c.requires.space c.requires.low c.requires.high)

-- grind closes these at once; the tactics that are tried first take long
pub invariant_of-tree : goal.invariant_of-tree
invariant_of-tree c = grind (arith, common_steps)

pub returns-then-is_empty-clause-held : goal.returns-then-is_empty-clause-held
returns-then-is_empty-clause-held c = grind (arith, common_steps)
