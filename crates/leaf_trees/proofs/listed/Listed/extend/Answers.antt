-- the list is the set
use Rattle.std.proofs.Common.{subst}
use Rattle.leaf_trees.specs.Entries.{IsTrueHeld}
use Rattle.leaf_trees.proofs.AddedSets.{entries_held}
use Rattle.leaf_trees.proofs.listed.Listed.extend.Goals as goal

pub add_each-requires-clause-kept : goal.add_each-requires-clause-kept
add_each-requires-clause-kept g c =
    subst IsTrueHeld c.lists_are_sound.ensures.held (entries_held _ c.lists_are_sound.ensures.entries)
