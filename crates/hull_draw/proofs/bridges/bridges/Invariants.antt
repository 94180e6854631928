-- The bridges of the levels so far.
use Rattle.std.proofs.Common.{◌≡◌}
use Rattle.hull_tree.specs.Nodes.{tree_of}
use Rattle.hull_draw.specs.Bridges.{levels_of}
use Rattle.hull_draw.proofs.bridges.bridges.Given as goal

abbrev pub invariant-loop-level : goal.invariant-loop-level
invariant-loop-level l = l.bridges.items ≡ levels_of l.level (tree_of l.root)
