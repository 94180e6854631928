-- both searches have reached halves that have their bridge, the lower one rotated by 180 degrees
use Rattle.std.proofs.Common.{◌+◌}
use Rattle.bridge_search.specs.Trees.{size_of}
use Rattle.bridge_search.specs.TurnedTrees.{turned_tree}
use Rattle.bridge_search.specs.Search.{IsReached}
use Rattle.bridge_search.proofs.both.both_bridges_between.Given as goal

abbrev pub invariant-loop : goal.invariant-loop
invariant-loop g l =
    IsReached (g.H.Half.tree l.fn.u) (g.H.Half.tree l.fn.w) (g.H.Half.tree l.upper.left)
    (g.H.Half.tree l.upper.right) l.upper.split l.upper.turns
    × IsReached (turned_tree (g.H.Half.tree l.fn.w)) (turned_tree (g.H.Half.tree l.fn.u))
    (turned_tree (g.H.Half.tree l.lower.left.half))
    (turned_tree (g.H.Half.tree l.lower.right.half)) l.lower.split l.lower.turns

abbrev pub decreases-loop : goal.decreases-loop
decreases-loop g l =
    (size_of (g.H.Half.tree l.upper.left) + size_of (g.H.Half.tree l.upper.right))
    + (size_of (turned_tree (g.H.Half.tree l.lower.left.half)) + size_of
    (turned_tree (g.H.Half.tree l.lower.right.half)))
