-- the halves reached have the bridge of the two halves of the call, and each turn reduces their points
use Rattle.std.proofs.Common.{◌+◌}
use Rattle.bridge_search.specs.Trees.{size_of}
use Rattle.bridge_search.specs.Search.{IsReached}
use Rattle.bridge_search.proofs.search.upper_bridge_counted.Given as goal

abbrev pub invariant-loop : goal.invariant-loop
invariant-loop g l =
    IsReached (g.H.Half.tree l.fn.u) (g.H.Half.tree l.fn.w) (g.H.Half.tree l.search.left)
    (g.H.Half.tree l.search.right) l.search.split l.search.turns

abbrev pub decreases-loop : goal.decreases-loop
decreases-loop g l = size_of (g.H.Half.tree l.search.left) + size_of (g.H.Half.tree l.search.right)
