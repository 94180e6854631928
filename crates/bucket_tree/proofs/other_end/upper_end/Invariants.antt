-- the part has the end, and its height pays for the turns
use Rattle.bridge_search.specs.Trees.{height_of}
use Rattle.bucket_tree.specs.OtherEnds.{IsRange}
use Rattle.bucket_tree.proofs.other_end.upper_end.Given as goal

abbrev pub invariant-loop-next : goal.invariant-loop-next
invariant-loop-next g l =
    IsRange l.fn.end l.fn.p (g.H.Half.tree l.fn.half) (g.H.Half.tree l.range.half) l.range.first l.range.last l.turns

abbrev pub decreases-loop-next : goal.decreases-loop-next
decreases-loop-next g l = height_of (g.H.Half.tree l.range.half)
