-- each turn keeps the invariant, and if no turn is left both halves are one point
use Rattle.bridge_search.proofs.Turns as turns
use Rattle.bridge_search.proofs.search.upper_bridge_counted.Goals as goal

pub loop-preserved : goal.loop-preserved
loop-preserved g c =
    turns.under_way_on _ _ _ _ _ _ _ _ _ _ _ c.loop.invariant c.advance.ensures.advance c.advance.ensures.split

pub returns-clause-depths : goal.returns-clause-depths
returns-clause-depths g c =
    turns.under_way_depth _ _ _ _ _ _ _ _ _ _ _ c.loop.invariant
    (rw c.loop-test.false at c.advance.ensures.advance) c.ends.ensures.left c.ends.ensures.right
