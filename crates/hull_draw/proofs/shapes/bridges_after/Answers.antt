-- The item's text comes before those of the items after it.
use Rattle.text_io.proofs.Chains.{chained_end, chained_more}
use Rattle.hull_draw.proofs.Rows.{texts_cons, texts_none}
use Rattle.hull_draw.proofs.shapes.bridges_after.Goals as goal

pub loop-bridge-preserved : goal.loop-bridge-preserved
loop-bridge-preserved g c = chained_more c.loop-bridge.invariant
    (texts_cons _ c.in-Some.bridge.now c.in-Some.after.now _ c.in-Some.ensures.cases.0)
    c.bridge_after-done.ensures

pub returns : goal.returns
returns g c =
    chained_end _ _ _ _ _ _ _ _ c.loop-bridge.invariant (texts_none _ _ c.in_default.ensures.cases)
