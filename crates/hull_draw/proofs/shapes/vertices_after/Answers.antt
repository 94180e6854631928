-- The item's text comes before those of the items after it.
use Rattle.text_io.proofs.Chains.{chained_end, chained_more}
use Rattle.hull_draw.proofs.Rows.{texts_cons, texts_none}
use Rattle.hull_draw.proofs.shapes.vertices_after.Goals as goal

pub loop-point-preserved : goal.loop-point-preserved
loop-point-preserved g c = chained_more c.loop-point.invariant
    (texts_cons _ c.in-Some.point.now c.in-Some.after.now _ c.in-Some.ensures.cases.0) c.vertex_after-done.ensures

pub returns : goal.returns
returns g c =
    chained_end _ _ _ _ _ _ _ _ c.loop-point.invariant (texts_none _ _ c.in_default.ensures.cases)
