-- The text of a mark that is drawn comes before those of the marks after it; another mark has none.
use Rattle.std.proofs.Common.{ap, List}
use Rattle.hull_draw.specs.declared.marks.Mark.{Mark}
use Rattle.hull_draw.specs.Shapes.{mark_dot_text}
use Rattle.hull_draw.specs.Texts.{texts}
use Rattle.text_io.proofs.Chains.{chained_end, chained_more, chained_same}
use Rattle.hull_draw.proofs.Rows.{drawn_cons, drawn_none, every_passed}
use Rattle.hull_draw.proofs.shapes.mark_dots_after.Goals as goal

pub loop-mark-preserved-then-skip-eq0 : goal.loop-mark-preserved-then-skip-eq0
loop-mark-preserved-then-skip-eq0 g c =
    let so_far = rw c.if-skip-eq0.true at c.loop-mark.invariant in
    chained_more so_far
    (drawn_cons c.args.frame.now c.args.step c.in-Some.mark.now c.in-Some.after.now _ c.in-Some.ensures.cases.0)
    c.dot_after-done.ensures

pub loop-mark-preserved : goal.loop-mark-preserved
loop-mark-preserved g c = chained_same c.loop-mark.invariant
    (ap (λ (ms : List Mark). texts (mark_dot_text c.args.frame.now) ms)
    (every_passed c.args.step _ c.in-Some.mark.now c.in-Some.after.now _ c.if-skip-eq0.false c.in-Some.ensures.cases.0))

pub returns : goal.returns
returns g c =
    chained_end _ _ _ _ _ _ _ _ c.loop-mark.invariant (drawn_none _ _ _ _ c.in_default.ensures.cases)
