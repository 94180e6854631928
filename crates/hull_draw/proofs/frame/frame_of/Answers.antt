-- The frame contains one mark more, and all at the end.
use Rattle.std.proofs.Common.{arith}
use Rattle.hull_draw.proofs.Edges.{holds_more, holds_all, of_marks_more}
use Rattle.hull_draw.proofs.frame.frame_of.Goals as goal

pub loop-mark-preserved : goal.loop-mark-preserved
loop-mark-preserved c = (
  holds_more c.args.marks.now c.loop-mark.mark-index c.mark-item.result _ _
      (omega arith) c.mark-item.is c.widened-frame.ensures c.loop-mark.invariant.0,
  of_marks_more c.args.marks.now c.loop-mark.mark-index c.mark-item.result _ _
      (omega arith) c.mark-item.is c.widened-frame.ensures c.loop-mark.invariant.1,
)

pub returns : goal.returns
returns c = record {
  left = c.loop-mark.invariant.1.left;
  right = c.loop-mark.invariant.1.right;
  top = c.loop-mark.invariant.1.top;
  bottom = c.loop-mark.invariant.1.bottom;
  holds = holds_all c.args.marks.now c.loop-mark.mark-index c.loop-mark.frame (omega arith) c.loop-mark.invariant.0;
}
