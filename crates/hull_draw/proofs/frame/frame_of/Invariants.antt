-- The frame is that of the marks so far.
use Rattle.std.proofs.Common.{take}
use Rattle.hull_draw.proofs.Edges.{Holds, IsOfMarks}
use Rattle.hull_draw.proofs.frame.frame_of.Given as goal

abbrev pub invariant-loop-mark : goal.invariant-loop-mark
invariant-loop-mark l = Holds l.frame (take l.mark-index l.marks) × IsOfMarks l.marks l.frame
