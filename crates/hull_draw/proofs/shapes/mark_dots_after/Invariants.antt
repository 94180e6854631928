-- The text of those marks so far that are drawn was written.
use Rattle.std.proofs.Common.{length}
use Rattle.text_io.proofs.Chains.{Chained}
use Rattle.hull_draw.specs.Shapes.{mark_dot_text, every}
use Rattle.hull_draw.specs.Texts.{texts}
use Rattle.hull_draw.proofs.shapes.mark_dots_after.Given as goal

abbrev pub invariant-loop-mark : goal.invariant-loop-mark
invariant-loop-mark g l =
    Chained g.W.Write.contents g.W.Sink.failed l.fn.done l.done l.fn.out l.out (texts (mark_dot_text l.frame) (every l.step 0 l.marks))
    (texts (mark_dot_text l.frame) (every l.step l.skip l.rest))

abbrev pub decreases-loop-mark : goal.decreases-loop-mark
decreases-loop-mark g l = length l.rest
