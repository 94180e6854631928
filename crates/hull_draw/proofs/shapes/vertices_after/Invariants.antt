-- The text of the items so far was written.
use Rattle.std.proofs.Common.{length}
use Rattle.text_io.proofs.Chains.{Chained}
use Rattle.hull_draw.specs.Shapes.{vertex_text}
use Rattle.hull_draw.specs.Texts.{texts}
use Rattle.hull_draw.proofs.shapes.vertices_after.Given as goal

abbrev pub invariant-loop-point : goal.invariant-loop-point
invariant-loop-point g l =
    Chained g.W.Write.contents g.W.Sink.failed l.fn.done l.done l.fn.out l.out (texts (vertex_text l.frame) l.points) (texts (vertex_text l.frame) l.rest)

abbrev pub decreases-loop-point : goal.decreases-loop-point
decreases-loop-point g l = length l.rest
