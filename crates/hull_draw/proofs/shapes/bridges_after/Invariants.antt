-- The text of the items so far was written.
use Rattle.std.proofs.Common.{length}
use Rattle.text_io.proofs.Chains.{Chained}
use Rattle.hull_draw.specs.Shapes.{bridge_text}
use Rattle.hull_draw.specs.Texts.{texts}
use Rattle.hull_draw.proofs.shapes.bridges_after.Given as goal

abbrev pub invariant-loop-bridge : goal.invariant-loop-bridge
invariant-loop-bridge g l =
    Chained g.W.Write.contents g.W.Sink.failed l.fn.done l.done l.fn.out l.out (texts (bridge_text l.frame) l.bridges) (texts (bridge_text l.frame) l.rest)

abbrev pub decreases-loop-bridge : goal.decreases-loop-bridge
decreases-loop-bridge g l = length l.rest
