-- The labels of the marks so far were written.
use Rattle.std.proofs.Common.{length, None}
use Rattle.text_io.proofs.Chains.{Chained}
use Rattle.hull_draw.specs.Labels.{labelled, mark_label_text}
use Rattle.hull_draw.specs.Texts.{texts}
use Rattle.hull_draw.proofs.labels.all_labels_after.Given as goal

abbrev pub invariant-loop-mark : goal.invariant-loop-mark
invariant-loop-mark g l =
    Chained g.W.Write.contents g.W.Sink.failed l.fn.done l.done l.fn.out l.out
    (texts (mark_label_text l.size l.frame) (labelled l.size l.frame None l.marks))
    (texts (mark_label_text l.size l.frame) (labelled l.size l.frame l.last l.rest))

abbrev pub decreases-loop-mark : goal.decreases-loop-mark
decreases-loop-mark g l = length l.rest
