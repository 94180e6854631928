-- The lines so far were written; those of the remaining calls and answers are not yet.
use Rattle.std.proofs.Common.{length}
use Rattle.hull_text.specs.Answers.{answers_text}
use Rattle.text_io.proofs.Chains.{Chained}
use Rattle.hull_text.proofs.write.report.answers_after.Given as goal

abbrev pub invariant-loop-call : goal.invariant-loop-call
invariant-loop-call g l = Chained g.W.Write.contents g.W.Sink.failed l.fn.done l.done l.fn.out l.out (answers_text l.worker l.fn.calls l.fn.answers)
    (answers_text l.worker l.calls l.answers)

abbrev pub decreases-loop-call : goal.decreases-loop-call
decreases-loop-call g l = length l.calls
