-- The lines of the workers so far were written.
use Rattle.std.proofs.Common.{drop}
use Rattle.hull_book.specs.Answers.{answers_in}
use Rattle.hull_text.specs.ReportText.{workers_text}
use Rattle.text_io.proofs.Chains.{Chained}
use Rattle.hull_text.proofs.write.report.workers_after.Given as goal

abbrev pub invariant-loop-worker : goal.invariant-loop-worker
invariant-loop-worker g l = Chained g.W.Write.contents g.W.Sink.failed l.fn.done l.done l.fn.out l.out (workers_text 0 l.phases (answers_in l.answers))
    (workers_text l.worker l.phases (drop l.worker (answers_in l.answers)))
