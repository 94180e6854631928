-- The lines of the phases so far were written, and an answer is left for each call left.
use Rattle.std.proofs.Common.{◌≡◌, length, All}
use Rattle.hull_book.specs.Scripts.{calls_of}
use Rattle.hull_text.specs.Answers.{answers_text}
use Rattle.text_io.proofs.Chains.{Chained}
use Rattle.hull_text.proofs.write.report.worker_after.Given as goal

abbrev pub invariant-loop-phase : goal.invariant-loop-phase
invariant-loop-phase g l = record {
  chained : Chained g.W.Write.contents g.W.Sink.failed l.fn.done l.done l.fn.out l.out (answers_text l.worker (calls_of l.worker l.phases) l.fn.answers)
      (answers_text l.worker (calls_of l.worker l.rest) l.answers);
  answered : length l.answers ≡ length (calls_of l.worker l.rest);
  jobs : All (λ phase. length phase ≡ l.workers) l.rest;
}

abbrev pub decreases-loop-phase : goal.decreases-loop-phase
decreases-loop-phase g l = length l.rest
