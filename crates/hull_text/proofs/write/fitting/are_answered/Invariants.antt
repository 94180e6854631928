-- Each worker so far has an answer for each of its calls.
use Rattle.hull_book.specs.Answers.{answers_in}
use Rattle.hull_text.specs.ReportText.{AreAnswered}
use Rattle.hull_text.proofs.write.fitting.are_answered.Given as goal

abbrev pub invariant-loop-worker : goal.invariant-loop-worker
invariant-loop-worker l = AreAnswered l.worker l.phases (answers_in l.answers)
