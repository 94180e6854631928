-- The lines of a worker come before those of the workers after it, and it has as many answers as calls.
use Rattle.std.proofs.Common.{arith, ap, ◌∙◌, length}
use Rattle.text_io.proofs.Chains.{chained_end, chained_more}
use Rattle.hull_text.proofs.Reports.{answers_at, answers_each, workers_more, workers_none}
use Rattle.hull_book.specs.Answers.{answers_in}
use Rattle.hull_text.proofs.write.report.workers_after.Goals as goal

pub worker_after-done-requires-clause-answered : goal.worker_after-done-requires-clause-answered
worker_after-done-requires-clause-answered g c =
    ap length (answers_at c.args.answers.now c.loop-worker.worker c.index-answers-worker.result c.deref.result.now
    c.loop-worker-test.true c.index-answers-worker.is c.deref.ensures.value)
    ∙ c.requires.answered c.loop-worker.worker (omega (arith, c.requires.each, c.loop-worker-test.true))

pub loop-worker-preserved : goal.loop-worker-preserved
loop-worker-preserved g c =
    let list = answers_at c.args.answers.now c.loop-worker.worker c.index-answers-worker.result c.deref.result.now
    c.loop-worker-test.true c.index-answers-worker.is c.deref.ensures.value in
    chained_more c.loop-worker.invariant
    (workers_more c.loop-worker.worker c.args.phases.now (answers_in c.args.answers.now)
    (omega (arith, answers_each c.args.answers.now, c.loop-worker-test.true)))
    (rw list at c.worker_after-done.ensures)

pub returns : goal.returns
returns g c = chained_end _ _ _ _ _ _ _ _ c.loop-worker.invariant
    (workers_none c.loop-worker.worker c.args.phases.now (answers_in c.args.answers.now)
    (omega (arith, answers_each c.args.answers.now, c.loop-worker-test.false)))
