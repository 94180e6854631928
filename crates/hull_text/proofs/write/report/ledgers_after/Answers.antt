-- The line of a ledger comes before those of the ledgers after it.
use Rattle.text_io.proofs.Chains.{chained_end, chained_more}
use Rattle.hull_text.proofs.Reports.{ledgers_more, ledgers_none}
use Rattle.hull_text.proofs.write.report.ledgers_after.Goals as goal

pub loop-worker-preserved : goal.loop-worker-preserved
loop-worker-preserved g c =
    chained_more c.loop-worker.invariant
    (ledgers_more c.loop-worker.worker c.args.ledgers.now c.loop-worker-test.true) c.ledger_after-done.ensures

pub returns : goal.returns
returns g c = chained_end _ _ _ _ _ _ _ _ c.loop-worker.invariant
    (ledgers_none c.loop-worker.worker c.args.ledgers.now c.loop-worker-test.false)
