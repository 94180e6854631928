-- The lines of the ledgers so far were written.
use Rattle.std.proofs.Common.{drop}
use Rattle.hull_text.specs.ReportText.{ledgers_text}
use Rattle.text_io.proofs.Chains.{Chained}
use Rattle.hull_text.proofs.write.report.ledgers_after.Given as goal

abbrev pub invariant-loop-worker : goal.invariant-loop-worker
invariant-loop-worker g l = Chained g.W.Write.contents g.W.Sink.failed l.fn.done l.done l.fn.out l.out (ledgers_text 0 l.ledgers)
    (ledgers_text l.worker (drop l.worker l.ledgers))
