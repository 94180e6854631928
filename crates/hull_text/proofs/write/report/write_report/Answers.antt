-- The lines of the workers, the ledgers and the sum in order are the report.
use Rattle.text_io.proofs.Chains.{◌▸◌, written_whole}
use Rattle.hull_text.proofs.write.report.write_report.Goals as goal

pub returns : goal.returns
returns g c = rw (← c.sum_of-sum.ensures, ← c.lines.ensures.lines, ← c.capacity.ensures, ← c.phases.ensures.phases)
    (written_whole (c.workers_after-done.ensures ▸ c.ledgers_after-done.ensures ▸ c.sum_after-done.ensures)
    c.flush_after.ensures.wrote)
