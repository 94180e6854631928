-- The fields in order are the line.
use Rattle.hull_text.proofs.Spaces.{◌▹◌, field, line_written}
use Rattle.hull_text.proofs.write.report.ledger_after.Goals as goal

pub returns : goal.returns
returns g c = line_written c.put_after-done.ensures.wrote
    (field c.numeral_after-done.ensures ▹ field c.numeral_after-done-2.ensures) c.put_after.ensures.wrote
