-- The results of the reader of blocks at its end, clause by clause.
use Rattle.hull_text.proofs.Results.{reads_to_end}
use Rattle.hull_text.proofs.read.reading.read_lines.Goals as goal

pub returns-in-Ok-clause-stops : goal.returns-in-Ok-clause-stops
returns-in-Ok-clause-stops g c =
    let returned = c.read_blocks.ensures in
    reads_to_end _ c.read_blocks.result returned.device returned.others returned.place returned.line returned.sound
