-- At the start nothing was read, so the answer of the reader of lines is an answer for the whole text.
use Rattle.hull_text.proofs.ScriptTexts.{reads_known}
use Rattle.hull_text.proofs.read.script.read_script.Goals as goal

pub returns-clause-read : goal.returns-clause-read
returns-clause-read g c = reads_known _ c.new.result.items.items c.new.result.number _ c.new.ensures.items
    c.new.ensures.number c.read_lines.ensures.value
