-- Each word is read as its call, and each number as itself; nothing is left after them.
use Rattle.hull_text.proofs.Formats.{alone}
use Rattle.hull_text.proofs.Calls.{calls}
use Rattle.hull_text.proofs.laws.calls_are_read_again.Goals as goal

pub returns : goal.returns
returns c = λ v call fits. alone (calls v) call fits
