-- Each word is read as its reply, and each number as itself; nothing is left after them.
use Rattle.hull_text.proofs.Formats.{alone}
use Rattle.hull_text.proofs.Replies.{replies}
use Rattle.hull_text.proofs.laws.replies_are_read_again.Goals as goal

pub returns : goal.returns
returns c = λ v reply fits. alone (replies v) reply fits
