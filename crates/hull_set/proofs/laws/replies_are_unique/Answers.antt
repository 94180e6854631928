-- the contents of the set determine each reply, call by call; only a refusal of memory is left open
use Rattle.hull_set.proofs.UniqueReplies.{replies_unique}
use Rattle.hull_set.proofs.laws.replies_are_unique.Goals as goal

pub returns : goal.returns
returns c = replies_unique
