-- the set is the set after the changes
use Rattle.std.proofs.Common.{arith}
use Rattle.std.proofs.lemmas.Grind.{common_steps}
use Rattle.hull_snapshots.proofs.Changed.{changed_by-one_more}
use Rattle.hull_shared.proofs.Changes.{held_by_changes}
use Rattle.hull_shared.proofs.publishing.announce.Goals as goal

pub announce-is_shown-requires : goal.announce-is_shown-requires
announce-is_shown-requires c = grind (arith, common_steps, changed_by-one_more, held_by_changes)
