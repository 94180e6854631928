-- the publisher has recorded all lines, which led to the points of the set
use Rattle.std.proofs.Common.{arith}
use Rattle.std.proofs.lemmas.Grind.{common_steps}
use Rattle.std.proofs.lemmas.List.{take_all}
use Rattle.hull_shared.proofs.Changes.{held_by_changes, of_segment}
use Rattle.hull_shared.proofs.publishing.caught_up.Goals as goal

pub publish-requires : goal.publish-requires
publish-requires c = grind (arith, common_steps, held_by_changes, take_all)

pub returns-clause-encoded : goal.returns-clause-encoded
returns-clause-encoded c = grind (arith, common_steps, of_segment, take_all)
