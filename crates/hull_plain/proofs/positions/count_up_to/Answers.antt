-- if p is in the list, it is the last of those counted
use Rattle.hull_geometry.proofs.FoundPositions.{found_after}
use Rattle.hull_geometry.proofs.Middles.{up_to_found}
use Rattle.hull_plain.proofs.positions.count_up_to.Goals as goal

pub returns-in-Ok-clause-below : goal.returns-in-Ok-clause-below
returns-in-Ok-clause-below c = up_to_found c.args.points.now.items c.args.p c.in-Ok.i c.in-Ok.ensures.position

pub returns-in-Ok-clause-rest : goal.returns-in-Ok-clause-rest
returns-in-Ok-clause-rest c = found_after c.args.points.now.items c.args.p c.in-Ok.i c.requires c.in-Ok.ensures.position
