-- a point that is the last one lies on the boundary; every other slab determines the location
use Rattle.hull_questions.proofs.Sighted.{last_touched}
use Rattle.hull_questions.proofs.locations.look.Goals as goal

pub returns-in-Last : goal.returns-in-Last
returns-in-Last g c =
    last_touched (g.H.Half.tree c.args.half) c.args.q (g.met.H.Half.bridged c.args.half) c.in-Last.ensures
