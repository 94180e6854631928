-- a point between the ends is on the other chain, and an end that is passed is a vertex of this one
use Rattle.hull_geometry.proofs.Runs.{runs_bridge}
use Rattle.hull_geometry.proofs.laws.slices_have_their_bridge.Goals as goal

pub returns : goal.returns
returns g c = runs_bridge c.args.side g.L.PointSet.has g.R.PointSet.has
