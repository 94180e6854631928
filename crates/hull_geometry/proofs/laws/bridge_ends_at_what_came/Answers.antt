-- a new bridge that ends at an old point would be the old bridge
use Rattle.hull_geometry.proofs.Fringed.{ends_there}
use Rattle.hull_geometry.proofs.laws.bridge_ends_at_what_came.Goals as goal

pub returns : goal.returns
returns g c = ends_there c.args.side g.L.PointSet.has g.R.PointSet.has
