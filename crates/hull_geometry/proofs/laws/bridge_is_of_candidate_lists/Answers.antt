-- if all points of a candidate list are inner to an edge, all points of its set are
use Rattle.hull_geometry.proofs.Fringed.{of_candidate_lists}
use Rattle.hull_geometry.proofs.laws.bridge_is_of_candidate_lists.Goals as goal

pub returns : goal.returns
returns g c = of_candidate_lists c.args.side g.L.PointSet.has g.M.PointSet.has g.R.PointSet.has g.S.PointSet.has
