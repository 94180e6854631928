-- the new point is the only one that may not lie over the bridge
use Rattle.lattice.specs.declared.side.Side.TheVariants.{Lower}
use Rattle.lattice.proofs.Standing.{as_comes}
use Rattle.lattice.proofs.laws.lower_bridge_stands_as_point_comes.Goals as goal

pub returns : goal.returns
returns g c u v p b = as_comes Lower g.L.PointSet.has g.R.PointSet.has u v p b
