-- fewer points lie on the same side
use Rattle.lattice.specs.declared.side.Side.TheVariants.{Lower}
use Rattle.lattice.proofs.Standing.{as_goes}
use Rattle.lattice.proofs.laws.lower_bridge_stands_as_point_goes.Goals as goal

pub returns : goal.returns
returns g c u v p b = as_goes Lower g.L.PointSet.has g.R.PointSet.has u v p b
