-- two upper bridges of the same two sets would each have the ends of the other on or below it
use Rattle.lattice.proofs.UniqueBridge.{one_bridge}
use Rattle.lattice.proofs.laws.upper_bridge_is_unique.Goals as goal

pub returns : goal.returns
returns g c p q a b ordered h k = one_bridge g.L.PointSet.has g.R.PointSet.has p q a b ordered h k
