-- a lower bridge is an upper one after a rotation by 180 degrees
use Rattle.lattice.proofs.UniqueBridge.{one_lower_bridge}
use Rattle.lattice.proofs.laws.lower_bridge_is_unique.Goals as goal

pub returns : goal.returns
returns g c p q a b ordered h k = one_lower_bridge g.L.PointSet.has g.R.PointSet.has p q a b ordered h k
