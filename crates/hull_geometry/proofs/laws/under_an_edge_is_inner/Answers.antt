-- a point inwards of a segment lies no farther outwards of a line than the segment
use Rattle.hull_geometry.proofs.Fringed.{under_is_inner}
use Rattle.hull_geometry.proofs.laws.under_an_edge_is_inner.Goals as goal

pub returns : goal.returns
returns c = under_is_inner c.args.side
