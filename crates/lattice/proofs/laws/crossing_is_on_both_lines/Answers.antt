-- the weights are the sides of b and a as seen along the other line, so their mean lies on both
use Rattle.lattice.proofs.LineCrossings.{crossing_on_both}
use Rattle.lattice.proofs.laws.crossing_is_on_both_lines.Goals as goal

pub returns : goal.returns
returns c a b d e hab hbc hcd under_first under_second = crossing_on_both a b d e hab hbc hcd under_first under_second
