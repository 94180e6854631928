-- by induction over the tree: a depth is one number, and no point is in both halves of a fork
use Rattle.hull_tree.proofs.Costs.{one_cost}
use Rattle.hull_tree.proofs.laws.path_cost_is_unique.Goals as goal

pub returns : goal.returns
returns c = one_cost
