-- a point is in only one half of each fork, so one path leads to it, at most as long as the half is high
use Rattle.bridge_search.proofs.Depths.{one_depth, depth_within}
use Rattle.bridge_search.proofs.laws.depth_is_unique.Goals as goal

pub returns : goal.returns
returns c t p m n b h k = (one_depth t p m n b h k, depth_within t p n k)
