-- the last points that were compared are the same
use Rattle.std.proofs.Common.{◌≡◌, ◌-◌, ◌≤◌, ◌++◌, length, drop}
use Rattle.tiered_list.proofs.list.TieredList.common_end.Given as goal

abbrev pub invariant-loop-count : goal.invariant-loop-count
invariant-loop-count l = record {
  few : l.count ≤ l.most;
  common : drop (length l.points - l.count) l.points ++ drop l.to l.self.items ≡ drop (l.to - l.count) l.self.items;
}

abbrev pub decreases-loop-count : goal.decreases-loop-count
decreases-loop-count l = l.most - l.count
