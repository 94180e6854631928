-- the points that are left are the first ones
use Rattle.std.proofs.Common.{◌≡◌, ◌≤◌, length, take}
use Rattle.tiered_list.proofs.list.TieredList.truncate.Given as goal

abbrev pub invariant-loop-self : goal.invariant-loop-self
invariant-loop-self l = record {
  items : l.self.items ≡ take (length l.self.items) l.initial.self.items;
  space : l.self.space ≡ l.initial.self.space;
  more : l.len ≤ length l.self.items;
}

abbrev pub decreases-loop-self : goal.decreases-loop-self
decreases-loop-self l = length l.self.items
