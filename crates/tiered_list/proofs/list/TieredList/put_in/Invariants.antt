-- the first i of the points are inserted
use Rattle.std.proofs.Common.{◌≡◌, ◌++◌, take, drop}
use Rattle.tiered_list.proofs.list.TieredList.put_in.Given as goal

abbrev pub invariant-loop-i : goal.invariant-loop-i
invariant-loop-i l = record {
  items : l.self.items ≡ (take l.at l.initial.self.items ++ take l.i l.points) ++ drop l.at l.initial.self.items;
  space : l.self.space ≡ l.initial.self.space;
}
