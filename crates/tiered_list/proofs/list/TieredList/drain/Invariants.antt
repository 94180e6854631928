-- the points up to here were removed
use Rattle.std.proofs.Common.{◌≡◌, ◌++◌, take, drop}
use Rattle.tiered_list.proofs.list.TieredList.drain.Given as goal

abbrev pub invariant-loop : goal.invariant-loop
invariant-loop l = record {
  items : l.self.items ≡ take l.from l.initial.self.items ++ drop l.counter l.initial.self.items;
  space : l.self.space ≡ l.initial.self.space;
}
