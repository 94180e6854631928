-- the points up to here were copied
use Rattle.std.proofs.Common.{◌≡◌}
use Rattle.std.specs.List.{between}
use Rattle.tiered_list.proofs.list.TieredList.copy_rest.Given as goal

abbrev pub invariant-loop-i : goal.invariant-loop-i
invariant-loop-i l = record {
  rest : l.rest.items ≡ between l.from l.i l.self.items;
  capacity : l.rest.cap ≡ l.initial.rest.cap;
}
