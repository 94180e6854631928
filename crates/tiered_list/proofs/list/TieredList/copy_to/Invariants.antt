-- the points up to here were copied
use Rattle.std.proofs.Common.{◌≡◌, ◌+◌, ◌++◌, ◌≤◌, length, take}
use Rattle.tiered_list.proofs.list.TieredList.copy_to.Given as goal

abbrev pub invariant-loop-i : goal.invariant-loop-i
invariant-loop-i l = record {
  items : l.out.items ≡ l.initial.out.items ++ take l.i l.self.items;
  space : length l.initial.out.items + length l.self.items ≤ l.out.cap;
}
