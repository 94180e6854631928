use Rattle.std.proofs.Common.{◌≡◌, length, take, drop}
use Rattle.hull_c.proofs.held.write_entries.Given as goal

-- the first i entries are at the front, and the rest of the array is unchanged
abbrev pub invariant-loop-i : goal.invariant-loop-i
invariant-loop-i l = record {
  front : take l.i l.out ≡ take l.i l.entries;
  rest : drop l.i l.out ≡ drop l.i l.fn.out;
  long : length l.out ≡ length l.fn.out;
}
