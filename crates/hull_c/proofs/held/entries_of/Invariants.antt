-- the entries so far
use Rattle.std.proofs.Common.{◌≡◌, length, take, vec_capacity, vec_len}
use Rattle.hull_c.proofs.held.entries_of.Given as goal

abbrev pub invariant-loop-i : goal.invariant-loop-i
invariant-loop-i l = record {
  entries : l.entries.items ≡ take l.i l.array;
  short : vec_len l.entries ≡ l.i;
  storage : vec_capacity l.entries ≡ length l.array;
}
