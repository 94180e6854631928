-- the entries are those of both lists so far, and none that is left is before one of them
use Rattle.std.proofs.Common.{◌≡◌, ◌≤◌, ◌+◌, ◌-◌, length, vec_len, vec_capacity, take}
use Rattle.lattice.specs.Plane.{Pair}
use Rattle.leaf_trees.specs.Entries.{AreEntries, points_listed, multiplicity_listed}
use Rattle.leaf_trees.proofs.Counting.{AreBehind}
use Rattle.leaf_trees.proofs.entries.merged.Given as goal

abbrev pub invariant-loop-i : goal.invariant-loop-i
invariant-loop-i l = record {
  entries : AreEntries l.entries.items;
  multiplicities : (q : Pair) → multiplicity_listed l.entries.items q
      ≡ multiplicity_listed (take l.i l.first) q + multiplicity_listed (take l.j l.second) q;
  first_left : AreBehind l.first l.i (points_listed l.entries.items);
  second_left : AreBehind l.second l.j (points_listed l.entries.items);
  first_in : l.i ≤ length l.first;
  second_in : l.j ≤ length l.second;
  short : vec_len l.entries ≤ l.i + l.j;
  space : length l.first + length l.second ≤ vec_capacity l.entries;
}

abbrev pub decreases-loop-i : goal.decreases-loop-i
decreases-loop-i l = (length l.first - l.i) + (length l.second - l.j)
