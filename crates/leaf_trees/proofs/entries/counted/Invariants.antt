-- the entries are those of the points so far, and no point that is left is before one of them
use Rattle.std.proofs.Common.{ℕ, ◌≡◌, ◌≤◌, ◌<◌, length, vec_len, vec_capacity, take, get_or}
use Rattle.std.specs.List.{Contains}
use Rattle.lattice.specs.Plane.{Pair, IsBefore}
use Rattle.leaf_trees.specs.Entries.{AreEntries, points_listed, multiplicity_listed}
use Rattle.hull_set.specs.Held.{multiplicity_among}
use Rattle.leaf_trees.proofs.entries.counted.Given as goal

abbrev pub invariant-loop-i : goal.invariant-loop-i
invariant-loop-i l = record {
  entries : AreEntries l.entries.items;
  multiplicities : (q : Pair) → multiplicity_listed l.entries.items q ≡ multiplicity_among (take l.i l.points) q;
  left : (t : Pair) → Contains (points_listed l.entries.items) t → (j : ℕ) → l.i ≤ j → j < length l.points
      → ¬ IsBefore (get_or l.points j t) t;
  short : vec_len l.entries ≤ l.i;
  space : length l.points ≤ vec_capacity l.entries;
}
