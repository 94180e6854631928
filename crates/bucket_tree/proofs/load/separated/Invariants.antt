-- the lists have the points and the numbers of the entries so far
use Rattle.std.proofs.Common.{◌≡◌, ◌≤◌, length, take, vec_len, vec_capacity}
use Rattle.leaf_trees.specs.Entries.{points_listed}
use Rattle.bucket_tree.specs.Lists.{numbers_listed}
use Rattle.bucket_tree.proofs.load.separated.Given as goal

abbrev pub invariant-loop-i : goal.invariant-loop-i
invariant-loop-i l = record {
  points : l.points.items ≡ points_listed (take l.i l.entries);
  multiplicities : l.multiplicities.items ≡ numbers_listed (take l.i l.entries);
  points_short : vec_len l.points ≡ l.i;
  multiplicity_short : vec_len l.multiplicities ≡ l.i;
  points_space : length l.entries ≤ vec_capacity l.points;
  multiplicity_space : length l.entries ≤ vec_capacity l.multiplicities;
}
