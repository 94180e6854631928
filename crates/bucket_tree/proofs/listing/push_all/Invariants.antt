-- the points so far are after what was there
use Rattle.std.proofs.Common.{◌≡◌, ◌+◌, ◌++◌, take, vec_len, vec_capacity}
use Rattle.bucket_tree.specs.Lists.{paired}
use Rattle.bucket_tree.proofs.listing.push_all.Given as goal

abbrev pub invariant-loop-i : goal.invariant-loop-i
invariant-loop-i l = record {
  entries : l.entries.items ≡ l.initial.entries.items ++ paired (take l.i l.points) (take l.i l.multiplicities);
  short : vec_len l.entries ≡ vec_len l.initial.entries + l.i;
  capacity : vec_capacity l.entries ≡ vec_capacity l.initial.entries;
}
