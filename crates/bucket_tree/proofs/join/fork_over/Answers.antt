-- the fork has the bridges and the ends of its halves
use Rattle.std.proofs.Common.{arith}
use Rattle.bucket_tree.proofs.InPlace.{fork_built}
use Rattle.bucket_tree.proofs.join.fork_over.Goals as goal

pub returns-clause-built : goal.returns-clause-built
returns-clause-built c = fork_built _ _ record {
  row = c.requires.row;
  upper = c.requires.upper;
  lower = c.requires.lower;
  ends = record { left = c.ends_of-left_ends.ensures; right = c.ends_of-right_ends.ensures };
} c.requires.near (omega (arith, c.max-height.ensures, c.height_of.ensures, c.height_of-2.ensures))
