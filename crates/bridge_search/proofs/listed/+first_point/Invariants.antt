-- a left half is a shorter list
use Rattle.std.proofs.Common.{length}
use Rattle.bridge_search.proofs.listed.+first_point.Given as goal

abbrev pub decreases-first_point : goal.decreases-first_point
decreases-first_point l = length l.entries.now
