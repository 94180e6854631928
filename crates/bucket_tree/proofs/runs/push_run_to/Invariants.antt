-- the run so far is appended but for the last point that was passed, and `to` is this point or comes later
use Rattle.std.proofs.Common.{length}
use Rattle.bucket_tree.specs.Runs.{IsAhead}
use Rattle.bucket_tree.proofs.PassedRuns.{IsOnRun}
use Rattle.bucket_tree.proofs.runs.push_run_to.Given as goal

abbrev pub invariant-loop-walk : goal.invariant-loop-walk
invariant-loop-walk l = record {
  run : IsOnRun l.fn.walk l.fn.from l.initial.out.items l.walk l.last l.out.items;
  ahead : IsAhead l.walk l.last l.fn.to;
}

abbrev pub decreases-loop-walk : goal.decreases-loop-walk
decreases-loop-walk l = length l.walk
