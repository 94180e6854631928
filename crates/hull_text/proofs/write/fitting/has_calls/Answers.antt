-- The calls of a phase and of those after it are the worker's calls; the rest of the count is compared with the other
-- phases.
use Rattle.std.proofs.Common.{arith, ◌≡◌, length}
use Rattle.hull_book.specs.Scripts.{PhaseValue}
use Rattle.hull_text.proofs.Reports.{all_after, calls_long}
use Rattle.hull_text.proofs.write.fitting.has_calls.Goals as goal

pub loop-phase-preserved : goal.loop-phase-preserved
loop-phase-preserved c =
    let here = c.in-Some.ensures.cases.0 in
    let long = calls_long c.args.worker c.in-Some.phase.now _ c.in-Some.after.now c.calls-calls.result.now here
    c.calls-calls.ensures in
    record {
      left = omega (arith, long, c.loop-phase.invariant.left, c.if-left-calls.false);
      jobs = all_after (λ (phase : PhaseValue). length phase
          ≡ c.args.workers) c.in-Some.phase.now _ _ here c.loop-phase.invariant.jobs;
    }
