-- The lines of a phase come before those of the phases after it, and each phase takes its share of the answers.
use Rattle.std.proofs.Common.{arith, ◌≡◌, length}
use Rattle.hull_book.specs.Scripts.{PhaseValue}
use Rattle.text_io.proofs.Chains.{chained_end, chained_more}
use Rattle.hull_text.proofs.Reports.{all_after, answers_no_call, calls_long, calls_none, phases_cons}
use Rattle.hull_text.proofs.write.report.worker_after.Goals as goal

pub loop-phase-preserved : goal.loop-phase-preserved
loop-phase-preserved g c =
    let here = c.in-Some.ensures.cases.0 in
    record {
      chained = rw c.split_at.ensures.back (chained_more c.loop-phase.invariant.chained
          (phases_cons c.args.worker c.in-Some.phase.now _ c.in-Some.after.now c.loop-phase.answers.now
          c.calls-calls.result.now here c.calls-calls.ensures)
          (rw c.split_at.ensures.front at c.answers_after-done.ensures));
      answered = omega (
        arith,
        c.split_at.ensures.back_len,
        c.loop-phase.invariant.answered,
        calls_long c.args.worker
            c.in-Some.phase.now _ c.in-Some.after.now c.calls-calls.result.now here c.calls-calls.ensures,
      );
      jobs = all_after (λ (phase : PhaseValue). length phase
          ≡ c.args.workers) c.in-Some.phase.now _ _ here c.loop-phase.invariant.jobs;
    }

pub returns : goal.returns
returns g c = chained_end _ _ _ _ _ _ _ _ c.loop-phase.invariant.chained
    (answers_no_call _ _ _ (calls_none _ _ c.in_default.ensures.cases))
