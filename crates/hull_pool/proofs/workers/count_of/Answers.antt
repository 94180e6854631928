-- the first phase's calls are counted, and there are no more calls than a text has lines
use Rattle.std.proofs.Common.{◌<◌, arith, subst, All, length}
use Rattle.std.proofs.lemmas.Grind.{common_steps}
use Rattle.std.proofs.lemmas.List.Elements.{All-tail}
use Rattle.hull_pool.proofs.Fronts.{calls_le, counted_more}
use Rattle.hull_pool.proofs.workers.count_of.Goals as goal

pub loop-phase-init : goal.loop-phase-init
loop-phase-init c = grind (arith, common_steps, calls_le)

pub loop-phase-preserved : goal.loop-phase-preserved
loop-phase-preserved c =
    let inv = c.loop-phase.invariant in
    let split = c.in-Some.ensures.cases.0 in record {
      counted = counted_more _ _ _ _ _ _ _ split c.calls.ensures inv.counted;
      jobs = All-tail (λ phase. c.args.worker < length phase) _ _
          (subst (All (λ phase. c.args.worker < length phase)) split inv.jobs);
      few = inv.few;
    }
