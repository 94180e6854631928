-- the phases so far were run, and the workers may run those that are left
use Rattle.std.proofs.Common.{take}
use Rattle.hull_pool.specs.Scripts.{HasRunPhases}
use Rattle.hull_pool.proofs.phase.run_phases.Given as goal

abbrev pub invariant-loop-phase : goal.invariant-loop-phase
invariant-loop-phase g l =
    HasRunPhases g.S.HullSet l.fn.book l.fn.workers (take l.phase-index l.phase-items) l.book l.workers
