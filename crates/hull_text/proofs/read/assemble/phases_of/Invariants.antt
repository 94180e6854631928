-- The phases so far, before those of the items left, are all phases.
use Rattle.std.proofs.Common.{◌≡◌, ◌++◌, map, length}
use Rattle.hull_text.specs.ScriptValue.{jobs_below, parts, parts_left}
use Rattle.hull_text.proofs.read.assemble.phases_of.Given as goal

abbrev pub invariant-loop-rest : goal.invariant-loop-rest
invariant-loop-rest l =
    l.phases.items ++ map (jobs_below l.workers) (parts_left l.rest) ≡ map (jobs_below l.workers) (parts l.items)

abbrev pub decreases-loop-rest : goal.decreases-loop-rest
decreases-loop-rest l = length (parts_left l.rest)
