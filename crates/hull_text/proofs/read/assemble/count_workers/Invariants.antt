-- Counting on from the workers so far gives the count of all items.
use Rattle.std.proofs.Common.{◌≡◌, length}
use Rattle.hull_text.specs.ScriptValue.{workers_from, workers_in}
use Rattle.hull_text.proofs.read.assemble.count_workers.Given as goal

abbrev pub invariant-loop-rest : goal.invariant-loop-rest
invariant-loop-rest l = workers_from l.workers l.rest ≡ workers_in l.items

abbrev pub decreases-loop-rest : goal.decreases-loop-rest
decreases-loop-rest l = length l.rest
