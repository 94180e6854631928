-- The marks so far, and those of the remaining calls, are the marks of all calls.
use Rattle.std.proofs.Common.{◌≡◌, ◌++◌, length}
use Rattle.hull_draw.specs.Films.{called_marks}
use Rattle.hull_draw.proofs.shots.called_marks.Given as goal

abbrev pub invariant-loop-line : goal.invariant-loop-line
invariant-loop-line l = l.marks.items ++ called_marks l.rest ≡ called_marks l.lines

abbrev pub decreases-loop-line : goal.decreases-loop-line
decreases-loop-line l = length l.rest
