-- the pass went over the scratch chain of the start and the points so far
use Rattle.std.proofs.Common.{◌≤◌, ◌++◌, take}
use Rattle.std.specs.Prelude.{slice_range}
use Rattle.hull_plain.specs.Drafts.{IsAsRoomy, drafted}
use Rattle.hull_geometry.specs.Monotone.{IsPassed}
use Rattle.hull_plain.proofs.monotone.pass_over.Given as goal

abbrev pub invariant-loop-i : goal.invariant-loop-i
invariant-loop-i l = record {
  within : l.scratch_chain.kept ≤ l.initial.scratch_chain.kept;
  passed : IsPassed l.side (drafted l.list.items l.initial.scratch_chain ++ take l.i (slice_range l.points.items l.from l.to))
      (drafted l.list.items l.scratch_chain);
  space : IsAsRoomy l.initial.scratch_chain l.scratch_chain;
}
