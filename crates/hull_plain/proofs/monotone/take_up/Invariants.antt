-- the pass went over the scratch chain of the start and the points so far
use Rattle.std.proofs.Common.{◌≤◌, ◌++◌, take, drop}
use Rattle.hull_plain.specs.Drafts.{IsAsRoomy, drafted}
use Rattle.hull_geometry.specs.Monotone.{IsPassed}
use Rattle.hull_plain.proofs.monotone.take_up.Given as goal

abbrev pub invariant-loop-i : goal.invariant-loop-i
invariant-loop-i l = record {
  within : l.scratch_chain.kept ≤ l.initial.scratch_chain.kept;
  passed : IsPassed l.side (drafted l.list.items l.initial.scratch_chain ++ take l.i (drop l.from l.list.items))
      (drafted l.list.items l.scratch_chain);
  space : IsAsRoomy l.initial.scratch_chain l.scratch_chain;
}
