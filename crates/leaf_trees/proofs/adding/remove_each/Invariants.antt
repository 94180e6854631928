-- the points so far were removed, as often as they are among them
use Rattle.std.proofs.Common.{◌≡◌, ◌+◌, take}
use Rattle.lattice.specs.Plane.{Pair}
use Rattle.hull_set.specs.Held.{multiplicity_among}
use Rattle.leaf_trees.specs.Entries.{IsTrueHeld}
use Rattle.leaf_trees.proofs.adding.remove_each.Given as goal

abbrev pub invariant-loop-i : goal.invariant-loop-i
invariant-loop-i g l = record {
  multiplicities : (q : Pair) → (g.S.HullSet.held l.set).multiplicities q + multiplicity_among (take l.i l.points) q ≡ (g.S.HullSet.held l.initial.set).multiplicities q;
  kept : IsTrueHeld (g.S.HullSet.held l.set);
  limit : g.S.HullSet.bound l.set ≡ g.S.HullSet.bound l.initial.set;
  sound : g.S.HullSet.sound l.set;
}
