-- the contents without the points that still wait are the same
use Rattle.std.proofs.Common.{◌≡◌, length}
use Rattle.deferring_set.specs.Removals.{AreDeferred, held_in, without_all}
use Rattle.deferring_set.proofs.deferring_set.DeferringSet.carry_out.Given as goal

abbrev pub invariant-loop-removed : goal.invariant-loop-removed
invariant-loop-removed g l = record {
  deferred : AreDeferred l.self-inside.removed.items (g.S.HullSet.held l.self-inside.set);
  held : without_all l.self-inside.removed.items (g.S.HullSet.held l.self-inside.set) ≡ held_in g.S.HullSet l.fn.self;
  limit : g.S.HullSet.bound l.self-inside.set ≡ g.S.HullSet.bound l.fn.self.set;
}

abbrev pub decreases-loop-removed : goal.decreases-loop-removed
decreases-loop-removed g l = length l.self-inside.removed.items
