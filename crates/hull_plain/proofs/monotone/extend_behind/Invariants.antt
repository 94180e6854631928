-- the points removed from the scratch chain of the start are inner to its rest with the new point
use Rattle.std.proofs.Common.{◌≡◌, ◌≤◌, [], ◌∷◌, ◌++◌, length, true}
use Rattle.std.specs.List.{Contains}
use Rattle.lattice.specs.Covers.{IsPointSet}
use Rattle.lattice.specs.Plane.{Pair}
use Rattle.hull_plain.specs.Drafts.{IsAsRoomy, drafted}
use Rattle.hull_geometry.specs.Monotone.{IsInner, IsConvex}
use Rattle.hull_plain.proofs.monotone.extend_behind.Given as goal

abbrev pub invariant-loop-scratch_chain : goal.invariant-loop-scratch_chain
invariant-loop-scratch_chain l = record {
  within : l.scratch_chain.kept ≤ l.initial.scratch_chain.kept;
  set : IsPointSet (drafted l.list.items l.scratch_chain ++ l.c ∷ []);
  convex : IsConvex l.side (drafted l.list.items l.initial.scratch_chain) → IsConvex l.side (drafted l.list.items l.scratch_chain);
  among : (t : Pair) → Contains (drafted l.list.items l.scratch_chain) t → Contains (drafted l.list.items l.initial.scratch_chain) t;
  inner : (u : Pair) → IsInner l.side (drafted l.list.items l.initial.scratch_chain ++ l.c ∷ []) u
      → IsInner l.side (drafted l.list.items l.scratch_chain ++ l.c ∷ []) u;
  short : length (drafted l.list.items l.scratch_chain) ≤ length (drafted l.list.items l.initial.scratch_chain);
  stays : l.stays ≡ true → drafted l.list.items l.scratch_chain ≡ drafted l.list.items l.initial.scratch_chain;
  space : IsAsRoomy l.initial.scratch_chain l.scratch_chain;
}

abbrev pub decreases-loop-scratch_chain : goal.decreases-loop-scratch_chain
decreases-loop-scratch_chain l = length (drafted l.list.items l.scratch_chain)
