-- the points of the range are all points between; those visited and those left are these points, in their order
use Rattle.std.proofs.Common.{◌≡◌, ◌≤◌, ◌++◌, List, take, drop}
use Rattle.std.specs.Map.{keys_of}
use Rattle.lattice.specs.Plane.{Pair}
use Rattle.hull_plain.specs.Drafts.{IsAsRoomy, drafted}
use Rattle.hull_geometry.specs.Mending.{IsBetween}
use Rattle.hull_geometry.specs.Monotone.{IsThinned}
use Rattle.hull_plain.proofs.candidates.fill.Given as goal

abbrev pub invariant-loop-point : goal.invariant-loop-point
invariant-loop-point l = record {
  can_next : goal.iterator-loop-point.can_next l.point-iterator;
  is_finite : goal.iterator-loop-point.is_finite l.point-iterator;
  range : IsBetween (keys_of l.points.entries) (take l.at l.candidates.items) (drop l.to l.candidates.items)
      (keys_of l.initial.point-iterator);
  thinned : (seen : List Pair) × (seen ++ keys_of l.point-iterator ≡ keys_of l.initial.point-iterator)
      × IsThinned l.side (take l.at l.candidates.items ++ seen) (drafted l.candidates.items l.scratch_chain);
  within : l.scratch_chain.kept ≤ l.at;
  space : IsAsRoomy l.initial.scratch_chain l.scratch_chain;
}
