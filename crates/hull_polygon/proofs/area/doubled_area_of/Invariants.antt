-- the triangles so far and the rest of the fan are the whole
use Rattle.std.proofs.Common.{◌≡◌, ◌≤◌, ◌-◌, ◌*◌, pos, ◌+ℤ◌, drop}
use Rattle.lattice.specs.Plane.{widest_side}
use Rattle.lattice.specs.Vertices.{fan, doubled_area}
use Rattle.hull_polygon.specs.Rounds.{vertex}
use Rattle.hull_polygon.proofs.area.doubled_area_of.Given as goal

abbrev pub invariant-loop-i : goal.invariant-loop-i
invariant-loop-i l = record {
  size : l.doubled ≤ (l.i - 1) * widest_side;
  sum : doubled_area l.vertices
      ≡ pos l.doubled +ℤ fan (vertex l.vertices 0) (vertex l.vertices (l.i - 1)) (drop l.i l.vertices);
}
