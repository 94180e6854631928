-- the sum so far and the triangles to come are the whole fan; each triangle is at most the widest
use Rattle.std.proofs.Common.{◌≡◌, pos, ◌+ℤ◌, ◌≤◌, ◌<◌, ◌-◌, ◌*◌, drop}
use Rattle.lattice.specs.Plane.{widest_side}
use Rattle.hull_geometry.specs.Monotone.{fan_from, fan_of}
use Rattle.hull_geometry.specs.Positions.{point_at}
use Rattle.hull_plain.proofs.vertices.doubled_fan.Given as goal

abbrev pub invariant-loop-i : goal.invariant-loop-i
invariant-loop-i l = record {
  some : 0 < l.i;
  sum : pos l.doubled +ℤ fan_from l.side (point_at l.chain.items 0) (point_at l.chain.items (l.i - 1)) (drop l.i l.chain.items)
      ≡ fan_of l.side l.chain.items;
  size : l.doubled ≤ l.i * widest_side;
}
