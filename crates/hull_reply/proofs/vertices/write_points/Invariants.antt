use Rattle.std.proofs.Common.{◌≡◌, length, take, drop}
use Rattle.hull_reply.proofs.vertices.write_points.Given as goal

-- the first i points are at the front, and the elements after them are unchanged
abbrev pub invariant-loop-i : goal.invariant-loop-i
invariant-loop-i l = record {
  front : take l.i l.out ≡ take l.i l.points;
  rest : drop l.i l.out ≡ drop l.i l.fn.out;
  long : length l.out ≡ length l.fn.out;
}
