-- the first segments were answered
use Rattle.std.proofs.Common.{◌≡◌, ◌<◌, ℕ, drop, length, get_or, Some}
use Rattle.hull_c.specs.Many.{EncodesSegment}
use Rattle.hull_c.specs.declared.many.HullSegment.{HullSegment}
use Rattle.hull_c.proofs.many.intersects_segments.Given as goal

abbrev pub invariant-loop-i : goal.invariant-loop-i
invariant-loop-i l = record {
  answered : (k : ℕ) (d : HullSegment) → k < l.i → EncodesSegment l.vertices (get_or l.segments k d) (Some (get_or l.out k 0));
  rest : drop l.i l.out ≡ drop l.i l.fn.out;
  long : length l.out ≡ length l.segments;
}
