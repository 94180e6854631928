-- the relations to the first polygons were written
use Rattle.std.proofs.Common.{◌≡◌, ◌<◌, ℕ, List, length, get_or}
use denote.Ref.{Bor}
use Rattle.lattice.specs.Plane.{Pair}
use Rattle.hull_c.specs.Many.{IsRelationTo}
use Rattle.hull_c.proofs.many.relations.Given as goal

abbrev pub invariant-loop-i : goal.invariant-loop-i
invariant-loop-i l = record {
  written : (k : ℕ) (d : Bor (List Pair)) → k < l.i → IsRelationTo l.vertices (get_or l.others k d).now (get_or l.out k 0);
  long : length l.out ≡ length l.others;
}
