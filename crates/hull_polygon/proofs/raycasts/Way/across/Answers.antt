-- if the start lies right of the edge the path enters there, else it misses
use Rattle.std.proofs.Common.{pos}
use Rattle.lattice.proofs.Numbers.{le_less, not_less}
use Rattle.hull_polygon.proofs.Casting.{missed_edge}
use Rattle.hull_polygon.proofs.DifferencesReturned.{excess_returned, le_returned, less_returned, twice}
use Rattle.lattice.proofs.Tests.{passed, failed}
use Rattle.hull_polygon.proofs.raycasts.Way.across.Goals as goal

pub returns-then-not-is_right : goal.returns-then-not-is_right
returns-then-not-is_right c = λ S o n x.
    missed_edge S _ _ _ _ o n x.start.0 x.end.0 x.from x.to x.across
    (not_less _ (pos 0) (failed _ _ c.if-not-is_right.true c.is_right.ensures))

pub excess-requires-2-clause-order : goal.excess-requires-2-clause-order
excess-requires-2-clause-order c =
    le_returned _ _ _ _ c.side-2.ensures.size c.side.ensures.size c.side-2.ensures.value c.side.ensures.value
    (le_less _ _ c.requires)

pub returns : goal.returns
returns c = λ S o n x. record {
  entry = (x, passed _ _ c.if-not-is_right.false c.is_right.ensures);
  part = less_returned _ _ _ (twice _ c.orient.ensures.size) c.orient.ensures.value c.excess.ensures.value;
  whole = excess_returned _ _ _ _ _ c.side.ensures.size c.side-2.ensures.size c.side.ensures.value c.side-2.ensures.value
      c.excess-2.ensures.value;
}
