-- a vertex is closest, or passed by
use Rattle.std.proofs.Common.{sym, subst}
use Rattle.lattice.specs.Plane.{Pair}
use Rattle.lattice.specs.Places.{IsFarthest}
use Rattle.lattice.proofs.Tests.{passed, failed}
use Rattle.hull_polygon.proofs.polygon.Polygon.if_closest.Goals as goal

pub returns-then-is_farthest : goal.returns-then-is_farthest
returns-then-is_farthest c = λ S o T x h. record {
  vertex = x;
  nearest = h;
  closest = subst (λ (d : Pair). IsFarthest S d c.args.c) c.way_to.ensures
      (passed _ _ c.if-is_farthest.true (c.is_farthest.ensures S o));
}

pub returns-else-is_farthest : goal.returns-else-is_farthest
returns-else-is_farthest c = λ S o T x h. (
  c.args.place,
  h,
  λ f. failed _ _ c.if-is_farthest.false (c.is_farthest.ensures S o)
      (subst (λ (d : Pair). IsFarthest S d c.args.c) (sym c.way_to.ensures) f),
)
