-- a start on the right of an edge is not covered
use Rattle.std.proofs.Common.{◌≡◌, true, false}
use Rattle.lattice.proofs.Tests.{passed}
use Rattle.hull_polygon.proofs.Neighbours.{outside_right}
use Rattle.hull_polygon.proofs.polygon.Polygon.covers_start.Goals as goal

-- a test does not return both results
not_both : false ≡ true → ⊥
not_both e = cc

pub returns-then-is_right : goal.returns-then-is_right
returns-then-is_right c = λ S o left. (
  λ e. absurd (not_both e),
  λ k. absurd (outside_right S c.args.p c.args.q c.args.way.now.start left
      (passed _ _ c.if-is_right.true c.is_right.ensures) k),
)

pub returns : goal.returns
returns c = λ S o left. c.covers.ensures S o
