-- both factors and the power of two that is left
use Rattle.lattice.proofs.Tests.{passed}
use Rattle.hull_polygon.proofs.Scaled.{raised_square}
use Rattle.hull_polygon.proofs.roundings.raised_square.Goals as goal

pub returns-then-is_less : goal.returns-then-is_less
returns-then-is_less c = (
  raised_square _ c.args.factors.first c.args.factors.second c.raised-first.result.0 c.raised-second.result.0
      c.raised-power.result.0 c.raised-first.result.1 c.raised-second.result.1 c.raised-power.result.1 c.args.shift
      c.raised-first.ensures.value c.raised-second.ensures.value c.raised-power.ensures.value c.if-rest-eq0.true
      c.three_digits-number.ensures.value,
  c.three_digits-number.ensures.digits,
  passed _ _ c.if-is_less.true c.is_less.ensures,
)
