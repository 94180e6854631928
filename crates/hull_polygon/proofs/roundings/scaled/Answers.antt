-- each step makes it four times as large, which is often enough
use Rattle.std.proofs.Common.{◌∙◌, arith}
use Rattle.hull_polygon.proofs.Scaled.{enough, four_more}
use Rattle.lattice.proofs.Tests.{passed}
use Rattle.hull_polygon.proofs.roundings.scaled.Goals as goal

pub loop-shift-preserved : goal.loop-shift-preserved
loop-shift-preserved c = record {
  value = c.four_times-number.ensures.value ∙ four_more _ _ c.loop-shift.shift c.loop-shift.invariant.value;
  digits = c.four_times-number.ensures.digits;
  to = omega (
    arith,
    c.four_times-number.ensures.value,
    c.full_times-least.ensures.value,
    passed _ _ c.if-not-is_less.false c.is_less.ensures,
  );
}

pub unreachable-requires : goal.unreachable-requires
unreachable-requires c =
    omega (
      arith,
      enough _ _ c.loop-shift.shift c.requires.some c.loop-shift.invariant.value
          (omega (arith, c.loop-shift-test.false, c.loop-shift.auto.shift-end)),
      c.loop-shift.invariant.to,
      c.requires.small.divisor,
    )
