-- the bits that there is room for, and those that are left
use Rattle.std.proofs.Common.{arith}
use Rattle.hull_polygon.proofs.Scaled.{moved_below, moved_up}
use Rattle.hull_polygon.proofs.roundings.raised.Goals as goal

pub returns-then-number-taken-eq0-clause-value : goal.returns-then-number-taken-eq0-clause-value
returns-then-number-taken-eq0-clause-value c =
    moved_up c.args.number c.args.exponent c.min-taken.result (omega (arith, c.min-taken.ensures))
    c.if-taken-lt-DIGIT_BITS.true c.if-number-taken-eq0.true

pub returns-then-number-taken-eq0-clause-digit : goal.returns-then-number-taken-eq0-clause-digit
returns-then-number-taken-eq0-clause-digit c =
    moved_below c.args.number c.min-taken.result c.if-taken-lt-DIGIT_BITS.true c.if-number-taken-eq0.true
