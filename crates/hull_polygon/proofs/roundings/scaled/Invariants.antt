-- the square times a power of four, which is not too large
use Rattle.std.proofs.Common.{◌≡◌, ◌*◌, ◌^◌, ◌<◌}
use Rattle.hull_polygon.specs.Roundings.{full}
use Rattle.hull_polygon.specs.Wide.{HasDigits, number_of}
use Rattle.hull_polygon.proofs.roundings.scaled.Given as goal

abbrev pub invariant-loop-shift : goal.invariant-loop-shift
invariant-loop-shift l = record {
  value : number_of l.number ≡ l.fn.factors.first * l.fn.factors.second * 4 ^ l.shift;
  digits : HasDigits l.number;
  to : number_of l.number < 4 * (full * full * l.fn.factors.divisor);
}
