-- each word of the denominator
use Rattle.std.proofs.Common.{◌∙◌}
use Rattle.hull_polygon.specs.Squares.{numerator_of}
use Rattle.hull_polygon.proofs.WordsOf.{times_two}
use Rattle.hull_polygon.proofs.squares.product.Goals as goal

pub returns-clause-value : goal.returns-clause-value
returns-clause-value c =
    c.sum_of_shifted.ensures.value
    ∙ times_two (numerator_of c.args.n.now) c.args.d.now.divisor_high c.args.d.now.divisor_low _ _
    c.times_word-above.ensures.value c.times_word-below.ensures.value
