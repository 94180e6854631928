-- each word of the numerator, with the carry
use Rattle.hull_polygon.proofs.WordsOf.{times_one}
use Rattle.hull_polygon.proofs.squares.times_word.Goals as goal

pub returns-clause-value : goal.returns-clause-value
returns-clause-value c =
    times_one c.args.n.now.high c.args.n.now.middle c.args.n.now.low c.args.by _ _ _ _ _ _
    c.product_and_carried-carried.ensures.value c.product_and_carried-above.ensures.value
    c.product_and_carried-fourth.ensures.value
