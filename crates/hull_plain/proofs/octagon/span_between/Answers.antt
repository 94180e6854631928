-- the greater of the two lower bounds, and the lower of the two upper ones
use Rattle.std.proofs.Common.{arith}
use Rattle.std.proofs.lemmas.Int.{ints, clamps}
use Rattle.hull_plain.proofs.octagon.span_between.Goals as goal

pub returns : goal.returns
returns c = λ z.
    let low = c.max.ensures.value in
    let high = c.min.ensures.value in (
      λ h. (omega (arith, ints, clamps, h.0), omega (arith, ints, clamps, h.0), omega (arith, ints, clamps, h.1), omega (arith, ints, clamps, h.1)),
      λ h. (omega (arith, ints, clamps, h.0, h.1), omega (arith, ints, clamps, h.2, h.3)),
    )
