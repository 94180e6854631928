-- both rectangles have the point
use Rattle.std.proofs.Common.{arith}
use Rattle.std.proofs.lemmas.Int.{ints}
use Rattle.hull_plain.proofs.octagon.Octagon.has_point.Goals as goal

pub returns-then-is_in_rectangle : goal.returns-then-is_in_rectangle
returns-then-is_in_rectangle c =
    let upright = c.is_in_rectangle.ensures.0 c.if-is_in_rectangle.true in
    let diagonal = c.is_in_rectangle-then-is_in_rectangle.ensures in (
      λ t. (
        (
          (omega (arith, ints, upright.0.0), omega (arith, ints, upright.0.1)),
          (omega (arith, ints, upright.1.0), omega (arith, ints, upright.1.1)),
        ),
        (
          (omega (arith, ints, (diagonal.0 t).0.0), omega (arith, ints, (diagonal.0 t).0.1)),
          (omega (arith, ints, (diagonal.0 t).1.0), omega (arith, ints, (diagonal.0 t).1.1)),
        ),
      ),
      λ h. diagonal.1 (
        (omega (arith, ints, h.1.0.0), omega (arith, ints, h.1.0.1)),
        (omega (arith, ints, h.1.1.0), omega (arith, ints, h.1.1.1)),
      ),
    )
