-- the two sides that are passed on are the weights of the crossing
use Rattle.lattice.proofs.Casts.{cast_side}
use Rattle.lattice.proofs.crossing.crossing_at_or_before.Goals as goal

pub returns : goal.returns
returns c =
    rw (
      cast_side c.orient.result c.orient.ensures.size,
      cast_side c.orient-2.result c.orient-2.ensures.size,
      c.orient.ensures.value,
      c.orient-2.ensures.value,
    ) at c.weighted_at_or_before.ensures
