-- a side is at most the product of the edge and the distance to the point
use Rattle.hull_polygon.proofs.FactorsOf.{quotient_small}
use Rattle.hull_polygon.proofs.factors.beside.Goals as goal

pub returns-clause-small : goal.returns-clause-small
returns-clause-small c = record {
  first = c.distance_beside-side.ensures.size;
  second = c.distance_beside-side.ensures.size;
  divisor = c.length_of.ensures.size;
  quotient = quotient_small c.args.a c.args.b c.args.t c.distance_beside-side.result c.length_of.result
      c.length_of-at_most.result _ c.distance_beside-side.ensures.value c.length_of.ensures.value
      c.length_of-at_most.ensures.value c.length_of-at_most.ensures.size;
}
