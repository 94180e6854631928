-- the witness is a separation
use Rattle.std.proofs.Common.{subst}
use Rattle.hull_polygon.specs.Witnesses.{IsWitness}
use Rattle.hull_polygon.proofs.polygon.Polygon.by_first_edge.Goals as goal

pub first_separation-requires-clause-parts : goal.first_separation-requires-clause-parts
first_separation-requires-clause-parts c = λ S o T t. subst (IsWitness S T) c.in-Disjoint.is (c.requires.shown S o T t)
