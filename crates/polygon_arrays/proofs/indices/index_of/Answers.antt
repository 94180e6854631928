-- the vertices up to the last one are the lower chain, and those from it on the upper one
use Rattle.std.proofs.Common.{List, length, ◌<◌, subst, sym, arith}
use Rattle.std.proofs.lemmas.Grind.{common_steps}
use Rattle.lattice.specs.Plane.{Pair}
use Rattle.hull_polygon.specs.Rounds.{IsSeparated}
use Rattle.polygon_arrays.proofs.Chains.{lower_along, upper_along}
use Rattle.polygon_arrays.proofs.indices.index_of.Goals as goal

pub index_on-requires-clause-chain : goal.index_on-requires-clause-chain
index_on-requires-clause-chain c =
    let some : 0 < length c.vertices-vertices.result.now = grind (arith, common_steps) in
    lower_along c.vertices-vertices.result.now c.last-last.result
    (subst (λ (z : List Pair). IsSeparated z c.last-last.result) (sym c.vertices-vertices.ensures.vertices) c.last-last.ensures)
    some

pub index_on-requires-in-None-clause-chain : goal.index_on-requires-in-None-clause-chain
index_on-requires-in-None-clause-chain c =
    upper_along c.vertices-vertices.result.now c.last-last.result
    (subst (λ (z : List Pair). IsSeparated z c.last-last.result) (sym c.vertices-vertices.ensures.vertices) c.last-last.ensures)
