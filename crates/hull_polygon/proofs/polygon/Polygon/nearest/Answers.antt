-- no vertices, a covered point, or one outside
use Rattle.std.proofs.Common.{arith}
use Rattle.hull_polygon.proofs.Ends.{no_vertices}
use Rattle.lattice.proofs.Tests.{passed, failed}
use Rattle.hull_polygon.proofs.polygon.Polygon.nearest.Goals as goal

pub returns-then-is_empty : goal.returns-then-is_empty
returns-then-is_empty c = λ S o. no_vertices S c.args.self.now.vertices.now o
    (grind (arith, c.is_empty.ensures, c.if-is_empty.true))

pub returns-then-covers : goal.returns-then-covers
returns-then-covers c = λ S o. passed _ _ c.if-covers.true (c.covers.ensures S o)

pub nearest_outside-requires-clause-outside : goal.nearest_outside-requires-clause-outside
nearest_outside-requires-clause-outside c = λ S o. failed _ _ c.if-covers.false (c.covers.ensures S o)
