-- after the last index is the first vertex
use Rattle.std.proofs.Common.{sym, arith}
use Rattle.hull_polygon.proofs.Vertices.{vertex_back}
use Rattle.hull_polygon.proofs.indices.wrapped.Goals as goal

pub returns-else-place-vertices-clause-same : goal.returns-else-place-vertices-clause-same
returns-else-place-vertices-clause-same c = sym (vertex_back c.args.vertices.now c.args.place (omega (arith, c.if-place-vertices.false)) c.requires.some)
