-- a vertex or an edge that passes the test is the nearest
use Rattle.std.proofs.Common.{◌<◌, ◌+◌, length, arith}
use Rattle.hull_polygon.proofs.Vertices.{vertex_extreme, next_left}
use Rattle.hull_polygon.proofs.NearestOf.{farthest_from}
use Rattle.lattice.proofs.Tests.{passed, failed}
use Rattle.hull_polygon.proofs.nearest.nearest_at.Goals as goal

pub returns-then-is_nearest_at : goal.returns-then-is_nearest_at
returns-then-is_nearest_at c = λ S o.
    let V = c.args.vertices.now in
    let i = c.args.i in
    let some : 0 < length V = omega (arith, c.requires.within) in
    rw (c.vertex_at.ensures) record {
      outside = c.requires.outside S o;
      vertex = vertex_extreme S V i o.1 some;
      nearest = farthest_from S V c.args.last i c.args.q o c.requires.separated c.requires.within
          (passed _ _ c.if-is_nearest_at.true c.is_nearest_at.ensures);
    }

pub returns-then-is_beside_at : goal.returns-then-is_beside_at
returns-then-is_beside_at c = λ S o.
    let V = c.args.vertices.now in
    let i = c.args.i in
    let some : 0 < length V = omega (arith, c.requires.within) in
    rw (c.vertex_at-then-is_beside_at.ensures, c.vertex_at-then-is_beside_at-2.ensures) record {
      start = vertex_extreme S V i o.1 some;
      end = vertex_extreme S V (i + 1) o.1 some;
      left = next_left S V i (i + 1) o.1 (omega arith) c.requires.within;
      beside = passed _ _ c.if-is_beside_at.true c.is_beside_at.ensures;
    }

pub returns : goal.returns
returns c = (
  failed _ _ c.if-is_nearest_at.false c.is_nearest_at.ensures,
  failed _ _ c.if-is_beside_at.false c.is_beside_at.ensures,
)
