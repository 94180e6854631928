-- the vertex, if q lies in the direction of neither of those beside it, or the edge, if q lies beside it
use Rattle.std.proofs.Common.{◌≡◌, ◌<◌, ◌+◌, ◌∙◌, sym, subst, length, arith, false, true}
use Rattle.lattice.specs.Plane.{Pair}
use Rattle.lattice.proofs.Tests.{passed}
use Rattle.hull_set.specs.PointLists.{is_same_pair}
use Rattle.hull_set.proofs.HeldMultiplicities.{same_true}
use Rattle.hull_polygon.specs.Rounds.{vertex}
use Rattle.hull_polygon.proofs.Neighbours.{outside_from}
use Rattle.hull_polygon.proofs.NearestOf.{farthest_from}
use Rattle.hull_polygon.proofs.Vertices.{vertex_extreme, next_left}
use Rattle.hull_polygon.proofs.nearest.nearest_there.Goals as goal

pub returns-then-is_nearest_at : goal.returns-then-is_nearest_at
returns-then-is_nearest_at c = λ S o.
    let V = c.args.vertices.now in
    let i = c.args.i in
    let far = farthest_from S V c.args.last i c.args.q o c.requires.separated c.requires.within
    (passed _ _ c.if-is_nearest_at.true c.is_nearest_at.ensures) in
    rw (c.vertex_at-c.ensures) record {
      outside = outside_from S (vertex V i) c.args.q (λ e. apart (c.vertex_at-c.ensures ∙ e)) far;
      vertex = vertex_extreme S V i o.1 (omega (arith, c.requires.within));
      nearest = far;
    }
  where
    apart : c.vertex_at-c.result ≡ c.args.q → ⊥
    apart e =
        let there : is_same_pair c.vertex_at-c.result c.args.q ≡ true =
        subst (λ (z : Pair). is_same_pair z c.args.q ≡ true) (sym e) (same_true c.args.q) in
        let here : is_same_pair c.vertex_at-c.result c.args.q ≡ false = sym c.eq.ensures ∙ c.if-eq.false in cc

pub returns-then-is_beside_at : goal.returns-then-is_beside_at
returns-then-is_beside_at c = λ S o.
    let V = c.args.vertices.now in
    let i = c.args.i in
    let some : 0 < length V = omega (arith, c.requires.within) in
    rw (c.vertex_at-c.ensures, c.vertex_at.ensures) record {
      start = vertex_extreme S V i o.1 some;
      end = vertex_extreme S V (i + 1) o.1 some;
      left = next_left S V i (i + 1) o.1 (omega arith) c.requires.within;
      beside = passed _ _ c.if-is_beside_at.true c.is_beside_at.ensures;
    }
