-- an edge with the leftmost point of the other set on its right separates them
use Rattle.std.proofs.Common.{◌+◌, pos, ◌≤ℤ◌, refl, sym, subst}
use Rattle.std.specs.List.{Contains}
use Rattle.lattice.specs.Plane.{Pair, orient}
use Rattle.lattice.specs.Vertices.{IsLeftOf}
use Rattle.hull_polygon.specs.Rounds.{vertex}
use Rattle.hull_polygon.proofs.Vertices.{vertex_extreme, next_left}
use Rattle.hull_polygon.proofs.Witnessed.{separation_beside, right_of_line}
use Rattle.lattice.proofs.Tests.{passed, failed}
use Rattle.lattice.proofs.Numbers.{not_less}
use Rattle.std.proofs.Common.{arith}
use Rattle.hull_polygon.proofs.polygon.Polygon.separation_at.Goals as goal

pub returns-then-is_right : goal.returns-then-is_right
returns-then-is_right c = λ S o T t.
    let V = c.args.self.now.vertices.now in
    let i = c.args.i in
    let a : Pair = c.vertex_at-a.result in
    let b : Pair = c.vertex_at-b.result in
    let left : IsLeftOf S a b =
    subst (IsLeftOf S a) (sym c.vertex_at-b.ensures) (subst (λ (z : Pair). IsLeftOf S z (vertex V (i + 1)))
    (sym c.vertex_at-a.ensures) (next_left S V i (i + 1) o.1 refl c.requires.within)) in
    separation_beside S T a b _
    (subst (Contains S) (sym c.vertex_at-b.ensures)
    (vertex_extreme S V (i + 1) o.1 (omega (arith, c.requires.within))).0)
    left
    (right_of_line T a b _ c.farthest-nearest.result (c.farthest-nearest.ensures T t) c.left_of.ensures
    (passed _ _ c.if-is_right.true c.is_right.ensures))
    c.left_of-then-is_right.ensures

pub returns-else-is_right : goal.returns-else-is_right
returns-else-is_right c = λ S o T t.
    let V = c.args.self.now.vertices.now in
    let z : Pair = c.farthest-nearest.result in
    let side : pos 0 ≤ℤ orient c.vertex_at-a.result c.vertex_at-b.result z =
    not_less _ (pos 0) (failed _ _ c.if-is_right.false c.is_right.ensures) in (
      z,
      (c.farthest-nearest.ensures T t).0,
      subst (λ (y : Pair). pos 0 ≤ℤ orient (vertex V c.args.i) y z) c.vertex_at-b.ensures
          (subst (λ (x : Pair). pos 0 ≤ℤ orient x c.vertex_at-b.result z) c.vertex_at-a.ensures side),
    )
