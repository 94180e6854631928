-- an edge that does not have the leftmost point of the other set on its left divides the two
use Rattle.std.proofs.Common.{◌≡◌, ℕ, ◌+◌, pos, ◌<ℤ◌, inl, inr, sym, subst, arith}
use Rattle.std.proofs.lemmas.Bool.{cases_lt}
use Rattle.lattice.specs.Plane.{Pair, orient}
use Rattle.hull_polygon.specs.Rounds.{vertex}
use Rattle.hull_polygon.specs.Steps.{left_of}
use Rattle.hull_polygon.proofs.Dividing.{divided_by_edge}
use Rattle.lattice.proofs.Tests.{passed, failed}
use Rattle.hull_polygon.proofs.polygon.Polygon.has_dividing_edge.Goals as goal

pub returns-then-not-is_left : goal.returns-then-not-is_left
returns-then-not-is_left c = λ S o T t.
    let V = c.args.self.now.vertices.now in
    let i = c.loop-i.i in
    divided_by_edge S V T i _ c.farthest-nearest.result o c.loop-i-test.true c.requires.this
    (subst (λ (z : Pair). c.left_of.result ≡ left_of z (vertex V (i + 1))) c.vertex_at-a.ensures
    (subst (λ (z : Pair). c.left_of.result ≡ left_of c.vertex_at-a.result z) c.vertex_at-b.ensures c.left_of.ensures))
    (c.farthest-nearest.ensures T t)
    (λ h. failed _ _ c.if-not-is_left.true c.is_left.ensures
    (subst (λ (z : Pair). pos 0 <ℤ orient z c.vertex_at-b.result c.farthest-nearest.result) (sym c.vertex_at-a.ensures)
    (subst (λ (z : Pair). pos 0 <ℤ orient (vertex V i) z c.farthest-nearest.result) (sym c.vertex_at-b.ensures) h)))

pub loop-i-preserved : goal.loop-i-preserved
loop-i-preserved c = λ T t k l. elim (cases_lt k c.loop-i.i) [
  | inl h ↦ c.loop-i.invariant T t k h
  | inr h ↦
      let V = c.args.self.now.vertices.now in
      let e : c.loop-i.i ≡ k = omega (arith, h, l) in
      let z : Pair = c.farthest-nearest.result in (
        z,
        (c.farthest-nearest.ensures T t).0,
        subst (λ (n : ℕ). pos 0 <ℤ orient (vertex V n) (vertex V (n + 1)) z) e
            (subst (λ (y : Pair). pos 0 <ℤ orient (vertex V c.loop-i.i) y z) c.vertex_at-b.ensures
            (subst (λ (x : Pair). pos 0 <ℤ orient x c.vertex_at-b.result z) c.vertex_at-a.ensures
            (passed _ _ c.if-not-is_left.false c.is_left.ensures))),
      )
]
