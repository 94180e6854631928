-- an edge that does not separate the sets has a point of the other on its left
use Rattle.std.proofs.Common.{◌≡◌, ℕ, inl, inr, subst, arith}
use Rattle.std.proofs.lemmas.Bool.{cases_lt}
use Rattle.hull_polygon.specs.Separations.{HasOnLeftOfEdge}
use Rattle.hull_polygon.proofs.polygon.Polygon.separation_by_edge.Goals as goal

pub loop-i-preserved : goal.loop-i-preserved
loop-i-preserved c = λ S o T t k l. elim (cases_lt k c.loop-i.i) [
  | inl h ↦ c.loop-i.invariant S o T t k h
  | inr h ↦
      let e : c.loop-i.i ≡ k = omega (arith, h, l) in
      subst (λ (n : ℕ). HasOnLeftOfEdge c.args.self.now.vertices.now n T) e (c.in_default.ensures S o T t)
]

pub returns : goal.returns
returns c = λ S o T t i l. c.loop-i.invariant S o T t i (omega (arith, l, c.loop-i-test.false))
