-- the first vertex that is not passed by
use Rattle.std.proofs.Common.{◌≡◌, ℕ, inl, inr, sym, subst, arith}
use Rattle.std.proofs.lemmas.Bool.{cases_lt}
use Rattle.std.specs.List.{Contains}
use Rattle.lattice.specs.Covers.{IsExtreme}
use Rattle.hull_polygon.specs.Closest.{IsPassedBy}
use Rattle.hull_polygon.specs.Rounds.{vertex}
use Rattle.hull_polygon.proofs.Closest.{not_covering}
use Rattle.hull_polygon.proofs.Vertices.{vertex_extreme}
use Rattle.hull_polygon.proofs.Made.{separated_is_polygon}
use Rattle.hull_polygon.proofs.polygon.Polygon.closest_vertex.Goals as goal

pub nearest_outside-place-requires-clause-outside :
    goal.nearest_outside-place-requires-clause-outside
nearest_outside-place-requires-clause-outside c = λ T t.
    let V = c.args.self.now.vertices.now in
    let (S, o) = separated_is_polygon V c.args.self.now.last c.args.self.now.separated in
    not_covering S T c.vertex_at-c.result (c.requires.apart S o T t)
    (subst (Contains S) (sym c.vertex_at-c.ensures)
    (vertex_extreme S V c.loop-i.i o.1 (omega (arith, c.loop-i-test.true))).0)

pub returns-in-Some : goal.returns-in-Some
returns-in-Some c = λ S o T t.
    c.in-Some.ensures S o T
    (subst (IsExtreme S) (sym c.vertex_at-c.ensures)
    (vertex_extreme S c.args.self.now.vertices.now c.loop-i.i o.1 (omega (arith, c.loop-i-test.true))))
    (c.nearest_outside-place.ensures T t)

pub loop-i-preserved : goal.loop-i-preserved
loop-i-preserved c = λ S o T t k l. elim (cases_lt k c.loop-i.i) [
  | inl h ↦ c.loop-i.invariant S o T t k h
  | inr h ↦
      let V = c.args.self.now.vertices.now in
      let e : c.loop-i.i ≡ k = omega (arith, h, l) in
      let passed : IsPassedBy S T c.vertex_at-c.result =
      c.in_default.ensures S o T
      (subst (IsExtreme S) (sym c.vertex_at-c.ensures)
      (vertex_extreme S V c.loop-i.i o.1 (omega (arith, c.loop-i-test.true))))
      (c.nearest_outside-place.ensures T t) in
      subst (λ (n : ℕ). IsPassedBy S T (vertex V n)) e (subst (IsPassedBy S T) c.vertex_at-c.ensures passed)
]

pub returns : goal.returns
returns c = λ S o T t i l. c.loop-i.invariant S o T t i (omega (arith, l, c.loop-i-test.false))
