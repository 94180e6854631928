-- a vertex that does not lie inside is covered by the other set; if all lie inside, so does each point that that set
-- covers
use Rattle.std.proofs.Common.{◌≡◌, ℕ, arith, inl, inr, refl, sym, subst}
use Rattle.std.proofs.lemmas.Bool.{cases_lt}
use Rattle.std.specs.Prelude.{IsTrue, ◌↔◌}
use Rattle.lattice.specs.Plane.{Pair}
use Rattle.lattice.specs.Places.{IsInside}
use Rattle.hull_polygon.specs.Rounds.{vertex}
use Rattle.hull_polygon.proofs.Vertices.{read_vertex}
use Rattle.hull_polygon.proofs.Insides.{vertex_inside, inside_by_vertices}
use Rattle.lattice.proofs.Tests.{passed, failed}
use Rattle.hull_polygon.proofs.polygon.Polygon.contains_inside.Goals as goal

pub returns-then-not-lies_inside : goal.returns-then-not-lies_inside
returns-then-not-lies_inside c = λ S o T t.
    let W = c.args.other.now.vertices.now in
    let x : Pair = c.index-other-i.result in
    let e : x ≡ vertex W c.loop-i.i = read_vertex W c.loop-i.i x c.loop-i-test.true c.index-other-i.is in
    let returned : IsTrue c.lies_inside.result ↔ IsInside S (vertex W c.loop-i.i) =
    subst (λ (z : Pair). IsTrue c.lies_inside.result ↔ IsInside S z) e
    (subst (λ (z : Pair). IsTrue c.lies_inside.result ↔ IsInside S z) (sym c.index-other-i.is) (c.lies_inside.ensures S o)) in (
      λ k. absurd (grind (arith, k)),
      λ h. absurd (failed c.lies_inside.result _ c.if-not-lies_inside.true returned (vertex_inside S T W c.loop-i.i t c.loop-i-test.true h)),
    )

pub loop-i-preserved : goal.loop-i-preserved
loop-i-preserved c = λ S o k l. elim (cases_lt k c.loop-i.i) [
  | inl h ↦ c.loop-i.invariant S o k h
  | inr h ↦
      let W = c.args.other.now.vertices.now in
      let x : Pair = c.index-other-i.result in
      let e : x ≡ vertex W c.loop-i.i = read_vertex W c.loop-i.i x c.loop-i-test.true c.index-other-i.is in
      let returned : IsTrue c.lies_inside.result ↔ IsInside S x =
      subst (λ (z : Pair). IsTrue c.lies_inside.result ↔ IsInside S z) (sym c.index-other-i.is) (c.lies_inside.ensures S o) in
      let at : c.loop-i.i ≡ k = omega (arith, h, l) in
      subst (λ (n : ℕ). IsInside S (vertex W n)) at
      (subst (IsInside S) e (passed c.lies_inside.result _ c.if-not-lies_inside.false returned))
]

pub returns : goal.returns
returns c = λ S o T t. (
  λ k. inside_by_vertices S T c.args.other.now.vertices.now c.args.other.now.last o.0 t c.args.other.now.separated
      (λ i l. c.loop-i.invariant S o i (omega (arith, l, c.loop-i-test.false))),
  λ h. refl,
)
