-- a vertex that is not covered is covered by the other set; if all are covered, so is each point that that set covers
use Rattle.std.proofs.Common.{◌≡◌, ℕ, arith, inl, inr, refl, sym, subst}
use Rattle.std.proofs.lemmas.Bool.{cases_lt}
use Rattle.std.specs.List.{Contains}
use Rattle.std.specs.Prelude.{IsTrue, ◌↔◌}
use Rattle.lattice.specs.Plane.{Pair}
use Rattle.lattice.specs.Covers.{Covers, Member}
use Rattle.hull_polygon.specs.Rounds.{vertex}
use Rattle.hull_polygon.proofs.Vertices.{vertex_extreme, read_vertex}
use Rattle.hull_polygon.proofs.Switches.{holds_by_vertices}
use Rattle.lattice.proofs.Tests.{passed, failed}
use Rattle.hull_polygon.proofs.polygon.Polygon.contains.Goals as goal

pub returns-then-not-covers : goal.returns-then-not-covers
returns-then-not-covers c = λ S o T t.
    let W = c.args.other.now.vertices.now in
    let x : Pair = c.index-other-i.result in
    let e : x ≡ vertex W c.loop-i.i = read_vertex W c.loop-i.i x c.loop-i-test.true c.index-other-i.is in
    let returned : IsTrue c.covers.result ↔ Covers S x =
    subst (λ (z : Pair). IsTrue c.covers.result ↔ Covers S z) (sym c.index-other-i.is) (c.covers.ensures S o) in
    let m : Contains T x =
    subst (Contains T) (sym e) (vertex_extreme T W c.loop-i.i t.1 (omega (arith, c.loop-i-test.true))).0 in (
      λ k. absurd (grind (arith, k)),
      λ h. absurd (failed c.covers.result _ c.if-not-covers.true returned (h x (Member m))),
    )

pub loop-i-preserved : goal.loop-i-preserved
loop-i-preserved c = λ S o k l. elim (cases_lt k c.loop-i.i) [
  | inl h ↦ c.loop-i.invariant S o k h
  | inr h ↦
      let W = c.args.other.now.vertices.now in
      let x : Pair = c.index-other-i.result in
      let e : x ≡ vertex W c.loop-i.i = read_vertex W c.loop-i.i x c.loop-i-test.true c.index-other-i.is in
      let returned : IsTrue c.covers.result ↔ Covers S x =
      subst (λ (z : Pair). IsTrue c.covers.result ↔ Covers S z) (sym c.index-other-i.is) (c.covers.ensures S o) in
      let at : c.loop-i.i ≡ k = omega (arith, h, l) in
      subst (λ (n : ℕ). Covers S (vertex W n)) at
      (subst (Covers S) e (passed c.covers.result _ c.if-not-covers.false returned))
]

pub returns : goal.returns
returns c = λ S o T t. (
  λ k. holds_by_vertices S T c.args.other.now.vertices.now c.args.other.now.last o.0 t c.args.other.now.separated
      (λ i l. c.loop-i.invariant S o i (omega (arith, l, c.loop-i-test.false))),
  λ h. refl,
)
