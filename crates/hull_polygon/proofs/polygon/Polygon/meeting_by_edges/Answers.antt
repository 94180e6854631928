-- a covered vertex or an edge that intersects gives a common point; if there is none the sets are disjoint
use Rattle.std.proofs.Common.{◌≡◌, ℕ, ◌+◌, ◌<◌, length, inl, inr, sym, ◌∙◌, subst, arith}
use Rattle.std.proofs.lemmas.Bool.{cases_lt}
use Rattle.std.specs.List.{Contains}
use Rattle.lattice.specs.Plane.{Pair}
use Rattle.hull_polygon.specs.Meetings.{AreDisjoint, segment}
use Rattle.hull_polygon.specs.Rounds.{vertex}
use Rattle.hull_polygon.proofs.Vertices.{vertex_extreme}
use Rattle.hull_polygon.proofs.Shields.{one_of_two}
use Rattle.hull_polygon.proofs.Together.{apart_from_edges}
use Rattle.hull_polygon.proofs.Witnessed.{meeting_more}
use Rattle.lattice.proofs.Tests.{passed, failed}
use Rattle.hull_polygon.proofs.polygon.Polygon.meeting_by_edges.Goals as goal

pub returns-then-covers : goal.returns-then-covers
returns-then-covers c = λ S o T t. (
  subst (Contains S) (sym c.vertex_at-first.ensures)
      (vertex_extreme S c.args.self.now.vertices.now 0 o.1 c.requires.this).0,
  passed _ _ c.if-covers.true (c.covers.ensures T t),
)

pub returns-in-Some : goal.returns-in-Some
returns-in-Some c = λ S o T t.
    let W = c.args.other.now.vertices.now in
    let i = c.loop-i.i in
    let n : 0 < length W = omega (arith, c.loop-i-test.true) in
    let a : Pair = c.vertex_at.result in
    let b : Pair = c.vertex_at-in-loop-i.result in
    meeting_more S (segment a b) T c.in-Some.meeting
    (λ z mz. elim (one_of_two a b z mz) [
      | inl e ↦ subst (Contains T) (sym (e ∙ c.vertex_at.ensures)) (vertex_extreme T W i t.1 n).0
      | inr e ↦ subst (Contains T) (sym (e ∙ c.vertex_at-in-loop-i.ensures)) (vertex_extreme T W (i + 1) t.1 n).0
    ]) (c.in-Some.ensures S o)

pub loop-i-preserved : goal.loop-i-preserved
loop-i-preserved c = λ S o k l. elim (cases_lt k c.loop-i.i) [
  | inl h ↦ c.loop-i.invariant S o k h
  | inr h ↦
      let W = c.args.other.now.vertices.now in
      let e : c.loop-i.i ≡ k = omega (arith, h, l) in
      let apart : AreDisjoint S (segment c.vertex_at.result c.vertex_at-in-loop-i.result) = c.in_default.ensures S o in
      subst (λ (n : ℕ). AreDisjoint S (segment (vertex W n) (vertex W (n + 1)))) e
      (subst (λ (z : Pair). AreDisjoint S (segment (vertex W c.loop-i.i) z)) c.vertex_at-in-loop-i.ensures
      (subst (λ (z : Pair). AreDisjoint S (segment z c.vertex_at-in-loop-i.result)) c.vertex_at.ensures apart))
]

pub returns : goal.returns
returns c = λ S o T t.
    apart_from_edges S T c.args.other.now.vertices.now c.args.other.now.last c.vertex_at-first.result t
    c.args.other.now.separated c.requires.that
    (subst (Contains S) (sym c.vertex_at-first.ensures)
    (vertex_extreme S c.args.self.now.vertices.now 0 o.1 c.requires.this).0)
    (failed _ _ c.if-covers.false (c.covers.ensures T t))
    (λ i l. c.loop-i.invariant S o i (omega (arith, l, c.loop-i-test.false)))
