-- the left end of an edge is on the boundary; after it the sides of the lower and of the upper edge decide
use Rattle.std.proofs.Common.{◌≡◌, ◌∙◌, to_z, of_z, pos, ◌<ℤ◌, length, arith}
use Rattle.std.proofs.lemmas.Int.{ints}
use mir.Syntax.{w128}
use Rattle.lattice.specs.Plane.{Pair, orient}
use Rattle.lattice.proofs.Casts.{cast_side}
use Rattle.hull_geometry.proofs.EdgesAt.{touching_start, seen_by}
use Rattle.hull_polygon.specs.Rounds.{vertex}
use Rattle.hull_polygon.proofs.Vertices.{vertex_back}
use Rattle.hull_polygon.proofs.EdgesAt.{after_start}
use Rattle.lattice.proofs.Tests.{passed, failed}
use Rattle.hull_polygon.proofs.locations.look_between.Goals as goal

pub returns-then-not-before : goal.returns-then-not-before
returns-then-not-before c = λ S o.
    touching_start S c.args.q c.edge_at-edge.result (c.edge_at-edge.ensures S o)
    (failed c.before-2.result _ c.if-not-before.true c.before-2.ensures)

pub returns-then-lower-lt0 : goal.returns-then-lower-lt0
returns-then-lower-lt0 c = λ S o.
    let e : Pair × Pair = c.edge_at-edge.result in
    let low : to_z w128 (of_z w128 c.orient-lower.result) ≡ orient e.0 e.1 c.args.q =
    cast_side _ c.orient-lower.ensures.size ∙ c.orient-lower.ensures.value in
    let under : orient e.0 e.1 c.args.q <ℤ pos 0 = omega (arith, ints, low, c.if-lower-lt0.true) in (
      (
        after_start c.args.vertices.now c.args.last c.args.q e c.requires.separated c.requires.some
            c.edge_at-edge.ensures (passed c.before-2.result _ c.if-not-before.false c.before-2.ensures),
        c.requires.to,
      ),
      (e.0, e.1, (c.edge_at-edge.ensures S o).edge, under),
    )

pub edge_at-upper-requires-clause-to : goal.edge_at-upper-requires-clause-to
edge_at-upper-requires-clause-to c =
    let V = c.args.vertices.now in
    rw (vertex_back V (length V) (omega arith) c.requires.some)
    (after_start V c.args.last c.args.q c.edge_at-edge.result c.requires.separated c.requires.some c.edge_at-edge.ensures
    (passed c.before-2.result _ c.if-not-before.false c.before-2.ensures))

pub returns : goal.returns
returns c = λ S o.
    let e : Pair × Pair = c.edge_at-edge.result in
    let f : Pair × Pair = c.edge_at-upper.result in
    let low : to_z w128 (of_z w128 c.orient-lower.result) ≡ orient e.0 e.1 c.args.q =
    cast_side _ c.orient-lower.ensures.size ∙ c.orient-lower.ensures.value in
    let high : to_z w128 (of_z w128 c.orient.result) ≡ orient f.0 f.1 c.args.q =
    cast_side _ c.orient.ensures.size ∙ c.orient.ensures.value in
    seen_by (vertex c.args.vertices.now 0) (vertex c.args.vertices.now c.args.last) S c.args.q e f c.location_by.result (
      after_start c.args.vertices.now c.args.last c.args.q e c.requires.separated c.requires.some
          c.edge_at-edge.ensures (passed c.before-2.result _ c.if-not-before.false c.before-2.ensures),
      c.requires.to,
    )
    (c.edge_at-edge.ensures S o) (c.edge_at-upper.ensures S o) (rw (low, high) at c.location_by.ensures)
