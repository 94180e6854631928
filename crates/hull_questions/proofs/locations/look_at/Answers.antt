-- the left end of an edge is on the boundary; after it the sides of the lower and of the upper edge decide
use Rattle.std.proofs.Common.{◌≡◌, ◌∙◌, to_z, of_z, pos, ◌<ℤ◌, arith}
use Rattle.std.proofs.lemmas.Int.{ints}
use Rattle.lattice.proofs.Order.{before_not}
use Rattle.bridge_search.specs.Trees.{Tree, first_of, last_of}
use mir.Syntax.{w128}
use Rattle.lattice.specs.Plane.{Pair, orient}
use Rattle.lattice.proofs.Casts.{cast_side}
use Rattle.bridge_search.specs.Leaves.{points_of}
use Rattle.hull_geometry.specs.Locations.{IsBetweenEnds}
use Rattle.hull_geometry.proofs.EdgesAt.{touching_start, seen_by}
use Rattle.hull_questions.proofs.Sighted.{between_ends}
use Rattle.lattice.proofs.Tests.{passed, failed}
use Rattle.hull_questions.proofs.locations.look_at.Goals as goal

pub returns-then-not-before : goal.returns-then-not-before
returns-then-not-before g c =
    touching_start (points_of (g.H.Half.tree c.args.half)) c.args.q c.args.edge c.requires
    (failed c.before-2.result _ c.if-not-before.true c.before-2.ensures)

pub returns-then-lower-lt0 : goal.returns-then-lower-lt0
returns-then-lower-lt0 g c =
    let t : Tree = g.H.Half.tree c.args.half in
    let low : to_z w128 (of_z w128 c.orient-lower.result) ≡ orient c.args.edge.0 c.args.edge.1 c.args.q =
    cast_side _ c.orient-lower.ensures.size ∙ c.orient-lower.ensures.value in
    let under : orient c.args.edge.0 c.args.edge.1 c.args.q <ℤ pos 0 =
    omega (arith, ints, low, c.if-lower-lt0.true) in (
      between_ends t c.args.q c.args.edge (g.met.H.Half.bridged c.args.half) c.requires
          (passed c.before-2.result _ c.if-not-before.false c.before-2.ensures),
      (c.args.edge.0, c.args.edge.1, c.requires.edge, under),
    )

pub upper_before-upper-requires : goal.upper_before-upper-requires
upper_before-upper-requires g c =
    let t : Tree = g.H.Half.tree c.args.half in
    let i : IsBetweenEnds (first_of t) (last_of t) c.args.q =
    between_ends t c.args.q c.args.edge (g.met.H.Half.bridged c.args.half) c.requires
    (passed c.before-2.result _ c.if-not-before.false c.before-2.ensures) in
    (i.0, before_not c.args.q (last_of t) i.1)

pub returns : goal.returns
returns g c =
    let t : Tree = g.H.Half.tree c.args.half in
    let e : Pair × Pair = c.args.edge in
    let f : Pair × Pair = c.upper_before-upper.result in
    let low : to_z w128 (of_z w128 c.orient-lower.result) ≡ orient e.0 e.1 c.args.q =
    cast_side _ c.orient-lower.ensures.size ∙ c.orient-lower.ensures.value in
    let high : to_z w128 (of_z w128 c.orient.result) ≡ orient f.0 f.1 c.args.q =
    cast_side _ c.orient.ensures.size ∙ c.orient.ensures.value in
    seen_by (first_of t) (last_of t) (points_of t) c.args.q e f c.location_by.result
    (between_ends t c.args.q e (g.met.H.Half.bridged c.args.half) c.requires
    (passed c.before-2.result _ c.if-not-before.false c.before-2.ensures)) c.requires c.upper_before-upper.ensures
    (rw (low, high) at c.location_by.ensures)
