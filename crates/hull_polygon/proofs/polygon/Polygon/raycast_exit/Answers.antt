-- the path exits where the opposite path would enter
use Rattle.std.proofs.Common.{None, arith, sym, subst}
use Rattle.std.specs.List.{Contains}
use Rattle.lattice.specs.Covers.{IsExtreme}
use Rattle.lattice.specs.Places.{IsFarthest}
use Rattle.hull_polygon.specs.Raycasts.{moved}
use Rattle.hull_polygon.proofs.Casting.{missed_beside}
use Rattle.hull_polygon.proofs.Vertices.{vertex_extreme}
use Rattle.hull_polygon.proofs.Ends.{no_vertices}
use Rattle.hull_polygon.proofs.Hits.{crossed_back, goes_over, last_along, not_crossed_back, nothing_there}
use Rattle.hull_polygon.proofs.Leaving.{uncrossed_back}
use Rattle.hull_polygon.proofs.Made.{separated_is_polygon}
use Rattle.lattice.proofs.Tests.{passed}
use Rattle.hull_polygon.proofs.polygon.Polygon.raycast_exit.Goals as goal

pub returns-then-is_empty : goal.returns-then-is_empty
returns-then-is_empty c = λ S o.
    nothing_there S c.args.start (moved c.args.start c.args.direction)
    (no_vertices S c.args.self.now.vertices.now o (grind (arith, c.is_empty.ensures, c.if-is_empty.true)))

pub out_across-requires : goal.out_across-requires
out_across-requires c =
    let (S, o) = separated_is_polygon c.args.self.now.vertices.now c.args.self.now.last c.args.self.now.separated in
    goes_over S _ _ _ _
    (crossed_back S _ _ c.args.start c.along.result _ _ c.back.ensures.start c.back.ensures.along (c.in-Some.ensures S o))

pub returns-in-Some : goal.returns-in-Some
returns-in-Some c = λ S o.
    last_along S c.args.start c.along.result c.args.direction _ c.along.ensures
    (c.out_across.ensures S
    (crossed_back S _ _ c.args.start c.along.result _ _ c.back.ensures.start c.back.ensures.along (c.in-Some.ensures S o)))

pub returns-then-is_beside : goal.returns-then-is_beside
returns-then-is_beside c = λ S o.
    last_along S c.args.start c.along.result c.args.direction None c.along.ensures
    (missed_beside S c.args.start (moved c.args.start c.along.result) c.vertex_at-vertex.result
    (uncrossed_back S c.args.start c.along.result
    (not_crossed_back S _ _ c.args.start c.along.result c.back.ensures.start c.back.ensures.along (c.in-None.ensures S o)))
    (subst (Contains S) (sym c.vertex_at-vertex.ensures)
    (vertex_extreme S c.args.self.now.vertices.now 0 o.1 (grind (arith, c.is_empty.ensures, c.if-is_empty.false))).0)
    (passed _ _ c.if-is_beside.true c.is_beside.ensures))

pub returns-else-is_beside : goal.returns-else-is_beside
returns-else-is_beside c = λ S o.
    let V = c.args.self.now.vertices.now in
    let i = c.farthest_place-place.result in
    last_along S c.args.start c.along.result c.args.direction _ c.along.ensures
    (c.out_at.ensures S (
      uncrossed_back S c.args.start c.along.result
          (not_crossed_back S _ _ c.args.start c.along.result c.back.ensures.start c.back.ensures.along (c.in-None.ensures S o)),
      subst (IsExtreme S) (sym c.vertex_at.ensures) (vertex_extreme S V i o.1 (grind (arith, c.is_empty.ensures, c.if-is_empty.false))),
      subst (IsFarthest S c.along.result) (sym c.vertex_at.ensures) (c.farthest_place-place.ensures.farthest S o).1,
    ))
