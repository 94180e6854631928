-- a start that is covered is the entry; else the path enters across its line, or along it
use Rattle.std.proofs.Common.{refl}
use Rattle.std.specs.List.{Contains}
use Rattle.hull_polygon.specs.Raycasts.{moved}
use Rattle.hull_polygon.specs.Rounds.{vertex}
use Rattle.hull_polygon.proofs.Casting.{missed_beside}
use Rattle.lattice.specs.Covers.{IsExtreme}
use Rattle.std.proofs.Common.{sym, subst}
use Rattle.hull_polygon.proofs.Vertices.{vertex_extreme}
use Rattle.hull_polygon.proofs.Hits.{farthest_to_start, goes_over}
use Rattle.hull_polygon.proofs.Made.{separated_is_polygon}
use Rattle.lattice.proofs.Tests.{passed, failed}
use Rattle.hull_polygon.proofs.polygon.Polygon.hit.Goals as goal

pub returns-then-covers : goal.returns-then-covers
returns-then-covers c = λ S o.
    rw (c.hit_at_start-then-covers.ensures) record {
      entry = passed _ _ c.if-covers.true (c.covers.ensures S o);
      part = refl;
      whole = refl;
    }

pub returns-then-covers_start : goal.returns-then-covers_start
returns-then-covers_start c = λ S o.
    rw (c.hit_at_start.ensures) record {
      entry = passed _ _ c.if-covers_start.true (c.covers_start.ensures S o (c.in-Some.ensures S o).left);
      part = refl;
      whole = refl;
    }

pub across-requires : goal.across-requires
across-requires c =
    let (S, o) = separated_is_polygon c.args.self.now.vertices.now c.args.self.now.last c.args.self.now.separated in
    goes_over S _ _ _ _ (c.in-Some.ensures S o)

pub returns-else-covers_start : goal.returns-else-covers_start
returns-else-covers_start c = λ S o.
    c.across.ensures S o.0
    (failed _ _ c.if-covers_start.false (c.covers_start.ensures S o (c.in-Some.ensures S o).left)) (c.in-Some.ensures S o)

pub returns-then-is_beside : goal.returns-then-is_beside
returns-then-is_beside c = λ S o.
    missed_beside S c.args.way.now.start (moved c.args.way.now.start c.args.way.now.along) _ (c.in-None.ensures S o)
    (subst (Contains S) (sym c.vertex_at-first.ensures) (vertex_extreme S c.args.self.now.vertices.now 0 o.1 c.requires).0)
    (passed _ _ c.if-is_beside.true c.is_beside.ensures)

pub returns-else-covers : goal.returns-else-covers
returns-else-covers c = λ S o.
    let V = c.args.self.now.vertices.now in
    let i = c.farthest_place-place.result in
    c.up_to.ensures S o.0 (failed _ _ c.if-covers.false (c.covers.ensures S o)) (
      c.in-None.ensures S o,
      subst (IsExtreme S) (sym c.vertex_at.ensures) (vertex_extreme S V i o.1 c.requires),
      farthest_to_start S c.args.way.now.start c.args.way.now.along _ (vertex V i) _ c.back.ensures c.vertex_at.ensures
          (c.farthest_place-place.ensures.farthest S o).1,
    )
