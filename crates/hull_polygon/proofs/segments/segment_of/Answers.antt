-- two points in order, and a single one, are the polygon of their set
use Rattle.std.proofs.Common.{◌≡◌, ℕ, ◌<◌, ◌∙◌, get_or, List, [], ◌∷◌, length, take, sym, subst, arith}
use Rattle.lattice.specs.Plane.{Pair, IsBefore}
use Rattle.hull_geometry.specs.Positions.{origin, point_at}
use Rattle.hull_geometry.proofs.PointLists.{get_or_free}
use Rattle.hull_polygon.specs.Polygons.{IsShortPolygon}
use Rattle.hull_polygon.specs.Segments.{ends}
use Rattle.hull_polygon.proofs.TwoPoints.{ends_few, ends_in_order, ends_polygon, first_alone, one_of_two_points, two_of}
use Rattle.lattice.proofs.Tests.{passed, failed}
use Rattle.hull_polygon.proofs.segments.segment_of.Goals as goal

-- the ends are a polygon, which is short
short : (V : List Pair) (a b : Pair) → V ≡ ends a b → IsShortPolygon V
short V a b e = subst IsShortPolygon (sym e) ((ends a b, ends_polygon a b), omega (arith, ends_few a b))

-- a point that was read at an index is there
read : (V : List Pair) (i : ℕ) (x : Pair) → i < length V → x ≡ get_or V i x → x ≡ point_at V i
read V i x l e = e ∙ get_or_free V i x origin l

-- both points are the set of the ends, if the first is before the second
both : (V : List Pair) (x y : Pair) → length V ≡ 2 → x ≡ get_or V 0 x → y ≡ get_or V 1 y → IsBefore x y
    → V ≡ ends (point_at V 0) (point_at V 1)
both V x y l ex ey b =
    two_of V l
    ∙ sym (ends_in_order (point_at V 0) (point_at V 1)
    (subst (λ (z : Pair). IsBefore z (point_at V 1)) (read V 0 x (omega (arith, l)) ex)
    (subst (IsBefore x) (read V 1 y (omega (arith, l)) ey) b)))

-- the first point is the set of the ends, if it is not before the second
alone : (V : List Pair) (x y : Pair) → length V ≡ 2 → x ≡ get_or V 0 x → y ≡ get_or V 1 y → ¬ IsBefore x y
    → ¬ IsBefore (point_at V 1) (point_at V 0) → point_at V 0 ∷ [] ≡ ends (point_at V 0) (point_at V 1)
alone V x y l ex ey n m =
    first_alone (point_at V 0) (point_at V 1)
    (λ b. n (subst (λ (z : Pair). IsBefore z y) (sym (read V 0 x (omega (arith, l)) ex))
    (subst (IsBefore (point_at V 0)) (sym (read V 1 y (omega (arith, l)) ey)) b)))
    m

pub of_vertices-requires : goal.of_vertices-requires
of_vertices-requires c =
    let V = c.args.points.now in
    short V (point_at V 0) (point_at V 1)
    (both V c.index-points-0.result c.index-points-1.result c.requires.two c.index-points-0.is c.index-points-1.is
    (passed _ _ c.if-before.true c.before-2.ensures))

pub of_vertices-requires-else-before : goal.of_vertices-requires-else-before
of_vertices-requires-else-before c =
    let V = c.args.points.now in
    short (take 1 V) (point_at V 0) (point_at V 1)
    (one_of_two_points V c.requires.two
    ∙ alone V c.index-points-0.result c.index-points-1.result c.requires.two c.index-points-0.is c.index-points-1.is
    (failed _ _ c.if-before.false c.before-2.ensures) c.requires.order)

pub returns-then-before : goal.returns-then-before
returns-then-before c =
    let V = c.args.points.now in
    c.of_vertices.ensures
    ∙ both V c.index-points-0.result c.index-points-1.result c.requires.two c.index-points-0.is c.index-points-1.is
    (passed _ _ c.if-before.true c.before-2.ensures)

pub returns-else-before : goal.returns-else-before
returns-else-before c =
    let V = c.args.points.now in
    c.of_vertices-else-before.ensures ∙ one_of_two_points V c.requires.two
    ∙ alone V c.index-points-0.result c.index-points-1.result c.requires.two c.index-points-0.is c.index-points-1.is
    (failed _ _ c.if-before.false c.before-2.ensures) c.requires.order
