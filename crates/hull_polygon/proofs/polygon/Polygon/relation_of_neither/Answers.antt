-- hulls that intersect, neither of which contains the other, have at least two vertices
use Rattle.hull_polygon.proofs.Dividing.{apart_reports, many_of_met, intersects_reports, intersects_turned}
use Rattle.hull_polygon.proofs.Made.{separated_is_polygon}
use Rattle.lattice.proofs.Tests.{passed, failed}
use Rattle.hull_polygon.proofs.polygon.Polygon.relation_of_neither.Goals as goal

pub is_divided-requires-clause-this : goal.is_divided-requires-clause-this
is_divided-requires-clause-this c =
    let (S, o) = separated_is_polygon c.args.self.now.vertices.now c.args.self.now.last c.args.self.now.separated in
    let (T, t) = separated_is_polygon c.args.other.now.vertices.now c.args.other.now.last c.args.other.now.separated in
    many_of_met S c.args.self.now.vertices.now T c.args.self.now.last o c.args.self.now.separated t.0
    (c.requires.neither S o T t).1 (intersects_reports _ S T c.if-not-intersects.false (c.intersects.ensures S o T t))

pub is_divided-requires-clause-that : goal.is_divided-requires-clause-that
is_divided-requires-clause-that c =
    let (S, o) = separated_is_polygon c.args.self.now.vertices.now c.args.self.now.last c.args.self.now.separated in
    let (T, t) = separated_is_polygon c.args.other.now.vertices.now c.args.other.now.last c.args.other.now.separated in
    many_of_met T c.args.other.now.vertices.now S c.args.other.now.last t c.args.other.now.separated o.0
    (c.requires.neither S o T t).0 (intersects_turned S T (intersects_reports _ S T c.if-not-intersects.false (c.intersects.ensures S o T t)))

pub returns-then-not-intersects : goal.returns-then-not-intersects
returns-then-not-intersects c = λ S o T t.
    (c.requires.neither S o T t, apart_reports _ S T c.if-not-intersects.true (c.intersects.ensures S o T t))

pub returns-then-is_divided : goal.returns-then-is_divided
returns-then-is_divided c = λ S o T t. (
  c.requires.neither S o T t,
  intersects_reports _ S T c.if-not-intersects.false (c.intersects.ensures S o T t),
  passed _ _ c.if-is_divided.true (c.is_divided.ensures S o T t),
)

pub returns-else-is_divided : goal.returns-else-is_divided
returns-else-is_divided c = λ S o T t. (
  c.requires.neither S o T t,
  intersects_reports _ S T c.if-not-intersects.false (c.intersects.ensures S o T t),
  failed _ _ c.if-is_divided.false (c.is_divided.ensures S o T t),
)
