-- of two disjoint sets one has a closest vertex
use Rattle.hull_polygon.proofs.Closest.{never_all_passed}
use Rattle.hull_polygon.proofs.Made.{separated_is_polygon}
use Rattle.hull_polygon.proofs.Witnessed.{apart_turned}
use Rattle.hull_polygon.proofs.polygon.Polygon.distance_apart.Goals as goal

pub closest_vertex-requires-clause-apart : goal.closest_vertex-requires-clause-apart
closest_vertex-requires-clause-apart c = λ T t S o. apart_turned S T (c.requires.apart S o T t)

pub unreachable-requires : goal.unreachable-requires
unreachable-requires c =
    let V = c.args.self.now.vertices.now in
    let W = c.args.other.now.vertices.now in
    let (S, o) = separated_is_polygon V c.args.self.now.last c.args.self.now.separated in
    let (T, t) = separated_is_polygon W c.args.other.now.last c.args.other.now.separated in
    never_all_passed S V T W c.args.self.now.last c.args.other.now.last o c.args.self.now.separated t
    c.args.other.now.separated c.requires.this c.requires.that (c.requires.apart S o T t)
    (c.in-None.ensures S o T t) (c.in_default.ensures T t S o)

pub returns-in-Some : goal.returns-in-Some
returns-in-Some c = λ S o T t. c.by_other.ensures S T (c.in-Some.ensures T t S o)

pub returns : goal.returns
returns c = λ S o T t. c.by_this.ensures S T (c.in-Some-closest_vertex.ensures S o T t)
