-- one of two disjoint sets has an edge that separates them
use Rattle.hull_polygon.proofs.Made.{separated_is_polygon}
use Rattle.hull_polygon.proofs.Witnessed.{not_both_left}
use Rattle.hull_polygon.proofs.polygon.Polygon.separation_from_many.Goals as goal

pub unreachable-requires : goal.unreachable-requires
unreachable-requires c =
    let V = c.args.self.now.vertices.now in
    let W = c.args.other.now.vertices.now in
    let (S, o) = separated_is_polygon V c.args.self.now.last c.args.self.now.separated in
    let (T, t) = separated_is_polygon W c.args.other.now.last c.args.other.now.separated in
    not_both_left S V T W c.args.self.now.last c.args.other.now.last o c.args.self.now.separated t
    c.args.other.now.separated c.requires.this c.requires.that (c.requires.apart S o T t)
    (c.in_default.ensures S o T t) (c.in-None.ensures T t S o)
