-- the edges of this hull decide it, or those of the other
use Rattle.hull_polygon.proofs.Dividing.{divided_turned, each_left, edge_reports, others_report}
use Rattle.hull_polygon.proofs.polygon.Polygon.is_divided.Goals as goal

pub returns-then-has_dividing_edge : goal.returns-then-has_dividing_edge
returns-then-has_dividing_edge c = λ S o T t. (
  λ e. divided_turned T S
      (edge_reports c.has_dividing_edge.result S c.args.self.now.vertices.now T e (c.has_dividing_edge.ensures S o T t)),
  λ _. c.if-has_dividing_edge.true,
)

pub returns-else-has_dividing_edge : goal.returns-else-has_dividing_edge
returns-else-has_dividing_edge c = λ S o T t.
    let V = c.args.self.now.vertices.now in
    let W = c.args.other.now.vertices.now in
    others_report c.has_dividing_edge-else-has_dividing_edge.result S V T W c.args.self.now.last c.args.other.now.last o
    c.args.self.now.separated t c.args.other.now.separated c.requires.this c.requires.that
    (each_left c.has_dividing_edge.result S V T c.if-has_dividing_edge.false (c.has_dividing_edge.ensures S o T t))
    (c.has_dividing_edge-else-has_dividing_edge.ensures T t S o)
