-- the vertices of its edge, and the point opposite
use Rattle.hull_polygon.proofs.strips.strip_at.Goals as goal

pub returns : goal.returns
returns c = λ S o. record {
  from_vertex = c.vertex_at.ensures;
  to_next = c.vertex_at-2.ensures;
  opposite = c.opposite.ensures S o;
}
