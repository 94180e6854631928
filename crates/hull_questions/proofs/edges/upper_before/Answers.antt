-- the lower edge of the half rotated by 180 degrees is the upper edge, rotated
use Rattle.hull_questions.proofs.TurnedEdges.{inside_turned, upper_of_turned}
use Rattle.hull_questions.proofs.edges.upper_before.Goals as goal

pub lower_after-edge-requires : goal.lower_after-edge-requires
lower_after-edge-requires g c =
    rw (c.new.ensures, c.turned.ensures) (inside_turned (g.H.Half.tree c.args.half) c.args.v c.requires)

pub returns : goal.returns
returns g c =
    rw (c.turned-2.ensures, c.turned-3.ensures)
    (upper_of_turned (g.H.Half.tree c.args.half) c.args.v c.lower_after-edge.result
    (rw (c.new.ensures, c.turned.ensures) at c.lower_after-edge.ensures))
