-- a point above is below after a rotation by 180 degrees, and a tangent point stays one on the same hand
use Rattle.hull_questions.proofs.TurnedTangents.{below_turned, tangent_of_turned, inwards_turned}
use Rattle.hull_questions.proofs.questions.tangents.tangent_on.Goals as goal

pub tangent_from_below-requires-in-Upper-clause-below : goal.tangent_from_below-requires-in-Upper-clause-below
tangent_from_below-requires-in-Upper-clause-below g c =
    rw (c.new.ensures, c.turned.ensures) (below_turned (g.H.Half.tree c.args.half) c.args.q (rw c.in-Upper.is at c.requires).0)

pub tangent_from_below-requires-in-Upper-clause-inwards : goal.tangent_from_below-requires-in-Upper-clause-inwards
tangent_from_below-requires-in-Upper-clause-inwards g c =
    rw (c.new.ensures, c.turned.ensures)
    (inwards_turned c.args.hand (g.H.Half.tree c.args.half) c.args.q (rw c.in-Upper.is at c.requires).1)

pub returns-in-Upper : goal.returns-in-Upper
returns-in-Upper g c =
    rw c.turned-in-Upper.ensures
    (tangent_of_turned c.args.hand (g.H.Half.tree c.args.half) c.args.q c.tangent_from_below-in-Upper.result
    (rw (c.new.ensures, c.turned.ensures) at c.tangent_from_below-in-Upper.ensures))
