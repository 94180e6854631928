-- each step goes into the half that has the tangent point; if a half is one point, that is the tangent point
use Rattle.hull_questions.proofs.TangentParts.{alone}
use Rattle.hull_questions.proofs.questions.tangents.tangent_from_below.Goals as goal

pub loop-next-preserved : goal.loop-next-preserved
loop-next-preserved g c = record {
  below = c.in-Some.ensures.below;
  inwards = c.in-Some.ensures.inwards;
  lifts = λ p a. c.loop-next.invariant.lifts p (c.in-Some.ensures.part_for.lifts p a);
}

pub returns : goal.returns
returns g c = c.loop-next.invariant.lifts c.first.result
    (alone c.args.hand (g.H.Half.tree c.loop-next.part) c.args.q c.first.result c.in_default.ensures c.first.ensures)
