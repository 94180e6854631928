-- the side of the point as seen along the lower bridge decides which half has the tangent point
use Rattle.hull_questions.proofs.TangentParts.{near_part, far_part}
use Rattle.hull_questions.proofs.questions.tangents.tangent_part.Goals.{then-beyond, else-beyond, then-beyond-2}
use Rattle.hull_questions.proofs.questions.tangents.tangent_part.Goals.{else-beyond-2}
use Rattle.lattice.proofs.Tests.{passed, failed}
use Rattle.hull_questions.proofs.questions.tangents.tangent_part.Goals as goal

pub returns-after-beyond : goal.returns-after-beyond
returns-after-beyond g c = elim c.if-beyond.branch [
  | then-beyond w ↦ far_part c.args.hand (g.H.Half.tree c.args.half) _ c.args.q c.in_ok-bridge.bridge
      (g.met.H.Half.bridged c.args.half) c.in_ok-bridge.ensures c.requires.below
      (passed c.is_beyond-beyond.result _ w.if-beyond.true c.is_beyond-beyond.ensures)
      (rw (w.result-is, c.in-Left.is) w.right.ensures)
  | else-beyond w ↦ near_part c.args.hand (g.H.Half.tree c.args.half) _ c.args.q c.in_ok-bridge.bridge
      (g.met.H.Half.bridged c.args.half) c.in_ok-bridge.ensures c.requires.below c.requires.inwards
      (failed c.is_beyond-beyond.result _ w.if-beyond.false c.is_beyond-beyond.ensures)
      (rw (w.result-is, c.in-Left.is) w.left.ensures)
]

pub returns-after-beyond-2 : goal.returns-after-beyond-2
returns-after-beyond-2 g c = elim c.if-beyond-2.branch [
  | then-beyond-2 w ↦ far_part c.args.hand (g.H.Half.tree c.args.half) _ c.args.q c.in_ok-bridge.bridge
      (g.met.H.Half.bridged c.args.half) c.in_ok-bridge.ensures c.requires.below
      (passed c.is_beyond-beyond.result _ w.if-beyond-2.true c.is_beyond-beyond.ensures)
      (rw (w.result-is, c.in-Right.is) w.left-then-beyond-2.ensures)
  | else-beyond-2 w ↦ near_part c.args.hand (g.H.Half.tree c.args.half) _ c.args.q c.in_ok-bridge.bridge
      (g.met.H.Half.bridged c.args.half) c.in_ok-bridge.ensures c.requires.below c.requires.inwards
      (failed c.is_beyond-beyond.result _ w.if-beyond-2.false c.is_beyond-beyond.ensures)
      (rw (w.result-is, c.in-Right.is) w.right-else-beyond-2.ensures)
]
