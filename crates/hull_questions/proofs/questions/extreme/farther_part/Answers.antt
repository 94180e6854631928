-- the end of the bridge that lies farther is in the half that has the first of the farthest points
use Rattle.hull_questions.proofs.Extremes.{farther_left, farther_right, facing_fork, down_left, down_right}
use Rattle.lattice.proofs.Tests.{passed, failed}
use Rattle.hull_questions.proofs.questions.extreme.farther_part.Goals as goal

pub returns-then-is_nearer-clause-part : goal.returns-then-is_nearer-clause-part
returns-then-is_nearer-clause-part g c =
    rw c.right.ensures
    (farther_right c.args.d (g.H.Half.tree c.args.half) c.in_ok-p.p c.in_ok-p.q
    (g.met.H.Half.bridged c.args.half) c.in_ok-p.ensures
    (passed c.is_nearer.result _ c.if-is_nearer.true c.is_nearer.ensures))

pub returns-else-is_nearer-clause-part : goal.returns-else-is_nearer-clause-part
returns-else-is_nearer-clause-part g c =
    rw c.left.ensures
    (farther_left c.args.d (g.H.Half.tree c.args.half) c.in_ok-p.p c.in_ok-p.q
    (g.met.H.Half.bridged c.args.half) c.in_ok-p.ensures
    (failed c.is_nearer.result _ c.if-is_nearer.false c.is_nearer.ensures))

pub returns-then-is_nearer-clause-down : goal.returns-then-is_nearer-clause-down
returns-then-is_nearer-clause-down g c =
    rw c.right.ensures (down_right (g.H.Half.tree c.args.half)
    (facing_fork c.args.d (g.H.Half.tree c.args.half) _ c.in_ok-p.ensures))

pub returns-else-is_nearer-clause-down : goal.returns-else-is_nearer-clause-down
returns-else-is_nearer-clause-down g c =
    rw c.left.ensures (down_left (g.H.Half.tree c.args.half)
    (facing_fork c.args.d (g.H.Half.tree c.args.half) _ c.in_ok-p.ensures))
