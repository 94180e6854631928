-- the bisection found the vertex up to which the edges are passed, or from which they are to come
use Rattle.std.proofs.Common.{rules, of_calls}
use Rattle.hull_polygon.proofs.TangentsOf.{left_at, right_at}
use Rattle.hull_polygon.proofs.tangents.tangent_on.Goals as goal

pub returns-in-Left : goal.returns-in-Left
returns-in-Left c = λ S o.
    rw (c.in-Left.is, c.vertex_at.ensures)
    (left_at c.args.side S c.args.vertices.now c.args.last c.first_failing_on.result c.args.q o c.requires.separated
    c.requires.some (rw c.in-Left.is at (c.requires.seen S o)) c.first_failing_on.ensures.from c.first_failing_on.ensures.to
    (λ h. let k = c.first_failing_on.ensures.held h in search (rules, of_calls))
    (λ h b. let k = c.first_failing_on.ensures.fails h in search (rules, of_calls)))

pub returns-in-Right : goal.returns-in-Right
returns-in-Right c = λ S o.
    rw (c.in-Right.is, c.vertex_at-in-Right.ensures)
    (right_at c.args.side S c.args.vertices.now c.args.last c.first_failing_on-in-Right.result c.args.q o c.requires.separated
    c.requires.some (rw c.in-Right.is at (c.requires.seen S o)) c.first_failing_on-in-Right.ensures.from
    c.first_failing_on-in-Right.ensures.to
    (λ h b. let k = c.first_failing_on-in-Right.ensures.held h in search (rules, of_calls))
    (λ h. let k = c.first_failing_on-in-Right.ensures.fails h in search (rules, of_calls)))
