-- the vertices go forward up to the index that the bisection found, and not from it
use Rattle.std.proofs.Common.{rules, of_calls}
use Rattle.hull_polygon.proofs.Rings.{round_of, summit_of}
use Rattle.hull_polygon.proofs.rounds.summit.Goals as goal

pub returns-clause-parts : goal.returns-clause-parts
returns-clause-parts c = λ o.
    round_of o.0 c.args.vertices.now c.first_failing.result o.1
    (summit_of o.0 c.args.vertices.now c.first_failing.result o.1 c.requires c.first_failing.ensures.to
    (λ h. let k = c.first_failing.ensures.held h in search (rules, of_calls))
    (λ h b. let k = c.first_failing.ensures.fails h in search (rules, of_calls)))
