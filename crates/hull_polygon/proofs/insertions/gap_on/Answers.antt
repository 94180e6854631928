-- the two bisections found the vertices that the tangents touch
use Rattle.std.proofs.Common.{rules, of_calls}
use Rattle.hull_polygon.proofs.Made.{separated_is_polygon}
use Rattle.hull_geometry.proofs.EdgesAt.{outside_right}
use Rattle.hull_polygon.proofs.PutBetween.{IsFound, put_between_tangents, gap_within, amid_vertices}
use Rattle.hull_polygon.proofs.insertions.gap_on.Goals as goal
use Rattle.hull_polygon.proofs.insertions.gap_on.Goals.{After-first_failing_on-2}

-- what the bisections found
found : (c : After-first_failing_on-2) → IsFound c.args.side c.args.vertices.now c.args.last c.first_failing_on.result c.first_failing_on-2.result c.args.p
found c = record {
  amid = c.requires.amid;
  from = c.first_failing_on.ensures.from;
  below = c.first_failing_on.ensures.to;
  above = c.first_failing_on-2.ensures.from;
  to = c.first_failing_on-2.ensures.to;
  passed = λ h. let k = c.first_failing_on.ensures.held h in search (rules, of_calls);
  not_passed = λ h b. let k = c.first_failing_on.ensures.fails h in search (rules, of_calls);
  not_to_come = λ h b. let k = c.first_failing_on-2.ensures.held h in search (rules, of_calls);
  to_come = λ h. let k = c.first_failing_on-2.ensures.fails h in search (rules, of_calls);
}

pub returns-clause-gap : goal.returns-clause-gap
returns-clause-gap c =
    let some = separated_is_polygon c.args.vertices.now c.args.last c.requires.separated in
    gap_within c.args.side some.0 c.args.vertices.now c.args.last c.first_failing_on.result c.first_failing_on-2.result
    c.args.p some.1 c.requires.separated c.requires.some (found c) (c.requires.outwards some.0 some.1)

pub returns-clause-insertion : goal.returns-clause-insertion
returns-clause-insertion c = λ S o.
    let right = c.requires.outwards S o in (
      outside_right c.args.side S c.args.p right,
      amid_vertices c.args.vertices.now c.args.last c.args.p c.requires.some c.requires.amid,
      put_between_tangents c.args.side S c.args.vertices.now c.args.last c.first_failing_on.result
          c.first_failing_on-2.result c.args.p o c.requires.separated c.requires.some (found c) right,
    )
