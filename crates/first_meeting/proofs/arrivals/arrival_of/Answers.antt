-- a hit within the motion, one beyond it, and a miss
use Rattle.first_meeting.proofs.Hits.{beyond_one, hit_one, missed_one}
use Rattle.first_meeting.proofs.arrivals.arrival_of.Goals as goal

pub returns-then-hit-clause-first : goal.returns-then-hit-clause-first
returns-then-hit-clause-first c = λ S o.
    hit_one S c.args.direction c.args.vertex c.in-Some.hit c.args.moves (c.in-Some.ensures S o) c.if-hit.true

pub returns-else-hit-clause-first : goal.returns-else-hit-clause-first
returns-else-hit-clause-first c = λ S o.
    beyond_one S c.args.direction c.args.vertex c.in-Some.hit (c.in-Some.ensures S o) c.if-hit.false

pub returns-in-None-clause-first : goal.returns-in-None-clause-first
returns-in-None-clause-first c = λ S o. missed_one S c.args.direction c.args.vertex (c.in-None.ensures S o)

pub returns-then-misses-clause-first : goal.returns-then-misses-clause-first
returns-then-misses-clause-first c = λ S o. c.misses.ensures c.if-misses.true S c.args.direction (c.requires S o)
