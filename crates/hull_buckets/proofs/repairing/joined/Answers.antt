-- with the first and the last point for ends, the front, and on over the vertices after it, is the chain of all
use Rattle.std.proofs.Common.{length}
use Rattle.hull_buckets.proofs.Outwards.{joined_is}
use Rattle.hull_buckets.proofs.repairing.joined.Goals as goal

pub front_between-front-requires-clause-ends : goal.front_between-front-requires-clause-ends
front_between-front-requires-clause-ends c = c.with_last-high.ensures c.args.side c.requires.ordered
    (c.with_first-low.ensures c.args.side c.requires.ordered c.requires.ends)

pub taken_up-requires-clause-rest_within : goal.taken_up-requires-clause-rest_within
taken_up-requires-clause-rest_within c = (c.with_last-high.ensures c.args.side c.requires.ordered
    (c.with_first-low.ensures c.args.side c.requires.ordered c.requires.ends)).high_within

pub taken_up-requires-clause-rest_convex : goal.taken_up-requires-clause-rest_convex
taken_up-requires-clause-rest_convex c = (c.with_last-high.ensures c.args.side c.requires.ordered
    (c.with_first-low.ensures c.args.side c.requires.ordered c.requires.ends)).high_convex

pub returns : goal.returns
returns c =
    let ends = c.with_last-high.ensures c.args.side c.requires.ordered
    (c.with_first-low.ensures c.args.side c.requires.ordered c.requires.ends) in
    joined_is c.args.side c.args.points.now c.with_first-low.result c.with_last-high.result c.front_between-front.result
    c.taken_up.result
    c.requires.ordered ends c.front_between-front.ensures c.taken_up.ensures.passed
    (c.taken_up.ensures.within (length c.args.points.now) c.front_between-front.ensures.within
    ends.high_within)
