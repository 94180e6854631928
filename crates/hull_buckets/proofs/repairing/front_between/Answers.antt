-- the points between are those that may be vertices
use Rattle.std.proofs.Common.{length}
use Rattle.hull_buckets.proofs.Outwards.{first_of_high, front_all, front_outwards, gap_after, gap_within, last_of_low}
use Rattle.hull_buckets.proofs.Words.{top_before}
use Rattle.hull_buckets.proofs.repairing.front_between.Goals as goal

pub passed_over-requires-clause-apart : goal.passed_over-requires-clause-apart
passed_over-requires-clause-apart c = gap_after c.args.low c.args.high (length c.args.points.now)
    c.between-middle.result
    c.between-middle.ensures

pub passed_over-requires-clause-rest_within : goal.passed_over-requires-clause-rest_within
passed_over-requires-clause-rest_within c = (gap_within c.args.low c.args.high (length c.args.points.now)
    c.between-middle.result c.between-middle.ensures).1

pub returns-then-low-eq0 : goal.returns-then-low-eq0
returns-then-low-eq0 c = front_all c.args.side c.args.points.now c.args.low c.args.high c.between-middle.result
    c.passed_over.result c.requires.ordered c.requires.ends c.between-middle.ensures c.passed_over.ensures.within
    c.passed_over.ensures.passed

pub bounds-points-highest : goal.bounds-points-highest
bounds-points-highest c = top_before c.args.low c.highest.result (length c.args.points.now) c.highest.ensures.there
    c.requires.ends.low_within

pub bounds-points-lowest : goal.bounds-points-lowest
bounds-points-lowest c = top_before c.args.high c.lowest.result (length c.args.points.now) c.lowest.ensures.least
    c.requires.ends.high_within

pub passed_outwards-requires-clause-apart : goal.passed_outwards-requires-clause-apart
passed_outwards-requires-clause-apart c = gap_after c.args.low c.args.high (length c.args.points.now)
    c.between-middle.result c.between-middle.ensures

pub passed_outwards-requires-clause-rest_within : goal.passed_outwards-requires-clause-rest_within
passed_outwards-requires-clause-rest_within c = (gap_within c.args.low c.args.high (length c.args.points.now)
    c.between-middle.result c.between-middle.ensures).1

pub returns : goal.returns
returns c = front_outwards c.args.side c.args.points.now c.args.low c.args.high c.between-middle.result
    c.passed_outwards.result c.requires.ordered c.requires.ends c.between-middle.ensures
    c.passed_outwards.ensures.within
    c.index-points-highest.result c.index-points-lowest.result
    (last_of_low c.args.points.now c.args.low c.highest.result c.index-points-highest.result
    c.requires.ends.low_within c.highest.ensures.there c.highest.ensures.none_above c.index-points-highest.is)
    (first_of_high c.args.points.now c.args.high c.lowest.result c.index-points-lowest.result
    c.requires.ends.high_within
    c.lowest.ensures.least c.lowest.ensures.there c.index-points-lowest.is)
    c.passed_outwards.ensures.passed
