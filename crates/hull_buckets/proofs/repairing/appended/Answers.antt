-- one pass goes over the point, and one from there over the vertices after it
use Rattle.std.proofs.Common.{◌+◌, ◌++◌, ◌∷◌, [], length, arith}
use Rattle.hull_geometry.specs.Positions.{point_at}
use Rattle.hull_geometry.proofs.Passes.{passed_through}
use Rattle.hull_buckets.specs.Masks.{at_places}
use Rattle.hull_buckets.proofs.Words.{power_le}
use Rattle.hull_buckets.proofs.repairing.appended.Goals as goal

pub taken_up-requires-clause-apart : goal.taken_up-requires-clause-apart
taken_up-requires-clause-apart c = (c.args.place + 1, c.pushed-front.ensures.within, c.requires.high_after)

pub taken_up-requires-clause-chain_within : goal.taken_up-requires-clause-chain_within
taken_up-requires-clause-chain_within c =
    let p = power_le (c.args.place + 1) (length c.args.points.now) (omega (arith, c.requires.within)) in
    let w = c.pushed-front.ensures.within in
    omega (arith, p, w)

pub returns-clause-within : goal.returns-clause-within
returns-clause-within c =
    let p = power_le (c.args.place + 1) (length c.args.points.now) (omega (arith, c.requires.within)) in
    let w = c.pushed-front.ensures.within in
    c.taken_up.ensures.within (length c.args.points.now) (omega (arith, p, w)) c.requires.high_within

pub returns-clause-passed : goal.returns-clause-passed
returns-clause-passed c =
    passed_through c.args.side (at_places c.args.low c.args.points.now ++ point_at c.args.points.now c.args.place ∷ [])
    (at_places c.pushed-front.result c.args.points.now) (at_places c.args.high c.args.points.now)
    (at_places c.taken_up.result c.args.points.now) c.pushed-front.ensures.passed c.taken_up.ensures.passed
