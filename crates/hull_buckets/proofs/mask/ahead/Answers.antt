-- the lowest index is within the bound
use Rattle.std.proofs.Common.{arith}
use Rattle.hull_buckets.proofs.Words.{top_before}
use Rattle.hull_buckets.proofs.mask.ahead.Goals as goal

pub returns-clause-within : goal.returns-clause-within
returns-clause-within c =
    let t = top_before c.args.mask c.lowest.result c.args.count c.lowest.ensures.least c.requires in omega (arith, t)
