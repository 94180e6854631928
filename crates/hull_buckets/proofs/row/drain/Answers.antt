-- what was copied down by one covers the value
use Rattle.hull_buckets.proofs.Rows.{taken}
use Rattle.hull_buckets.proofs.row.drain.Goals as goal

pub returns-clause-items : goal.returns-clause-items
returns-clause-items g c =
    taken c.args.items.now c.copy_within.new.self c.args.place c.args.count c.copy_within.ensures.after
    c.requires.order c.requires.within
