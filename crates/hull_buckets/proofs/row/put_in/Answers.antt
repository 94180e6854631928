-- what was copied up by one leaves an index for the value
use Rattle.hull_buckets.proofs.Rows.{put}
use Rattle.hull_buckets.proofs.row.put_in.Goals as goal

pub returns-clause-items : goal.returns-clause-items
returns-clause-items g c =
    put c.args.items.now c.copy_within.new.self c.args.place c.args.count c.args.item c.copy_within.ensures.after
    c.requires.order c.requires.space
