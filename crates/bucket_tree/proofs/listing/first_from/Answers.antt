-- what is from the start's index on, or from the index at which it would be
use Rattle.bucket_tree.proofs.ListedParts.{from_position, from_gap}
use Rattle.bucket_tree.proofs.listing.first_from.Goals as goal

pub returns-in-Ok-clause-from : goal.returns-in-Ok-clause-from
returns-in-Ok-clause-from c =
    from_position c.args.start c.args.bucket.now.points c.args.bucket.now.multiplicities c.in-Ok.place
    c.buckets_are_sound.ensures.ordered c.in-Ok.ensures

pub returns-in-Err-clause-from : goal.returns-in-Err-clause-from
returns-in-Err-clause-from c =
    from_gap c.args.start c.args.bucket.now.points c.args.bucket.now.multiplicities c.in-Err.place c.in-Err.ensures
