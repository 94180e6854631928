-- a bucket is well built
use Rattle.bucket_tree.proofs.BuiltLeaves.{leaf_built}
use Rattle.bucket_tree.proofs.load.first_leaf.Goals as goal

pub returns-clause-built : goal.returns-clause-built
returns-clause-built c =
    leaf_built c.in_ok-new.field-0 c.new-bucket.result c.in_ok-new.ensures.ok c.buckets_are_sound.ensures
