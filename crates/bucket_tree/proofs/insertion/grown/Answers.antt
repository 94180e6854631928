-- a bucket is well built
use Rattle.std.proofs.Common.{subst, refl}
use Rattle.hull_buckets.specs.Buckets.{IsBucket}
use Rattle.bucket_tree.proofs.BuiltLeaves.{leaf_built}
use Rattle.bucket_tree.proofs.insertion.grown.Goals as goal

pub returns-clause-built : goal.returns-clause-built
returns-clause-built c = leaf_built _ c.put-sides.new.bucket refl (subst IsBucket c.deref.ensures c.buckets_are_sound.ensures)
