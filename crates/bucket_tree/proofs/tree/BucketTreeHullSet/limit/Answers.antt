-- the type of trees keeps it
use Rattle.std.proofs.Common.{ap, subst}
use Rattle.bucket_tree.specs.Sets.{LimitedTree, IsSound}
use Rattle.bucket_tree.proofs.Rooted.{sound}
use Rattle.bucket_tree.proofs.tree.BucketTreeHullSet.limit.Goals as goal

pub returns-clause-sound : goal.returns-clause-sound
returns-clause-sound c = subst IsSound (ap (λ (z : LimitedTree). z.root) c.self.view_is) (sound _ _ _ c.self.invariant)
