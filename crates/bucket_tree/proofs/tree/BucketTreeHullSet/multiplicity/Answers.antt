-- a point has a multiplicity exactly if it is one of the points
use Rattle.bucket_tree.proofs.Rooted.{root_held}
use Rattle.bucket_tree.proofs.tree.BucketTreeHullSet.multiplicity.Goals as goal

pub returns-clause-live : goal.returns-clause-live
returns-clause-live c =
    rw c.multiplicity.ensures.multiplicities ((root_held c.args.self.now.root c.bucket_trees_are_sound.ensures.built).live c.args.p)
