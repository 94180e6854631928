-- the ends of a fork are the first point below its left half and the last one below its right half
use Rattle.bucket_tree.proofs.NodePoints.{ends_of_fork}
use Rattle.bucket_tree.proofs.node.ends_of.Goals as goal

pub returns-in-Fork : goal.returns-in-Fork
returns-in-Fork c =
    ends_of_fork c.args.node.now c.in-Fork.field-0 c.in-Fork.fork _ _ c.in-Fork.is c.deref-in-Fork.ensures
    c.deref-in-Fork-2.ensures c.requires.buckets c.requires.labelled
