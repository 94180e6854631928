-- the root is well built and low, and what is left is a tree of one point less
use Rattle.std.proofs.Common.{◌≡◌, arith, Some}
use Rattle.bucket_tree.specs.Nodes.{node_height}
use Rattle.bucket_tree.proofs.MostTurns.{few_turns}
use Rattle.bucket_tree.proofs.Rooted.{limited_root, lost_limited, low_root}
use Rattle.bucket_tree.proofs.tree.BucketTree.take_where_others.Goals as goal

pub take_in_place-requires-clause-low : goal.take_in_place-requires-clause-low
take_in_place-requires-clause-low c =
    low_root c.self.inside.root c.in-Some.root _ _ c.self.invariant cc

pub invariant_of-self-in-Ok : goal.invariant_of-self-in-Ok
invariant_of-self-in-Ok c =
    let r : c.self.inside.root ≡ Some c.in-Some.root = cc in
    lost_limited c.in-Some.root (Some c.take_in_place.new.node) c.args.p c.self.inside.count c.self.inside.limit
    (limited_root _ _ _ _ c.self.invariant r)
    c.in-Ok.ensures.taken.once c.in-Ok.ensures.taken.lost

pub returns-in-Ok-clause-few : goal.returns-in-Ok-clause-few
returns-in-Ok-clause-few c =
    let h = low_root c.self.inside.root c.in-Some.root _ _ c.self.invariant cc in
    omega (arith, few_turns (node_height c.in-Some.root) h, c.in-Ok.ensures.taken.in_place.turns)
