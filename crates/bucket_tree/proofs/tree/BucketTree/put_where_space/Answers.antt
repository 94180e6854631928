-- the root is well built and low, and there is capacity for one more point
use Rattle.std.proofs.Common.{◌≡◌, ap, arith, length, Some, refl}
use Rattle.bucket_tree.specs.Nodes.{node_height}
use Rattle.bucket_tree.specs.Roots.{points_of_root}
use Rattle.bucket_tree.specs.Sets.{LimitedTree}
use Rattle.bucket_tree.proofs.MostTurns.{few_turns}
use Rattle.bucket_tree.proofs.Rooted.{absent_below, built_root, limited_root, limited_with, low_root}
use Rattle.bucket_tree.proofs.tree.BucketTree.put_where_space.Goals as goal

pub put_in_place-requires-clause-low : goal.put_in_place-requires-clause-low
put_in_place-requires-clause-low c =
    low_root c.self.inside.root c.in-Some.root _ _ c.self.invariant cc

pub invariant_of-self-in-Ok : goal.invariant_of-self-in-Ok
invariant_of-self-in-Ok c =
    let r : c.self.inside.root ≡ Some c.in-Some.root = cc in
    limited_with c.in-Some.root c.put_in_place.new.node c.args.p c.self.inside.count c.self.inside.limit
    (limited_root _ _ _ _ c.self.invariant r)
    c.in-Ok.ensures.put.in_place.built c.in-Ok.ensures.put.gained.0
    (absent_below (Some c.in-Some.root) c.in-Some.root c.args.p refl (built_root _ _ _ _ c.self.invariant r)
    c.in-Ok.ensures.put.absent)
    (omega (
      arith,
      c.requires.space,
      c.self.invariant.counted,
      ap (λ (z : LimitedTree). length (points_of_root z.root)) c.self.view_is,
      ap (λ (z : LimitedTree). z.limit) c.self.view_is,
    ))

pub returns-in-Ok-clause-few : goal.returns-in-Ok-clause-few
returns-in-Ok-clause-few c =
    let h = low_root c.self.inside.root c.in-Some.root _ _ c.self.invariant cc in
    omega (arith, few_turns (node_height c.in-Some.root) h, c.in-Ok.ensures.put.in_place.turns)
