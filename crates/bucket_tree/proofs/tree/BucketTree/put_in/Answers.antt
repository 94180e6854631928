-- the root is well built and low, the point is not below it, and there is capacity for one more
use Rattle.std.proofs.Common.{◌≡◌, ◌∙◌, ap, arith, length, subst, sym, Some}
use Rattle.bucket_tree.specs.Counts.{HasGained}
use Rattle.bucket_tree.specs.Nodes.{node_height}
use Rattle.bucket_tree.specs.Roots.{points_of_root}
use Rattle.bucket_tree.specs.Sets.{LimitedTree}
use Rattle.bucket_tree.proofs.MostTurns.{few_turns}
use Rattle.bucket_tree.proofs.Rooted.{absent_below, built_root, limited_root, limited_with, low_root}
use Rattle.bucket_tree.proofs.tree.BucketTree.put_in.Goals as goal

pub insert-change-requires-clause-absent : goal.insert-change-requires-clause-absent
insert-change-requires-clause-absent c =
    let r : c.self.inside.root ≡ Some c.in-Some.root = cc in
    absent_below _ c.in-Some.root c.args.p (sym (ap (λ (z : LimitedTree). z.root) c.self.view_is) ∙ r)
    (built_root _ _ _ _ c.self.invariant r) c.requires.absent

pub insert-change-requires-clause-low : goal.insert-change-requires-clause-low
insert-change-requires-clause-low c =
    low_root c.self.inside.root c.in-Some.root _ _ c.self.invariant cc

pub returns-then-change-clause-few : goal.returns-then-change-clause-few
returns-then-change-clause-few c =
    let h = low_root c.self.inside.root c.in-Some.root _ _ c.self.invariant cc in
    omega (arith, few_turns (node_height c.in-Some.root) h, c.insert-change.ensures.turns)

pub invariant_of-self-2 : goal.invariant_of-self-2
invariant_of-self-2 c =
    let r : c.self.inside.root ≡ Some c.in-Some.root = cc in
    let v : c.args.self.now.root ≡ Some c.in-Some.root = sym (ap (λ (z : LimitedTree). z.root) c.self.view_is) ∙ r in
    limited_with c.in-Some.root c.insert-change.result.node c.args.p c.self.inside.count c.self.inside.limit
    (limited_root _ _ _ _ c.self.invariant r)
    c.insert-change.ensures.built
    (subst (λ z. HasGained z c.args.p c.in-Some.root c.insert-change.result.node) c.if-change.false
    c.insert-change.ensures.gained).0
    (absent_below _ c.in-Some.root c.args.p v (built_root _ _ _ _ c.self.invariant r) c.requires.absent)
    (omega (
      arith,
      c.requires.space,
      c.self.invariant.counted,
      ap (λ (z : LimitedTree). length (points_of_root z.root)) c.self.view_is,
      ap (λ (z : LimitedTree). z.limit) c.self.view_is,
    ))

pub returns-clause-few : goal.returns-clause-few
returns-clause-few c =
    let h = low_root c.self.inside.root c.in-Some.root _ _ c.self.invariant cc in
    omega (arith, few_turns (node_height c.in-Some.root) h, c.insert-change.ensures.turns)
