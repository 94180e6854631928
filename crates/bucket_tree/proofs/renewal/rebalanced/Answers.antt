-- a renewed fork over near halves is well built
use Rattle.std.proofs.Common.{ap, arith}
use Rattle.bucket_tree.specs.Nodes.{node_height}
use Rattle.bucket_tree.specs.declared.node.Fork.{Fork}
use Rattle.bucket_tree.proofs.InPlace.{fork_built}
use Rattle.bucket_tree.proofs.renewal.rebalanced.Goals as goal

pub returns-then-on_right-on_left-clause-built : goal.returns-then-on_right-on_left-clause-built
returns-then-on_right-on_left-clause-built c =
    let l = ap (λ (z : Fork). node_height z.left) c.deref.ensures in
    let r = ap (λ (z : Fork). node_height z.right) c.deref-2.ensures in
    fork_built _ _ c.requires.renewed (
      omega (arith, c.if-on_left-on_right.true, c.if-on_right-on_left.true, l, r),
      omega (
        arith,
        c.if-on_left-on_right.true,
        c.if-on_right-on_left.true,
        l,
        r,
      ),
    )
    (omega (arith, c.max.ensures, l, r))
