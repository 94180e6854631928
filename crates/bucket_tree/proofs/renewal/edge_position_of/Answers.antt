-- the results of the tests
use Rattle.hull_geometry.proofs.Fringed.{strictly_inner}
use Rattle.leaf_trees.proofs.Counting.{other_point}
use Rattle.leaf_trees.proofs.Multiplicities.{same_point}
use Rattle.bucket_tree.proofs.Added.{beyond_not_clear, outwards_not_clear}
use Rattle.bucket_tree.proofs.Gained.{failed, passed}
use Rattle.bucket_tree.proofs.renewal.edge_position_of.Goals.{else-before-via-else-before, else-before-via-then-before+else-before-2}
use Rattle.bucket_tree.proofs.renewal.edge_position_of.Goals.{else-ne-via-else-ne, else-ne-via-then-ne+else-ne-2}
use Rattle.bucket_tree.proofs.renewal.edge_position_of.Goals.{else-ne-via-then-ne+then-ne-2+else-is_inwards}
use Rattle.bucket_tree.proofs.renewal.edge_position_of.Goals as goal

pub returns-then-is_inner : goal.returns-then-is_inner
returns-then-is_inner c = (
  passed c.before-2.result c.before-2.ensures.0 c.if-before.true,
  passed c.before-then-before.result c.before-then-before.ensures.0 c.if-before-2.true,
  passed c.is_inner.result c.is_inner.ensures.0 c.if-is_inner.true,
)

pub returns-then-before-2 : goal.returns-then-before-2
returns-then-before-2 c = outwards_not_clear c.args.side c.args.edge.now c.args.p
    (failed c.is_inner.result c.is_inner.ensures.1 c.if-is_inner.false)

pub returns-then-is_inwards : goal.returns-then-is_inwards
returns-then-is_inwards c = (
  other_point _ _ c.ne.ensures c.if-ne.true,
  other_point _ _ c.ne-then-ne.ensures c.if-ne-2.true,
  strictly_inner c.args.side _ _ c.args.p (passed c.is_inwards.result c.is_inwards.ensures.0 c.if-is_inwards.true),
)

pub returns : goal.returns
returns c = elim c.else-ne.branch [
  | else-ne-via-then-ne+then-ne-2+else-is_inwards w ↦ beyond_not_clear c.args.side c.args.edge.now c.args.p
      (failed w.is_inwards.result w.is_inwards.ensures.1 w.if-is_inwards.false)
      (λ b. elim c.else-before.branch [
        | else-before-via-then-before+else-before-2 v ↦
            failed v.before-then-before.result v.before-then-before.ensures.1 v.if-before-2.false b.1
        | else-before-via-else-before v ↦ failed c.before-2.result c.before-2.ensures.1 v.if-before.false b.0
      ])
  | else-ne-via-then-ne+else-ne-2 w ↦ λ k. k.1 (same_point _ _ w.ne-then-ne.ensures w.if-ne-2.false)
  | else-ne-via-else-ne w ↦ λ k. k.0 (same_point _ _ c.ne.ensures w.if-ne.false)
]
