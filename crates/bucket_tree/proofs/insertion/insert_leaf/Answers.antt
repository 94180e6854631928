-- the two buckets are in a row, and have the point
use Rattle.std.proofs.Common.{◌+◌, ◌++◌, ◌∙◌, ap, refl, subst, sym}
use Rattle.lattice.specs.Covers.{IsPointSet, with_point}
use Rattle.hull_geometry.proofs.SetLaws.{ordered_with}
use Rattle.hull_set.specs.Held.{once}
use Rattle.hull_buckets.specs.Buckets.{BucketValue, IsBucket}
use Rattle.bucket_tree.specs.Counts.{counted}
use Rattle.bucket_tree.specs.Nodes.{multiplicities_below}
use Rattle.bucket_tree.proofs.BuiltLeaves.{leaf_built}
use Rattle.bucket_tree.proofs.NodeRows.{in_row}
use Rattle.bucket_tree.proofs.insertion.insert_leaf.Goals as goal

pub join-node-requires-clause-row : goal.join-node-requires-clause-row
join-node-requires-clause-row c =
    in_row _ _ (leaf_built _ c.divide.new.first refl (subst IsBucket c.deref-2.ensures c.buckets_are_sound.ensures))
    (leaf_built _ c.divide.new.second refl (subst IsBucket c.deref-3.ensures c.buckets_are_sound-2.ensures))
    (subst IsPointSet
    (sym (c.divide.ensures.points ∙ ap (λ (b : BucketValue). with_point c.args.p b.points) c.deref_mut.ensures.value))
    (ordered_with c.args.p c.args.bucket.value.points c.requires.built.ordered))

pub returns-clause-gained : goal.returns-clause-gained
returns-clause-gained c = (
  c.join-node.ensures.points ∙ c.divide.ensures.points
      ∙ ap (λ (b : BucketValue). with_point c.args.p b.points) c.deref_mut.ensures.value,
  λ q. ap (λ z. counted z (multiplicities_below c.join-node.result.0) q) c.join-node.ensures.points
      ∙ ap (λ z. counted (c.divide.new.first.points ++ c.divide.new.second.points) z q) c.join-node.ensures.multiplicities
      ∙ c.divide.ensures.multiplicities q
      ∙ ap (λ (b : BucketValue). counted b.points b.multiplicities q + once c.args.p q) c.deref_mut.ensures.value,
)
